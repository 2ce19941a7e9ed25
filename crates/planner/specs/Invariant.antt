-- A pool in order under a planner's roots, in the form that a planner holds it.
use Rattle.std.specs.Prelude.{◌≡◌, ℕ, ◌+◌, ◌<◌, ◌≤◌, Bool, true, false, ◌&&◌, List, [], ◌∷◌, length, Some, None, Option, ◌==◌, ◌≢◌, slice_index_or}
use Rattle.pool.specs.declared.node.Node.{Node}
use Rattle.pool.specs.Memory.{blank, count_at, start_at, run_at}

-- no word is in two runs
abbrev pub Disjoint : List Node → Type 0
Disjoint ns = (j k : ℕ) → (j ≢ k) × (0 < run_at ns j) × (0 < run_at ns k) × (start_at ns j ≤ start_at ns k) → start_at ns j + run_at ns j ≤ start_at ns k

-- no slot names anything
abbrev pub absent : List (Option ℕ) → Bool
absent [] = true
absent (None ∷ ss) = absent ss
absent (Some c ∷ ss) = false

-- each field is that of the free node
abbrev pub vacant : Node → Bool
vacant nd =
    (nd.encoding == 0) && (nd.kind == 0 && (nd.len == 0 && (nd.parameter == 0 && (nd.arity == 0
    && (nd.height == 0 && (nd.start == 0 && (nd.run == 0 && absent nd.slots)))))))

-- what is not in use is the free node
abbrev pub Vacant : List Node → Type 0
Vacant ns = (k : ℕ) → (k < length ns) × (count_at ns k ≡ 0) → vacant (slice_index_or ns k blank) ≡ true
