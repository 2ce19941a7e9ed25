-- Share counts: each is the number of holders and of slots of nodes in use that name the node.
use Rattle.std.specs.Prelude.{◌≡◌, ℕ, suc, ◌+◌, ◌<◌, max, cond, List, [], ◌∷◌, ◌++◌, Some, None, Option, ◌==◌, nat_lt, slice_index_or}
use Rattle.pool.specs.declared.node.Node.{Node}
use Rattle.pool.specs.Memory.{blank, count_at, height_at, slots_at}

-- what one slot names
abbrev pub name : Option ℕ → List ℕ
name None = []
name (Some c) = c ∷ []

-- what the slots name, or the roots
abbrev pub names : List (Option ℕ) → List ℕ
names [] = []
names (None ∷ ss) = names ss
names (Some c ∷ ss) = c ∷ names ss

-- 1 where the two are one
abbrev pub hit : ℕ → ℕ → ℕ
hit x k = cond (x == k) 1 0

-- how often k stands in a list
abbrev pub times : ℕ → List ℕ → ℕ
times k [] = 0
times k (x ∷ xs) = hit x k + times k xs

-- how often a node names k: not at all, where it is not in use
abbrev pub names_of : ℕ → Node → ℕ
names_of k nd = cond (nat_lt 0 nd.count) (times k (names nd.slots)) 0

-- how often the nodes in use name k
abbrev pub named : ℕ → List Node → ℕ
named k [] = 0
named k (nd ∷ ns) = names_of k nd + named k ns

-- each count is the number of holders, and of slots of nodes in use, that name the node
abbrev pub Counts : List Node → List ℕ → Type 0
Counts ns hs = (k : ℕ) → count_at ns k ≡ times k hs + named k ns

-- the height of the tallest of what the slots name, 0 where they name nothing
abbrev pub tallest : List Node → List (Option ℕ) → ℕ
tallest ns [] = 0
tallest ns (None ∷ ss) = tallest ns ss
tallest ns (Some c ∷ ss) = max (height_at ns c) (tallest ns ss)

-- each node in use is one higher than the tallest that it names
abbrev pub Heights : List Node → Type 0
Heights ns = (k : ℕ) → 0 < count_at ns k → height_at ns k ≡ suc (tallest ns (slots_at ns k))

-- a node in use names only lower ones
abbrev pub Falling : List Node → Type 0
Falling ns = (k c : ℕ) → 0 < names_of c (slice_index_or ns k blank) → height_at ns c < height_at ns k

-- n is held once more than by the other holders
abbrev pub Owed : List Node → ℕ → Type 0
Owed ns n = (hs : List ℕ) × Counts ns (n ∷ hs)

abbrev pub OwedAll : List Node → List (Option ℕ) → Type 0
OwedAll ns ss = (hs : List ℕ) × Counts ns (names ss ++ hs)

-- what is reached from a node, over slots
pub data Reaches (ns : List Node) (a : ℕ) : ℕ → Type 0 where
  here : Reaches ns a a
  step : {b : ℕ} → Reaches ns a b → (c : ℕ) → 0 < times c (names (slots_at ns b)) → Reaches ns a c

-- some holder reaches k
abbrev pub Held : List Node → List ℕ → ℕ → Type 0
Held ns hs k = (a : ℕ) × (0 < times a hs) × Reaches ns a k

-- a node is in use exactly when some holder reaches it
abbrev pub Exact : List Node → List ℕ → Type 0
Exact ns hs = (k : ℕ) → (0 < count_at ns k → Held ns hs k) × (Held ns hs k → 0 < count_at ns k)
