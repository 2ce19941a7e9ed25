-- The lowest free node, and the lowest run of unused words.
use Rattle.std.specs.Prelude.{◌≡◌, ℕ, zero, suc, ◌+◌, ◌-◌, ◌<◌, ◌≤◌, min, max, Bool, true, false, List, [], ◌∷◌, length, Some, None, Option, ◌==◌, nat_lt}
use Rattle.pool.specs.declared.node.Node.{Node}
use Rattle.pool.specs.Memory.{Memory, count_at, start_at, run_at}

-- the first node that is not in use; the list's first is number i
abbrev pub lowest_free : List Node → ℕ → Option ℕ
lowest_free [] i = None
lowest_free (nd ∷ ns) i = elim (nd.count == 0) [ true ↦ Some i | false ↦ lowest_free ns (i + 1) ]

-- how many nodes are not in use
abbrev pub free_nodes : List Node → ℕ
free_nodes [] = 0
free_nodes (nd ∷ ns) = elim (nd.count == 0) [ true ↦ 1 + free_nodes ns | false ↦ free_nodes ns ]

-- the node has one of the n words from `at` on
abbrev pub meets : Node → ℕ → ℕ → Bool
meets nd at n = nat_lt (max at nd.start) (min (at + n) (nd.start + nd.run))

-- none of the n words from `at` on is in use
abbrev pub unused : List Node → ℕ → ℕ → Bool
unused [] at n = true
unused (nd ∷ ns) at n = elim (meets nd at n) [ true ↦ false | false ↦ unused ns at n ]

-- the first of the starts from `at` on, as many as the first number says, with n unused words
abbrev pub lowest_run : ℕ → List Node → ℕ → ℕ → Option ℕ
lowest_run zero ns at n = None
lowest_run (suc f) ns at n = elim (unused ns at n) [ true ↦ Some at | false ↦ lowest_run f ns (at + 1) n ]

-- the lowest start of n unused words in a row
unfoldable pub find_run : Memory → ℕ → Option ℕ
find_run m n = lowest_run (suc (length m.words) - n) m.nodes 0 n

-- n words in a row from s on lie within the words, and no node has one of them
pub record Room (m : Memory) (n s : ℕ) : Type 0 where
  pub inside : s + n ≤ length m.words
  pub clear : (k i : ℕ) → s ≤ i → i < s + n → start_at m.nodes k ≤ i → i < start_at m.nodes k + run_at m.nodes k → ⊥

-- The answer of a search for n words: the lowest start with room, or none where no start has room.
abbrev pub Lowest : Memory → ℕ → Option ℕ → Type 0
Lowest m n None = (s : ℕ) → Room m n s → ⊥
Lowest m n (Some s) = Room m n s × ((t : ℕ) → t < s → Room m n t → ⊥)

-- The answer of a search for a node: the lowest that is not in use, or none where all are.
abbrev pub LowestNode : List Node → Option ℕ → Type 0
LowestNode ns None = (k : ℕ) → k < length ns → 0 < count_at ns k
LowestNode ns (Some i) = (i < length ns) × (count_at ns i ≡ 0) × ((k : ℕ) → k < i → 0 < count_at ns k)
