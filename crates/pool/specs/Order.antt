-- A pool in order, whoever holds; and what a change of it keeps.
use Rattle.std.specs.Prelude.{◌≡◌, ℕ, ◌+◌, ◌<◌, ◌≤◌, List, length, ◌≢◌, slice_index, slice_index_or}
use Rattle.pool.specs.declared.node.Node.{Node}
use Rattle.pool.specs.Memory.{Memory, blank, free_node, node_at, count_at, height_at, slots_at, start_at, run_at, with_count, run_of}
use Rattle.pool.specs.Counts.{names, times, Counts, Heights, Held}

-- no height above 32
abbrev pub Low : List Node → Type 0
Low ns = (k : ℕ) → height_at ns k ≤ 32

-- room for eight slots at every node
abbrev pub Eight : List Node → Type 0
Eight ns = (k : ℕ) → k < length ns → length (slots_at ns k) ≡ 8

-- every run lies within the words
abbrev pub Within : List Node → List ℕ → Type 0
Within ns ws = (k : ℕ) → start_at ns k + run_at ns k ≤ length ws

-- no word is in two runs
abbrev pub Apart : List Node → Type 0
Apart ns = (j k : ℕ) → (j ≢ k) → 0 < run_at ns j → 0 < run_at ns k → start_at ns j ≤ start_at ns k → start_at ns j + run_at ns j ≤ start_at ns k

-- a node with a run has no slots
abbrev pub Slotless : List Node → Type 0
Slotless ns = (k c : ℕ) → 0 < run_at ns k → times c (names (slots_at ns k)) ≡ 0

-- what is not in use is the free node
abbrev pub Freed : List Node → Type 0
Freed ns = (k : ℕ) → k < length ns → count_at ns k ≡ 0 → slice_index_or ns k blank ≡ free_node

-- a word that no run has is 0
abbrev pub Cleared : List Node → List ℕ → Type 0
Cleared ns ws = (i : ℕ) → ((k : ℕ) → start_at ns k ≤ i → i < start_at ns k + run_at ns k → ⊥) → slice_index ws i ≡ 0

pub record Ordered (m : Memory) (hs : List ℕ) : Type 0 where
  pub nodes_long : length m.nodes ≡ 256
  pub words_long : length m.words ≡ 8192
  pub counts : Counts m.nodes hs
  pub heights : Heights m.nodes
  pub low : Low m.nodes
  pub eight : Eight m.nodes
  pub within : Within m.nodes m.words
  pub apart : Apart m.nodes
  pub slotless : Slotless m.nodes
  pub freed : Freed m.nodes
  pub cleared : Cleared m.nodes m.words

-- k is in q as it was in m, but for its count; and so is its run of words
pub record SameAt (m q : Memory) (k : ℕ) : Type 0 where
  pub same_node : node_at q k ≡ with_count (node_at m k) (count_at q.nodes k)
  pub same_run : run_of q k ≡ run_of m k

-- all that the holders reach is as it was
abbrev pub Keeps : Memory → Memory → List ℕ → Type 0
Keeps m q hs = (k : ℕ) → Held m.nodes hs k → SameAt m q k

-- what a change leaves to the holders that it does not concern
pub record Change (m q : Memory) (new hs : List ℕ) : Type 0 where
  pub ordered : Ordered q new
  pub keeps : Keeps m q hs
