-- The memory of a pool: nodes and words. A node that is not in use is the free node, and a word that is not in use is 0.
use Rattle.std.specs.Prelude.{ℕ, List, [], ◌++◌, get_or, take, drop, replicate, None, Option, slice_index_or, slice_set}
use Rattle.pool.specs.declared.node.Node.{Node}

pub record Memory : Type 0 where
  pub nodes : List Node
  pub words : List ℕ

-- what reading past the nodes gives
abbrev pub blank : Node
blank = record { encoding = 0; kind = 0; len = 0; parameter = 0; arity = 0; slots = []; height = 0; count = 0; start = 0; run = 0 }

abbrev pub no_slots : List (Option ℕ)
no_slots = replicate 8 None

-- a node that is not in use
abbrev pub free_node : Node
free_node = record { encoding = 0; kind = 0; len = 0; parameter = 0; arity = 0; slots = no_slots; height = 0; count = 0; start = 0; run = 0 }

-- a pool in which nothing is in use
abbrev pub empty_memory : Memory
empty_memory = record { nodes = replicate 256 free_node; words = replicate 8192 0 }

abbrev pub node_at : Memory → ℕ → Node
node_at m k = slice_index_or m.nodes k blank

abbrev pub count_at : List Node → ℕ → ℕ
count_at ns k = (get_or ns k blank).count

abbrev pub height_at : List Node → ℕ → ℕ
height_at ns k = (get_or ns k blank).height

abbrev pub slots_at : List Node → ℕ → List (Option ℕ)
slots_at ns k = (get_or ns k blank).slots

abbrev pub start_at : List Node → ℕ → ℕ
start_at ns k = (get_or ns k blank).start

abbrev pub run_at : List Node → ℕ → ℕ
run_at ns k = (get_or ns k blank).run

-- the node with another count
abbrev pub with_count : Node → ℕ → Node
with_count nd c = record nd { count = c }

-- the node with other slots, at another height
abbrev pub with_slots : Node → List (Option ℕ) → ℕ → Node
with_slots nd ss h = record nd { slots = ss; height = h }

-- the node with another encoding
abbrev pub with_encoding : Node → ℕ → Node
with_encoding nd e = record nd { encoding = e }

-- the memory with another node at k
abbrev pub put_node : Memory → ℕ → Node → Memory
put_node m k nd = record { nodes = slice_set m.nodes k nd; words = m.words }

abbrev pub with_words : Memory → List ℕ → Memory
with_words m ws = record { nodes = m.nodes; words = ws }

-- the n words from s on, and the words with others in the place of those
abbrev pub part : List ℕ → ℕ → ℕ → List ℕ
part ws s n = take n (drop s ws)

abbrev pub overwritten : List ℕ → ℕ → ℕ → List ℕ → List ℕ
overwritten ws s n xs = take s ws ++ (xs ++ drop n (drop s ws))

-- the run of words that a node has
abbrev pub run_of : Memory → ℕ → List ℕ
run_of m k = part m.words (start_at m.nodes k) (run_at m.nodes k)

-- the memory with other words in the run of a node
abbrev pub with_run : Memory → ℕ → List ℕ → Memory
with_run m k xs = with_words m (overwritten m.words (start_at m.nodes k) (run_at m.nodes k) xs)
