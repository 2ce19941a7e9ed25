-- What is seen of a pool: its memory, and how much of it is in use.
use Rattle.std.specs.Prelude.{ℕ, ◌+◌, true, false, List, [], ◌∷◌, ◌==◌}
use Rattle.pool.specs.declared.node.Node.{Node}
use Rattle.pool.specs.declared.pool.Pool.{Pool}
use Rattle.pool.specs.Memory.{Memory}

abbrev pub memory_of : Pool → Memory
memory_of p = record { nodes = p.nodes.now; words = p.words.now }

abbrev pub nodes_used : List Node → ℕ
nodes_used [] = 0
nodes_used (nd ∷ ns) = elim (nd.count == 0) [ true ↦ nodes_used ns | false ↦ 1 + nodes_used ns ]

abbrev pub words_used : List Node → ℕ
words_used [] = 0
words_used (nd ∷ ns) = nd.run + words_used ns
