-- A builder takes a node and its whole run on opening, is appended to, and ends as a Flat array.
use Rattle.std.specs.Prelude.{◌≡◌, ℕ, suc, ◌+◌, ◌<◌, ◌≤◌, true, List, [], ◌∷◌, length, Some, None, Ok, Err, Result}
use Rattle.rows.specs.declared.row.Row.{Row}
use Rattle.rows.specs.Kind.{Kinds}
use Rattle.pool.specs.declared.node.Node.{Node}
use Rattle.pool.specs.declared.node.PoolFault.{PoolFault}
use Rattle.pool.specs.declared.node.PoolFault.TheVariants.{Nodes, Words}
use Rattle.pool.specs.Memory.{Memory, no_slots, node_at, start_at, run_at, with_encoding, put_node, run_of, with_run}
use Rattle.pool.specs.Finding.{lowest_free, find_run}

-- an open builder of n rows: encoding 0, which no array has
abbrev pub open_node : ℕ → ℕ → ℕ → ℕ → Node
open_node kind n start run =
    record { encoding = 0; kind = kind; len = n; parameter = 0; arity = 0; slots = no_slots; height = 1; count = 1; start = start; run = run }

-- a node, or a refusal, and the memory then; a node is sought first, then a run of w words
abbrev pub opened : Memory → ℕ → ℕ → ℕ → Result ℕ PoolFault × Memory
opened m kind n w =
    elim (lowest_free m.nodes 0) [
      | None ↦ (Err Nodes, m)
      | Some i ↦ elim (find_run m w) [
        | None ↦ (Err Words, m)
        | Some s ↦ (Ok i, put_node m i (open_node kind n s w))
      ]
    ]

-- one row more in builder i, which has k
abbrev pub append_row : Kinds → Memory → ℕ → ℕ → Row → Memory
append_row ks m i k r = with_run m i ((ks.kind (node_at m i).kind).put (node_at m i).len (run_of m i) k r)

abbrev pub append_rows : Kinds → Memory → ℕ → ℕ → List Row → Memory
append_rows ks m i k [] = m
append_rows ks m i k (r ∷ rs) = append_rows ks (append_row ks m i k r) i (suc k) rs

-- builder i as a Flat array
abbrev pub finished : Memory → ℕ → Memory
finished m i = put_node m i (with_encoding (node_at m i) 1)

-- a Flat array of these n rows: opened, appended to, and finished
abbrev pub built : Kinds → Memory → ℕ → ℕ → List Row → Result ℕ PoolFault × Memory
built ks m kind n rs =
    let o = opened m kind n ((ks.kind kind).words n) in
    elim o.0 [ Err e ↦ (Err e, o.1) | Ok i ↦ (Ok i, finished (append_rows ks o.1 i 0 rs) i) ]

-- builder i has room for row k, of a kind that takes it
pub record Open (ks : Kinds) (m : Memory) (i k : ℕ) (r : Row) : Type 0 where
  pub inside : i < length m.nodes
  pub within : start_at m.nodes i + run_at m.nodes i ≤ length m.words
  pub whole : run_at m.nodes i ≡ (ks.kind (node_at m i).kind).words (node_at m i).len
  pub short : k < (node_at m i).len
  pub taken : (ks.kind (node_at m i).kind).takes r ≡ true
