-- What each call answers, and the state that it leaves: checks in the order of the refusals' numbers, then the work.
use Rattle.std.specs.Prelude.{ℕ, zero, suc, ◌-◌, ◌*◌, Bool, true, false, ◌&&◌, not, List, [], ◌∷◌, ◌++◌, map, length, take, drop, replicate, Some, None, Ok, Err, Option, Result, ◌==◌, nat_eq, nat_le, nat_lt, slice_index_or, slice_set}
use Rattle.std.specs.List.{list_all}
use Rattle.rows.specs.declared.row.Row.{Row}
use Rattle.rows.specs.Kind.{Kind, Kinds}
use Rattle.pool.specs.declared.node.Node.{Node}
use Rattle.pool.specs.declared.node.PoolFault.{PoolFault}
use Rattle.pool.specs.Memory.{Memory, free_node, empty_memory, node_at, start_at, run_of}
use Rattle.pool.specs.Sharing as sharing
use Rattle.pool.specs.Building.{built}
use Rattle.pool.specs.Inserting.{inserted}
use Rattle.encodings.specs.declared.fields.Fields.{Fields}
use Rattle.encodings.specs.declared.fields.Shape.{Shape}
use Rattle.encodings.specs.Meaning.{Encodings, slots_fit, present}
use Rattle.encodings.specs.Rows.{gathered, shape_of}
use Rattle.planner.specs.declared.call.Refusal.{Refusal}
use Rattle.planner.specs.declared.call.Refusal.TheVariants.{Line, RootRange, RootEmpty, RootTaken, Field, Slots, Pool, NotFlat}
use Rattle.planner.specs.Calls.{Told, make, assemble, share, release, read, Said, done, rows, refused}

-- what a planner holds: the pool's memory, and the node under each root
pub record State : Type 0 where
  pub memory : Memory
  pub roots : List (Option ℕ)

-- nothing in use, and every root empty
abbrev pub new_state : State
new_state = record { memory = empty_memory; roots = replicate 32 None }

abbrev pub root_at : State → ℕ → Option ℕ
root_at s r = slice_index_or s.roots r None

-- the node under a root that exists, if any
abbrev pub root_in : State → ℕ → Result (Option ℕ) Refusal
root_in s r = elim (nat_lt r 32) [ true ↦ Ok (root_at s r) | false ↦ Err RootRange ]

-- the node under a root that exists and is not empty
abbrev pub held_in : State → ℕ → Result ℕ Refusal
held_in s r = elim (nat_lt r 32) [ true ↦ elim (root_at s r) [ None ↦ Err RootEmpty | Some k ↦ Ok k ] | false ↦ Err RootRange ]

-- the state with another memory and another node, or none, under a root
abbrev pub with_root : State → Memory → ℕ → Option ℕ → State
with_root s m r o = record { memory = m; roots = slice_set s.roots r o }

-- the rows that the bytes of n rows stand for, none where one of them stands for none
abbrev pub parsed_rows : Kind → ℕ → List ℕ → Option (List Row)
parsed_rows kd zero bs = Some []
parsed_rows kd (suc n) bs =
    elim (kd.parsed (take kd.width bs)) [
      | None ↦ None
      | Some r ↦ elim (parsed_rows kd n (drop kd.width bs)) [ None ↦ None | Some rs ↦ Some (r ∷ rs) ]
    ]

-- row k of those that bytes stand for, if its own stand for one
abbrev pub parsed_row : Kind → List ℕ → ℕ → Option Row
parsed_row kd bs k = kd.parsed (take kd.width (drop (k * kd.width) bs))

-- a kind that exists, and at most 1,024 rows
abbrev pub in_range : Kinds → ℕ → ℕ → Bool
in_range ks kind n = ks.has kind && nat_le n 1024

-- as many bytes as the rows need; not asked where kind or length is out of range
abbrev pub sized : Kinds → ℕ → ℕ → List ℕ → Bool
sized ks kind n bytes = elim (in_range ks kind n) [ true ↦ nat_eq (length bytes) (n * (ks.kind kind).width) | false ↦ true ]

-- the rows of a making, where its kind, its length and each of its rows is in range
abbrev pub rows_made : Kinds → ℕ → ℕ → List ℕ → Option (List Row)
rows_made ks kind n bytes = elim (in_range ks kind n) [ true ↦ parsed_rows (ks.kind kind) n bytes | false ↦ None ]

-- what the building or insertion of an array answers, and the state then
abbrev pub placed : State → ℕ → Result ℕ PoolFault × Memory → Said × State
placed s root b = elim b.0 [ Err e ↦ (refused (Pool e), record { memory = b.1; roots = s.roots }) | Ok i ↦ (done, with_root s b.1 root (Some i)) ]

abbrev pub made : Kinds → State → ℕ → ℕ → ℕ → List ℕ → Said × State
made ks s root kind n bytes =
    elim (sized ks kind n bytes) [
      | false ↦ (refused Line, s)
      | true ↦ elim (nat_lt root 32) [
        | false ↦ (refused RootRange, s)
        | true ↦ elim (root_at s root) [
          | Some k ↦ (refused RootTaken, s)
          | None ↦ elim (rows_made ks kind n bytes) [
            | None ↦ (refused Field, s)
            | Some rs ↦ placed s root (built ks s.memory kind n rs)
          ]
        ]
      ]
    ]

-- ---- an array of given fields, with the arrays under other roots for its children
-- no more slots than a node has room for
abbrev pub has_room : Fields → Bool
has_room f = nat_le f.arity 8

-- as many roots as slots; not asked where there are more than eight slots
abbrev pub counted : Fields → List ℕ → Bool
counted f rs = elim (has_room f) [ true ↦ nat_eq (length rs) f.arity | false ↦ true ]

-- the roots of the children; none are looked at where there are more than eight slots
abbrev pub child_roots : Fields → List ℕ → List ℕ
child_roots f rs = elim (has_room f) [ true ↦ rs | false ↦ [] ]

-- each of these roots exists
abbrev pub roots_exist : List ℕ → Bool
roots_exist rs = list_all (λ r. nat_lt r 32) rs

-- the nodes under roots, none where one of these is empty
abbrev pub nodes_under : State → List ℕ → Option (List ℕ)
nodes_under s rs = gathered (root_at s) (present rs)

-- these children in the first of eight slots
abbrev pub padded : List ℕ → List (Option ℕ)
padded cs = present cs ++ replicate (8 - length cs) None

-- the slots that name the nodes under roots
abbrev pub slots_under : State → List ℕ → Result (List (Option ℕ)) Refusal
slots_under s rs = elim (nodes_under s rs) [ None ↦ Err RootEmpty | Some cs ↦ Ok (padded cs) ]

-- an encoding of the set other than Flat, and fields in range
abbrev pub fields_known : Encodings → Fields → Bool
fields_known es f = es.has f.encoding && (not (f.encoding == 1) && es.fields_fit f)

-- what an array sees of these children
abbrev pub shapes : Memory → List ℕ → List Shape
shapes m cs = map (λ c. shape_of (node_at m c)) cs

-- the slots of the new array, where no check refuses
abbrev pub slots_for : Encodings → State → ℕ → Fields → List ℕ → Result (List (Option ℕ)) Refusal
slots_for es s root f rs =
    elim (counted f rs) [
      | false ↦ Err Line
      | true ↦ elim (nat_lt root 32 && roots_exist (child_roots f rs)) [
        | false ↦ Err RootRange
        | true ↦ elim (nodes_under s (child_roots f rs)) [
          | None ↦ Err RootEmpty
          | Some cs ↦ elim (root_at s root) [
            | Some k ↦ Err RootTaken
            | None ↦ elim (fields_known es f) [
              | false ↦ Err Field
              | true ↦ elim (slots_fit es f (shapes s.memory cs)) [ false ↦ Err Slots | true ↦ Ok (padded cs) ]
            ]
          ]
        ]
      ]
    ]

-- a node of these fields and slots
abbrev pub node_of : Fields → List (Option ℕ) → Node
node_of f ss = record free_node { encoding = f.encoding; kind = f.kind; len = f.len; parameter = f.parameter; arity = f.arity; slots = ss }

abbrev pub assembled : Encodings → State → ℕ → Fields → List ℕ → Said × State
assembled es s root f rs =
    elim (slots_for es s root f rs) [
      | Err e ↦ (refused e, s)
      | Ok ss ↦ placed s root (inserted s.memory (node_of f ss))
    ]

abbrev pub shared : State → ℕ → ℕ → Said × State
shared s to from =
    elim (nat_lt to 32 && nat_lt from 32) [
      | false ↦ (refused RootRange, s)
      | true ↦ elim (root_at s from) [
        | None ↦ (refused RootEmpty, s)
        | Some k ↦ elim (root_at s to) [
          | Some j ↦ (refused RootTaken, s)
          | None ↦ (done, with_root s (sharing.retained s.memory k) to (Some k))
        ]
      ]
    ]

abbrev pub emptied : State → ℕ → Said × State
emptied s root =
    elim (nat_lt root 32) [
      | false ↦ (refused RootRange, s)
      | true ↦ elim (root_at s root) [
        | None ↦ (refused RootEmpty, s)
        | Some k ↦ (done, with_root s (sharing.release s.memory k) root None)
      ]
    ]

-- what a reading of the array at k hands out
abbrev pub handed : Memory → ℕ → Said
handed m k =
    elim ((node_at m k).encoding == 1) [
      | true ↦ rows (node_at m k).kind (node_at m k).len (start_at m.nodes k) (run_of m k)
      | false ↦ refused NotFlat
    ]

abbrev pub read_out : State → ℕ → Said
read_out s root =
    elim (nat_lt root 32) [
      | false ↦ refused RootRange
      | true ↦ elim (root_at s root) [ None ↦ refused RootEmpty | Some k ↦ handed s.memory k ]
    ]

abbrev pub called : Kinds → Encodings → State → Told → Said × State
called ks es s (make root kind n bytes) = made ks s root kind n bytes
called ks es s (assemble root f rs) = assembled es s root f rs
called ks es s (share to from) = shared s to from
called ks es s (release root) = emptied s root
called ks es s (read root) = (read_out s root, s)
