-- A Flat array in the place of an array; and the step of every encoding that waits until its children are Flat.
use Rattle.std.specs.Prelude.{◌≡◌, ℕ, suc, ◌+◌, ◌<◌, ◌≤◌, ◌⊎◌, true, false, List, [], ◌∷◌, length, Some, None, Ok, Err, Option, Result, ◌==◌}
use Rattle.rows.specs.declared.row.Row.{Row}
use Rattle.rows.specs.Kind.{Kinds}
use Rattle.pool.specs.Memory.{Memory, node_at, height_at, start_at, run_at}
use Rattle.pool.specs.Counts.{names, times}
use Rattle.pool.specs.Order.{Within}
use Rattle.pool.specs.Sharing.{release}
use Rattle.pool.specs.Building.{opened, append_rows, built}
use Rattle.encodings.specs.declared.step.ExecutionStep.{ExecutionStep}
use Rattle.encodings.specs.declared.step.ExecutionStep.TheVariants.{ExecuteSlot, Done}
use Rattle.encodings.specs.declared.step.StepFault.{StepFault}
use Rattle.encodings.specs.declared.step.StepFault.TheVariants.{Pool, NoRows}
use Rattle.encodings.specs.Meaning.{Encodings, no_gap}
use Rattle.encodings.specs.Rows.{fields_of, slots_of, gathered, given, flat_rows, StandsAt}
use Rattle.encodings.specs.Step.{Need, Steps, all_flat}

-- the need of a Flat array of the kind and length of i
abbrev pub flat_need : Kinds → Memory → ℕ → Need
flat_need ks m i = record { nodes = 1; words = (ks.kind (node_at m i).kind).words (node_at m i).len; height = 1 }

-- a step that makes nothing needs nothing, and its array is as high as it is
abbrev pub no_need : Memory → ℕ → Need
no_need m i = record { nodes = 0; words = 0; height = height_at m.nodes i }

-- A Flat array of these rows in the place of i, which is released. A node is sought first, then a run of words, and only
-- then it is asked whether there are rows.
abbrev pub flattened : Kinds → Memory → ℕ → Option (List Row) → Result ExecutionStep StepFault × Memory
flattened ks m i None = elim (opened m (node_at m i).kind (node_at m i).len ((ks.kind (node_at m i).kind).words (node_at m i).len)).0 [ Err e ↦ (Err (Pool e), m) | Ok j ↦ (Err NoRows, m) ]
flattened ks m i (Some rs) =
    let b = built ks m (node_at m i).kind (node_at m i).len rs in
    elim b.0 [ Err e ↦ (Err (Pool e), m) | Ok j ↦ (Ok (Done j), release b.1 i) ]

-- the first slot, counted from x, whose child is not Flat
abbrev pub first_encoded : Memory → List (Option ℕ) → ℕ → Option ℕ
first_encoded m [] x = None
first_encoded m (None ∷ ss) x = first_encoded m ss (suc x)
first_encoded m (Some c ∷ ss) x = elim ((node_at m c).encoding == 1) [ true ↦ first_encoded m ss (suc x) | false ↦ Some x ]

-- the rows that an encoding gives an array from the words of its children, which are Flat
abbrev pub flat_given : Kinds → Encodings → Memory → ℕ → Option (List Row)
flat_given ks own m i = given own (fields_of (node_at m i)) (gathered (λ c. Some (flat_rows ks m c)) (slots_of (node_at m i)))

-- The steps of an encoding that asks for its first slot that is not Flat, and is flattened once there is none. Where
-- nothing is to be asked for and a slot is absent, it has no rows.
abbrev pub flattening_need : Kinds → Memory → ℕ → Need
flattening_need ks m i =
    elim (first_encoded m (slots_of (node_at m i)) 0) [
      | Some x ↦ no_need m i
      | None ↦ elim (no_gap (slots_of (node_at m i))) [ true ↦ flat_need ks m i | false ↦ no_need m i ]
    ]

abbrev pub flattening_step : Kinds → Encodings → Memory → ℕ → Result ExecutionStep StepFault × Memory
flattening_step ks own m i =
    elim (first_encoded m (slots_of (node_at m i)) 0) [
      | Some x ↦ (Ok (ExecuteSlot x 1), m)
      | None ↦ elim (no_gap (slots_of (node_at m i))) [
        | true ↦ flattened ks m i (flat_given ks own m i)
        | false ↦ (Err NoRows, m)
      ]
    ]

abbrev pub flattening_steps : Kinds → Encodings → Steps
flattening_steps ks own = record { need = λ m i. flattening_need ks m i; stepped = λ m i. flattening_step ks own m i }

-- ---- the appending of all rows to a builder
-- no word of k's run is in j's
abbrev pub Beside : Memory → ℕ → ℕ → Type 0
Beside m k j = 0 < run_at m.nodes k → 0 < run_at m.nodes j → (start_at m.nodes k + run_at m.nodes k ≤ start_at m.nodes j) ⊎ (start_at m.nodes j + run_at m.nodes j ≤ start_at m.nodes k)

-- i fits, with every slot present and Flat, and j is a builder of its kind and length, apart from all its children
pub record Filling (ks : Kinds) (own : Encodings) (m : Memory) (i j : ℕ) : Type 0 where
  pub nodes_long : length m.nodes ≡ 256
  pub words_long : length m.words ≡ 8192
  pub within : Within m.nodes m.words
  pub array_inside : i < length m.nodes
  pub stands : StandsAt own m i
  pub present : no_gap (slots_of (node_at m i)) ≡ true
  pub flat : all_flat m (slots_of (node_at m i)) ≡ true
  pub children : (c : ℕ) → 0 < times c (names (slots_of (node_at m i))) → (c < length m.nodes) × Beside m c j
  pub inside : j < length m.nodes
  pub same_kind : (node_at m j).kind ≡ (node_at m i).kind
  pub same_len : (node_at m j).len ≡ (node_at m i).len
  pub run : run_at m.nodes j ≡ (ks.kind (node_at m i).kind).words (node_at m i).len

-- Either there are rows, and they are appended to j; or there are none, and some of what would be rows was appended.
abbrev pub Filled : Kinds → Memory → Memory → ℕ → Option (List Row) → Result (Unit {0}) StepFault → Type 0
Filled ks m q j whole (Ok u) = (rs : List Row) × (whole ≡ Some rs) × (q ≡ append_rows ks m j 0 rs)
Filled ks m q j whole (Err e) = (e ≡ NoRows) × (whole ≡ None) × ((rs : List Row) × (q ≡ append_rows ks m j 0 rs))
