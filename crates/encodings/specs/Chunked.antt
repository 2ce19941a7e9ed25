-- Chunked: the rows of its children, one child after another. It is the one encoding that is done slot by slot.
use Rattle.std.specs.Prelude.{ℕ, suc, ◌+◌, Bool, true, false, ◌&&◌, List, [], ◌∷◌, ◌++◌, Some, None, Ok, Option, Result, ◌==◌}
use Rattle.std.specs.List.{list_all}
use Rattle.rows.specs.declared.row.Row.{Row}
use Rattle.rows.specs.Kind.{Kinds}
use Rattle.pool.specs.Memory.{Memory, node_at}
use Rattle.encodings.specs.declared.fields.Shape.{Shape}
use Rattle.encodings.specs.declared.step.ExecutionStep.{ExecutionStep}
use Rattle.encodings.specs.declared.step.ExecutionStep.TheVariants.{ExecuteSlot, AppendChild, Done}
use Rattle.encodings.specs.declared.step.StepFault.{StepFault}
use Rattle.encodings.specs.Meaning.{Encodings, in_range}
use Rattle.encodings.specs.Rows.{slots_of}
use Rattle.encodings.specs.Step.{Need, Steps}
use Rattle.encodings.specs.Flattening.{flat_need, no_need, flattened}

-- the rows of all, or of those that are present, one after another
abbrev pub joined : List (List Row) → List Row
joined [] = []
joined (r ∷ rs) = r ++ joined rs

abbrev pub joined_present : List (Option (List Row)) → List Row
joined_present [] = []
joined_present (None ∷ os) = joined_present os
joined_present (Some r ∷ os) = r ++ joined_present os

abbrev pub sum_present : List (Option ℕ) → ℕ
sum_present [] = 0
sum_present (None ∷ os) = sum_present os
sum_present (Some n ∷ os) = n + sum_present os

abbrev pub all_of_kind : ℕ → List Shape → Bool
all_of_kind kind ss = list_all (λ h. h.kind == kind) ss

abbrev pub sum_of_lengths : List Shape → ℕ
sum_of_lengths [] = 0
sum_of_lengths (h ∷ hs) = h.len + sum_of_lengths hs

abbrev pub chunked_encodings : Kinds → Encodings
chunked_encodings ks = record {
  has = λ id. (id == 5);
  fields_fit = λ f. in_range ks f && f.parameter == 0;
  count_fits = λ f. true;
  kinds_fit = λ f ss. all_of_kind f.kind ss;
  lengths_fit = λ f ss. (sum_of_lengths ss == f.len);
  rows = λ f cs. Some (joined cs);
  rest = λ f os. Some (joined_present os);
  rest_length = λ f os. sum_present os;
}

-- ---- its step
-- the first slot, counted from x, that is present, with the child there
abbrev pub first_present : List (Option ℕ) → ℕ → Option (ℕ × ℕ)
first_present [] x = None
first_present (None ∷ ss) x = first_present ss (suc x)
first_present (Some c ∷ ss) x = Some (x, c)

abbrev pub chunked_need : Kinds → Memory → ℕ → Need
chunked_need ks m i = elim ((node_at m i).arity == 0) [ true ↦ flat_need ks m i | false ↦ no_need m i ]

-- The first present slot is appended, if it is Flat, else asked for. With none present the array is done: with an empty
-- Flat array in its place, if it never had slots.
abbrev pub chunked_step : Kinds → Memory → ℕ → Result ExecutionStep StepFault × Memory
chunked_step ks m i =
    elim (first_present (slots_of (node_at m i)) 0) [
      | Some p ↦ elim ((node_at m p.1).encoding == 1) [ true ↦ (Ok (AppendChild p.0), m) | false ↦ (Ok (ExecuteSlot p.0 1), m) ]
      | None ↦ elim ((node_at m i).arity == 0) [ true ↦ flattened ks m i (Some []) | false ↦ (Ok (Done i), m) ]
    ]

abbrev pub chunked_steps : Kinds → Steps
chunked_steps ks = record { need = λ m i. chunked_need ks m i; stepped = λ m i. chunked_step ks m i }
