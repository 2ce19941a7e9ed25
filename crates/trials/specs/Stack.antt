-- Stack: the rows of its children, the last child first. It is done slot by slot, from the last slot on, or with a copy.
use Rattle.std.specs.Prelude.{ℕ, suc, Bool, true, false, ◌&&◌, List, [], ◌∷◌, ◌++◌, Some, None, Ok, Err, Option, Result, ◌==◌, nat_lt, nat_le}
use Rattle.rows.specs.declared.row.Row.{Row}
use Rattle.rows.specs.Kind.{Kinds}
use Rattle.pool.specs.declared.node.Node.{Node}
use Rattle.pool.specs.Memory.{Memory, node_at, height_at}
use Rattle.pool.specs.Sharing.{release}
use Rattle.pool.specs.Inserting.{inserted}
use Rattle.encodings.specs.declared.step.ExecutionStep.{ExecutionStep}
use Rattle.encodings.specs.declared.step.ExecutionStep.TheVariants.{ExecuteSlot, AppendChild, Done}
use Rattle.encodings.specs.declared.step.StepFault.{StepFault}
use Rattle.encodings.specs.declared.step.StepFault.TheVariants.{Pool}
use Rattle.encodings.specs.Meaning.{Encodings, in_range, no_gap}
use Rattle.encodings.specs.Rows.{slots_of}
use Rattle.encodings.specs.Step.{Need, Steps}
use Rattle.encodings.specs.Flattening.{no_need}
use Rattle.encodings.specs.Chunked.{sum_present, all_of_kind, sum_of_lengths}

-- the rows of all, or of those that are present, from the last on
abbrev pub stacked : List (List Row) → List Row
stacked [] = []
stacked (r ∷ rs) = stacked rs ++ r

abbrev pub stacked_present : List (Option (List Row)) → List Row
stacked_present [] = []
stacked_present (None ∷ os) = stacked_present os
stacked_present (Some r ∷ os) = stacked_present os ++ r

abbrev pub stack_encodings : Kinds → Encodings
stack_encodings ks = record {
  has = λ id. (id == 20);
  fields_fit = λ f. in_range ks f && nat_le f.parameter 1;
  count_fits = λ f. nat_lt 0 f.arity && nat_le f.arity 8;
  kinds_fit = λ f ss. all_of_kind f.kind ss;
  lengths_fit = λ f ss. (sum_of_lengths ss == f.len);
  rows = λ f cs. Some (stacked cs);
  rest = λ f os. Some (stacked_present os);
  rest_length = λ f os. sum_present os;
}

-- ---- its step
-- with parameter 1 and every slot present it is done with a copy of parameter 0
abbrev pub copies : Memory → ℕ → Bool
copies m i = (node_at m i).parameter == 1 && no_gap (slots_of (node_at m i))

abbrev pub copy_of : Node → Node
copy_of nd = record nd { parameter = 0; start = 0; run = 0 }

abbrev pub copy_need : Memory → ℕ → Need
copy_need m i = record { nodes = 1; words = 0; height = height_at m.nodes i }

abbrev pub stack_need : Memory → ℕ → Need
stack_need m i = elim (copies m i) [ true ↦ copy_need m i | false ↦ no_need m i ]

-- the last slot, counted from x, that is present, with the child there
abbrev pub last_present : List (Option ℕ) → ℕ → Option (ℕ × ℕ)
last_present [] x = None
last_present (None ∷ ss) x = last_present ss (suc x)
last_present (Some c ∷ ss) x = elim (last_present ss (suc x)) [ None ↦ Some (x, c) | Some p ↦ Some p ]

-- what is asked of a slot with a child of this encoding: to be Flat, of a Dict; of others, to be Flat or a Dict
abbrev pub asked : ℕ → ℕ → ExecutionStep
asked x e = elim (e == 1) [ true ↦ AppendChild x | false ↦ ExecuteSlot x (elim (e == 4) [ true ↦ 1 | false ↦ 20 ]) ]

-- the last present slot is appended, if it is Flat, else asked for; with none present the array is done
abbrev pub slot_step : Memory → ℕ → ExecutionStep
slot_step m i = elim (last_present (slots_of (node_at m i)) 0) [ None ↦ Done i | Some p ↦ asked p.0 (node_at m p.1).encoding ]

-- a copy in the place of i, which is released
abbrev pub copied : Memory → ℕ → Result ExecutionStep StepFault × Memory
copied m i =
    let b = inserted m (copy_of (node_at m i)) in
    elim b.0 [ Err e ↦ (Err (Pool e), b.1) | Ok j ↦ (Ok (Done j), release b.1 i) ]

abbrev pub stack_step : Memory → ℕ → Result ExecutionStep StepFault × Memory
stack_step m i = elim (copies m i) [ true ↦ copied m i | false ↦ (Ok (slot_step m i), m) ]

abbrev pub stack_steps : Kinds → Steps
stack_steps ks = record { need = λ m i. stack_need m i; stepped = λ m i. stack_step m i }
