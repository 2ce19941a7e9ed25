-- RunEnd: runs of one value each, told by the rows where they end.
use Rattle.std.specs.Prelude.{ℕ, ◌-◌, Bool, true, false, ◌&&◌, List, [], ◌∷◌, ◌++◌, replicate, Some, None, Option, ◌==◌, nat_lt, nat_le}
use Rattle.rows.specs.declared.row.Row.{Row}
use Rattle.rows.specs.Kind.{Kinds}
use Rattle.encodings.specs.declared.fields.Fields.{Fields}
use Rattle.encodings.specs.declared.fields.Shape.{Shape}
use Rattle.encodings.specs.Meaning.{Encodings, in_range, undivided}

-- the rows of an array of n from row `at` on; none where an end is not above the one before it, or past n, or the last is not n
abbrev pub runs_from : ℕ → ℕ → List Row → List Row → Option (List Row)
runs_from n at [] vs = elim (at == n) [ true ↦ Some [] | false ↦ None ]
runs_from n at (e ∷ es) [] = None
runs_from n at (e ∷ es) (v ∷ vs) =
    elim (nat_lt at e.value && nat_le e.value n) [
      | true ↦ elim (runs_from n e.value es vs) [ None ↦ None | Some rs ↦ Some (replicate (e.value - at) v ++ rs) ]
      | false ↦ None
    ]

abbrev pub run_end_rows : Fields → List (List Row) → Option (List Row)
run_end_rows f [] = None
run_end_rows f (ends ∷ []) = None
run_end_rows f (ends ∷ values ∷ []) = runs_from f.len 0 ends values
run_end_rows f (ends ∷ values ∷ c ∷ cs) = None

-- ends are numbers, and values have the array's kind
abbrev pub run_end_kinds : Fields → List Shape → Bool
run_end_kinds f [] = false
run_end_kinds f (ends ∷ []) = false
run_end_kinds f (ends ∷ values ∷ []) = ends.kind == 1 && values.kind == f.kind
run_end_kinds f (ends ∷ values ∷ s ∷ ss) = false

-- as many ends as values
abbrev pub run_end_lengths : Fields → List Shape → Bool
run_end_lengths f [] = false
run_end_lengths f (ends ∷ []) = false
run_end_lengths f (ends ∷ values ∷ []) = ends.len == values.len
run_end_lengths f (ends ∷ values ∷ s ∷ ss) = false

abbrev pub run_end_encodings : Kinds → Encodings
run_end_encodings ks = record {
  has = λ id. (id == 3);
  fields_fit = λ f. in_range ks f && f.parameter == 0;
  count_fits = λ f. (f.arity == 2);
  kinds_fit = λ f ss. run_end_kinds f ss;
  lengths_fit = λ f ss. run_end_lengths f ss;
  rows = run_end_rows;
  rest = undivided run_end_rows;
  rest_length = λ f os. f.len;
}
