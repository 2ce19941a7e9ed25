-- Slice: rows of its child, from an offset on.
use Rattle.std.specs.Prelude.{◌+◌, Bool, false, List, [], ◌∷◌, take, drop, Some, None, Option, ◌==◌, nat_le}
use Rattle.rows.specs.declared.row.Row.{Row}
use Rattle.rows.specs.Kind.{Kinds}
use Rattle.encodings.specs.declared.fields.Fields.{Fields}
use Rattle.encodings.specs.declared.fields.Shape.{Shape}
use Rattle.encodings.specs.Meaning.{Encodings, in_range, undivided}

abbrev pub slice_rows : Fields → List (List Row) → Option (List Row)
slice_rows f [] = None
slice_rows f (child ∷ []) = Some (take f.len (drop f.parameter child))
slice_rows f (child ∷ c ∷ cs) = None

abbrev pub slice_kinds : Fields → List Shape → Bool
slice_kinds f [] = false
slice_kinds f (child ∷ []) = child.kind == f.kind
slice_kinds f (child ∷ s ∷ ss) = false

-- offset and length together stay within the child
abbrev pub slice_lengths : Fields → List Shape → Bool
slice_lengths f [] = false
slice_lengths f (child ∷ []) = nat_le (f.parameter + f.len) child.len
slice_lengths f (child ∷ s ∷ ss) = false

abbrev pub slice_encodings : Kinds → Encodings
slice_encodings ks = record {
  has = λ id. (id == 6);
  fields_fit = in_range ks;
  count_fits = λ f. (f.arity == 1);
  kinds_fit = λ f ss. slice_kinds f ss;
  lengths_fit = λ f ss. slice_lengths f ss;
  rows = slice_rows;
  rest = undivided slice_rows;
  rest_length = λ f os. f.len;
}
