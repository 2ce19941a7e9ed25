-- Dict: each row is the value that its code numbers.
use Rattle.std.specs.Prelude.{Bool, true, false, ◌&&◌, List, [], ◌∷◌, length, Some, None, Option, ◌==◌, nat_lt, slice_index_or}
use Rattle.rows.specs.declared.row.Row.{Row}
use Rattle.rows.specs.Kind.{Kinds}
use Rattle.encodings.specs.declared.fields.Fields.{Fields}
use Rattle.encodings.specs.declared.fields.Shape.{Shape}
use Rattle.encodings.specs.Meaning.{Encodings, in_range, undivided}

-- the value of each code, none where a code has none
abbrev pub looked_up : List Row → List Row → Option (List Row)
looked_up [] vs = Some []
looked_up (c ∷ cs) vs =
    elim (nat_lt c.value (length vs)) [
      | true ↦ elim (looked_up cs vs) [ None ↦ None | Some rs ↦ Some (slice_index_or vs c.value c ∷ rs) ]
      | false ↦ None
    ]

abbrev pub dict_rows : Fields → List (List Row) → Option (List Row)
dict_rows f [] = None
dict_rows f (codes ∷ []) = None
dict_rows f (codes ∷ values ∷ []) = looked_up codes values
dict_rows f (codes ∷ values ∷ c ∷ cs) = None

-- codes are numbers, and values have the array's kind
abbrev pub dict_kinds : Fields → List Shape → Bool
dict_kinds f [] = false
dict_kinds f (codes ∷ []) = false
dict_kinds f (codes ∷ values ∷ []) = codes.kind == 1 && values.kind == f.kind
dict_kinds f (codes ∷ values ∷ s ∷ ss) = false

-- as many codes as rows
abbrev pub dict_lengths : Fields → List Shape → Bool
dict_lengths f [] = false
dict_lengths f (codes ∷ []) = false
dict_lengths f (codes ∷ values ∷ []) = codes.len == f.len
dict_lengths f (codes ∷ values ∷ s ∷ ss) = false

abbrev pub dict_encodings : Kinds → Encodings
dict_encodings ks = record {
  has = λ id. (id == 4);
  fields_fit = λ f. in_range ks f && f.parameter == 0;
  count_fits = λ f. (f.arity == 2);
  kinds_fit = λ f ss. dict_kinds f ss;
  lengths_fit = λ f ss. dict_lengths f ss;
  rows = dict_rows;
  rest = undivided dict_rows;
  rest_length = λ f os. f.len;
}
