-- Constant: every row is the one that its parameter stands for.
use Rattle.std.specs.Prelude.{◌&&◌, List, replicate, Some, Option, ◌==◌}
use Rattle.rows.specs.declared.row.Row.{Row}
use Rattle.rows.specs.Kind.{Kinds}
use Rattle.encodings.specs.declared.fields.Fields.{Fields}
use Rattle.encodings.specs.Meaning.{Encodings, in_range, no_shapes, undivided}

abbrev pub constant_row : Kinds → Fields → Row
constant_row ks f = (ks.kind f.kind).constant f.parameter

abbrev pub constant_rows : Kinds → Fields → List (List Row) → Option (List Row)
constant_rows ks f cs = Some (replicate f.len (constant_row ks f))

abbrev pub constant_encodings : Kinds → Encodings
constant_encodings ks = record {
  has = λ id. (id == 2);
  fields_fit = λ f. in_range ks f && (ks.kind f.kind).takes (constant_row ks f);
  count_fits = λ f. (f.arity == 0);
  kinds_fit = λ f ss. no_shapes ss;
  lengths_fit = λ f ss. no_shapes ss;
  rows = constant_rows ks;
  rest = undivided (constant_rows ks);
  rest_length = λ f os. f.len;
}
