-- Flat alone.
use Rattle.std.specs.Prelude.{None, Ok, ◌==◌}
use Rattle.rows.specs.Kind.{Kinds}
use Rattle.encodings.specs.Meaning.{Encodings, flat_fields, no_shapes}
use Rattle.encodings.specs.declared.step.ExecutionStep.TheVariants.{Done}
use Rattle.encodings.specs.Step.{Steps}
use Rattle.encodings.specs.Flattening.{no_need}

abbrev pub flat_encodings : Kinds → Encodings
flat_encodings ks = record {
  has = λ id. (id == 1);
  fields_fit = λ f. flat_fields ks f;
  count_fits = λ f. (f.arity == 0);
  kinds_fit = λ f ss. no_shapes ss;
  lengths_fit = λ f ss. no_shapes ss;
  rows = λ f cs. None;
  rest = λ f os. None;
  rest_length = λ f os. f.len;
}

-- a Flat array is Done with itself
abbrev pub flat_steps : Steps
flat_steps = record { need = λ m i. no_need m i; stepped = λ m i. (Ok (Done i), m) }
