-- Two sets of encodings as one: the first that has an id gives its rows and its step.
use Rattle.std.specs.Prelude.{Bool, true, false, ◌||◌}
use Rattle.pool.specs.Memory.{node_at}
use Rattle.encodings.specs.Meaning.{Encodings}
use Rattle.encodings.specs.Step.{Steps}

-- what the first gives where it has the id, else what the second gives
abbrev pub by_id : {A : Type 0} → Bool → A → A → A
by_id true a b = a
by_id false a b = b

abbrev pub paired : Encodings → Encodings → Encodings
paired a b = record {
  has = λ id. a.has id || b.has id;
  fields_fit = λ f. by_id (a.has f.encoding) (a.fields_fit f) (b.fields_fit f);
  count_fits = λ f. by_id (a.has f.encoding) (a.count_fits f) (b.count_fits f);
  kinds_fit = λ f ss. by_id (a.has f.encoding) (a.kinds_fit f ss) (b.kinds_fit f ss);
  lengths_fit = λ f ss. by_id (a.has f.encoding) (a.lengths_fit f ss) (b.lengths_fit f ss);
  rows = λ f cs. by_id (a.has f.encoding) (a.rows f cs) (b.rows f cs);
  rest = λ f os. by_id (a.has f.encoding) (a.rest f os) (b.rest f os);
  rest_length = λ f os. by_id (a.has f.encoding) (a.rest_length f os) (b.rest_length f os);
}

abbrev pub paired_steps : Encodings → Steps → Steps → Steps
paired_steps a s t = record {
  need = λ m i. by_id (a.has (node_at m i).encoding) (s.need m i) (t.need m i);
  stepped = λ m i. by_id (a.has (node_at m i).encoding) (s.stepped m i) (t.stepped m i);
}
