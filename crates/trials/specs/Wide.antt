-- A kind of two words a row: the value, and beside it the value with every bit turned.
use Rattle.std.specs.Prelude.{◌+◌, ◌-◌, ◌*◌, true, slice_index, slice_set}
use Rattle.rows.specs.Kind.{Kind}
use Rattle.rows.specs.Ours.{number}

abbrev pub wide : Kind
wide = record {
  takes = λ r. true;
  constant = λ p. record { value = p };
  words = λ n. 2 * n;
  row = λ n run k. record { value = slice_index run (2 * k) };
  put = λ n run k r. slice_set (slice_set run (2 * k) r.value) (2 * k + 1) (4294967295 - r.value);
  tidy = λ n run. true;
  width = 4;
  parsed = number.parsed;
  written = number.written;
}
