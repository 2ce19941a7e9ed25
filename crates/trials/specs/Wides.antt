-- Wide is a lawful kind, which takes every row.
use Rattle.std.proofs.Common.{ap, ◌∙◌, arith}
use Rattle.std.specs.Prelude.{ℕ, ◌+◌, ◌-◌, ◌*◌, List, [], ◌∷◌, slice_set, refl}
use Rattle.std.proofs.lemmas.List.{get_or-set_same, get_or-set_other, length-set}
use Rattle.rows.specs.declared.row.Row.{Row}
use Rattle.rows.specs.Kind.{LawfulKind, Taken}
use Rattle.rows.specs.Numbers.{number_lawful}
use Rattle.trials.specs.Wide.{wide}

pub wide_taken : (rs : List Row) → Taken wide rs
wide_taken [] = tt
wide_taken (r ∷ rs) = (refl, wide_taken rs)

pub wide_lawful : LawfulKind wide
wide_lawful = record {
  put_same = λ n run k r whole inside taken.
      ap (λ (v : ℕ). record { value = v })
      (get_or-set_other (slice_set run (2 * k) r.value) (2 * k + 1) (2 * k) (4294967295 - r.value) 0 (λ e. omega arith)
      ∙ get_or-set_same run (2 * k) r.value 0 (omega arith));
  put_other = λ n run k r j whole inside taken l ne.
      ap (λ (v : ℕ). record { value = v })
      (get_or-set_other (slice_set run (2 * k) r.value) (2 * k + 1) (2 * j) (4294967295 - r.value) 0 (λ e. omega arith)
      ∙ get_or-set_other run (2 * k) (2 * j) r.value 0 (λ e. ne (omega arith)));
  put_long = λ n run k r.
      length-set (slice_set run (2 * k) r.value) (2 * k + 1) (4294967295 - r.value)
      ∙ length-set run (2 * k) r.value;
  put_tidy = λ n run k r whole inside taken tidy. refl;
  clear_tidy = λ n. refl;
  row_taken = λ n run k. refl;
  parsed_taken = λ bs r e. refl;
  parsed_written = number_lawful.parsed_written;
  written_long = number_lawful.written_long;
}
