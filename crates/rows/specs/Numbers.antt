-- A number is a lawful kind.
use Rattle.std.specs.Prelude.{◌≡◌, ℕ, ◌+◌, ◌*◌, ◌/◌, ◌%◌, ◌<◌, Bool, true, false, List, [], ◌∷◌, length, Some, None, Option, ◌==◌, refl}
use Rattle.std.proofs.Common.{sym, ap, ◌∙◌, arith}
use Rattle.std.proofs.lemmas.List.{get_or-set_same, get_or-set_other, length-set}
use Rattle.std.proofs.lemmas.Bool.{eqb-true}
use Rattle.rows.specs.declared.row.Row.{Row}
use Rattle.rows.specs.Kind.{LawfulKind, Bytes}
use Rattle.rows.specs.Ours.{number, four}

-- a row under a test is the row, and the test came out true
pub some_if : (b : Bool) (x r : Row) → ◌≡◌ {A = Option Row} (elim b [ true ↦ Some x | false ↦ None ]) (Some r) → (b ≡ true) × (x ≡ r)
some_if true x r e = (refl, cc)
some_if false x r e = let z : ◌≡◌ {A = ℕ} 0 1 = cc in absurd (omega arith)

abbrev bytes_of : ℕ → List ℕ
bytes_of v = (v / 16777216) % 256 ∷ (v / 65536) % 256 ∷ (v / 256) % 256 ∷ v % 256 ∷ []

four_back : (a b c d v : ℕ) → a < 256 → b < 256 → c < 256 → d < 256 → a * 16777216 + b * 65536 + c * 256 + d ≡ v → bytes_of v ≡ a ∷ b ∷ c ∷ d ∷ []
four_back a b c d v la lb lc ld e =
    let ea : (v / 16777216) % 256 ≡ a = omega arith in
    let eb : (v / 65536) % 256 ≡ b = omega arith in
    let ec : (v / 256) % 256 ≡ c = omega arith in
    let ed : v % 256 ≡ d = omega arith in
    cc

written_four : (bs : List ℕ) → Bytes bs → length bs ≡ 4 → bytes_of (four bs) ≡ bs
written_four [] h e = absurd (omega arith)
written_four (a ∷ []) h e = absurd (omega arith)
written_four (a ∷ b ∷ []) h e = absurd (omega arith)
written_four (a ∷ b ∷ c ∷ []) h e = absurd (omega arith)
written_four (a ∷ b ∷ c ∷ d ∷ []) h e = four_back a b c d (four (a ∷ b ∷ c ∷ d ∷ [])) (h 0) (h 1) (h 2) (h 3) refl
written_four (a ∷ b ∷ c ∷ d ∷ f ∷ bs) h e = absurd (omega arith)

written_back : (bs : List ℕ) (r : Row) → Bytes bs → number.parsed bs ≡ Some r → number.written r ≡ bs
written_back bs r h e =
    let p = some_if (length bs == 4) (record { value = four bs }) r e in
    ap number.written (sym p.1) ∙ written_four bs h (eqb-true (length bs) 4 p.0)

pub number_lawful : LawfulKind number
number_lawful = record {
  put_same = λ n run k r whole inside taken. ap (λ (v : ℕ). record { value = v }) (get_or-set_same run k r.value 0 (omega arith));
  put_other = λ n run k r j whole inside taken l ne. ap (λ (v : ℕ). record { value = v }) (get_or-set_other run k j r.value 0 ne);
  put_long = λ n run k r. length-set run k r.value;
  put_tidy = λ n run k r whole inside taken tidy. refl;
  clear_tidy = λ n. refl;
  row_taken = λ n run k. refl;
  parsed_taken = λ bs r e. refl;
  parsed_written = written_back;
  written_long = λ r. refl;
}
