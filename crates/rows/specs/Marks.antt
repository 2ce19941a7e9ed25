-- A mark is a lawful kind.
use Rattle.std.specs.Prelude.{◌≡◌, ℕ, ◌/◌, ◌%◌, ◌^◌, ◌<◌, Bool, true, false, ltb, List, [], ◌∷◌, length, replicate, Some, None, Option, ◌==◌, ◌≢◌, nat_lt, slice_index, slice_index_or, slice_set, refl}
use Rattle.std.proofs.Common.{sym, ap, subst, ◌∙◌, ⊎_elim, arith}
use Rattle.std.proofs.lemmas.Nat.{pow_pos}
use Rattle.std.proofs.lemmas.List.{get_or-set_same, get_or-set_other, length-set, get_or-replicate, get_or_past, length-replicate}
use Rattle.std.proofs.lemmas.Bool.{eqb-true, ltb-true, lt-ltb, cases_eq, cases_lt}
use Rattle.rows.specs.declared.row.Row.{Row}
use Rattle.rows.specs.Kind.{LawfulKind}
use Rattle.rows.specs.Ours.{mark, bit, with_bit}
use Rattle.rows.specs.Bits.{bit_small, with_bit_same, with_bit_other, with_bit_below}
use Rattle.rows.specs.Numbers.{some_if}

-- the word of row k once it is written
put_word : (run : List ℕ) (k v : ℕ) → k / 32 < length run → slice_index (slice_set run (k / 32) (with_bit (slice_index run (k / 32)) (k % 32) v)) (k / 32) ≡ with_bit (slice_index run (k / 32)) (k % 32) v
put_word run k v h = get_or-set_same run (k / 32) (with_bit (slice_index run (k / 32)) (k % 32) v) 0 h

put_there : (n : ℕ) (run : List ℕ) (k : ℕ) (r : Row) → length run ≡ mark.words n → k < n → mark.takes r ≡ true → mark.row n (mark.put n run k r) k ≡ r
put_there n run k r whole inside taken =
    ap (λ (v : ℕ). record { value = v })
    (ap (λ (w : ℕ). bit w (k % 32)) (put_word run k r.value (omega arith))
    ∙ with_bit_same (slice_index run (k / 32)) (k % 32) r.value (ltb-true r.value 2 taken))

-- two rows lie in one word, or in two
put_apart : (n : ℕ) (run : List ℕ) (k : ℕ) (r : Row) (j : ℕ) → length run ≡ mark.words n → k < n → mark.takes r ≡ true → j < n → (j ≢ k) → mark.row n (mark.put n run k r) j ≡ mark.row n run j
put_apart n run k r j whole inside taken l ne =
    ap (λ (v : ℕ). record { value = v })
    (⊎_elim
    (λ (e : j / 32 ≡ k / 32).
    ap (λ (i : ℕ). bit (slice_index (mark.put n run k r) i) (j % 32)) e
    ∙ ap (λ (w : ℕ). bit w (j % 32)) (put_word run k r.value (omega arith))
    ∙ with_bit_other (slice_index run (k / 32)) (k % 32) r.value (j % 32) (ltb-true r.value 2 taken) (λ q. ne (omega arith))
    ∙ ap (λ (i : ℕ). bit (slice_index run i) (j % 32)) (sym e))
    (λ (o : j / 32 ≡ k / 32 → ⊥).
    ap (λ (w : ℕ). bit w (j % 32)) (get_or-set_other run (k / 32) (j / 32) (with_bit (slice_index run (k / 32)) (k % 32) r.value) 0 o))
    (cases_eq (j / 32) (k / 32)))

-- what tidy says of a run, with the test for a whole last word named
abbrev tidy_by : Bool → ℕ → List ℕ → Bool
tidy_by b n run = elim b [ true ↦ true | false ↦ ltb (slice_index run (n / 32)) (2 ^ (n % 32)) ]

tidy_from : (b : Bool) (n : ℕ) (run : List ℕ) → (b ≡ false → slice_index run (n / 32) < 2 ^ (n % 32)) → tidy_by b n run ≡ true
tidy_from true n run h = refl
tidy_from false n run h = lt-ltb (slice_index run (n / 32)) (2 ^ (n % 32)) (h refl)

tidy_to : (b : Bool) (n : ℕ) (run : List ℕ) → tidy_by b n run ≡ true → b ≡ false → slice_index run (n / 32) < 2 ^ (n % 32)
tidy_to true n run t e = let z : ◌≡◌ {A = ℕ} 0 1 = cc in absurd (omega arith)
tidy_to false n run t e = ltb-true (slice_index run (n / 32)) (2 ^ (n % 32)) t

put_low : (n : ℕ) (run : List ℕ) (k : ℕ) (r : Row) → length run ≡ mark.words n → k < n → mark.takes r ≡ true → slice_index run (n / 32) < 2 ^ (n % 32) → slice_index (mark.put n run k r) (n / 32) < 2 ^ (n % 32)
put_low n run k r whole inside taken h =
    ⊎_elim
    (λ (e : n / 32 ≡ k / 32).
    let here : slice_index_or run (k / 32) 0 < 2 ^ (n % 32) = subst (λ (i : ℕ). slice_index run i < 2 ^ (n % 32)) e h in
    let below = with_bit_below (slice_index run (k / 32)) (k % 32) r.value (n % 32) (ltb-true r.value 2 taken) (omega arith) here in
    subst (λ (i : ℕ). slice_index (mark.put n run k r) i < 2 ^ (n % 32)) (sym e)
    (subst (λ (w : ℕ). w < 2 ^ (n % 32)) (sym (put_word run k r.value (omega arith))) below))
    (λ (o : n / 32 ≡ k / 32 → ⊥).
    subst (λ (w : ℕ). w < 2 ^ (n % 32))
    (sym (get_or-set_other run (k / 32) (n / 32) (with_bit (slice_index run (k / 32)) (k % 32) r.value) 0 o))
    h)
    (cases_eq (n / 32) (k / 32))

clear_word : (m i : ℕ) → ◌≡◌ {A = ℕ} (slice_index (replicate m 0) i) 0
clear_word m i =
    ⊎_elim (λ l. get_or-replicate m i 0 0 l) (λ l. get_or_past (replicate m 0) i 0 (omega (arith, length-replicate {A = ℕ} m 0))) (cases_lt i m)

mark_parsed : (b : Bool) (bs : List ℕ) (r : Row) → ◌≡◌ {A = Option Row} (elim b [ true ↦ elim (nat_lt (slice_index bs 0) 2) [ true ↦ Some (record { value = slice_index bs 0 }) | false ↦ None ] | false ↦ None ]) (Some r) → (b ≡ true) × (nat_lt (slice_index bs 0) 2 ≡ true) × (record { value = slice_index bs 0 } ≡ r)
mark_parsed true bs r e =
    let p = some_if (nat_lt (slice_index bs 0) 2) (record { value = slice_index bs 0 }) r e in
    (refl, p.0, p.1)
mark_parsed false bs r e = let z : ◌≡◌ {A = ℕ} 0 1 = cc in absurd (omega arith)

written_one : (bs : List ℕ) → length bs ≡ 1 → slice_index bs 0 ∷ [] ≡ bs
written_one [] e = absurd (omega arith)
written_one (a ∷ []) e = refl
written_one (a ∷ b ∷ bs) e = absurd (omega arith)

pub mark_lawful : LawfulKind mark
mark_lawful = record {
  put_same = put_there;
  put_other = put_apart;
  put_long = λ n run k r. length-set run (k / 32) (with_bit (slice_index run (k / 32)) (k % 32) r.value);
  put_tidy = λ n run k r whole inside taken tidy. tidy_from (n % 32 == 0) n (mark.put n run k r) (λ e. put_low n run k r whole inside taken (tidy_to (n % 32 == 0) n run tidy e));
  clear_tidy = λ n. tidy_from (n % 32 == 0) n (replicate (mark.words n) 0) (λ e. omega (arith, clear_word (mark.words n) (n / 32), pow_pos (n % 32)));
  row_taken = λ n run k. lt-ltb (bit (slice_index run (k / 32)) (k % 32)) 2 (bit_small (slice_index run (k / 32)) (k % 32));
  parsed_taken = λ bs r e. let p = mark_parsed (length bs == 1) bs r e in subst (λ (x : Row). nat_lt x.value 2 ≡ true) p.2 p.1;
  parsed_written = λ bs r h e. let p = mark_parsed (length bs == 1) bs r e in ap mark.written (sym p.2) ∙ written_one bs (eqb-true (length bs) 1 p.0);
  written_long = λ r. refl;
}
