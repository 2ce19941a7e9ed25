-- The rows that bytes stand for are as many as were asked for, and rows that their kind takes.
use Rattle.std.proofs.Common.{◌≡◌, ℕ, zero, suc, ◌+◌, ◌*◌, ◌<◌, Bool, true, ◌&&◌, List, [], length, get_or, take, drop, is_some, Some, None, Option, unwrap_or, sym, refl, ap, ◌∙◌, subst, add-mul, add_comm, one-mul, zero-mul, add-one, arith}
use Rattle.std.proofs.lemmas.List.{drop-drop}
use Rattle.std.specs.List.{range_with_len, list_all}
use Rattle.rows.specs.declared.row.Row.{Row}
use Rattle.rows.specs.Kind.{Kind, LawfulKind, Taken}
use Rattle.planner.specs.Called.{parsed_row, parsed_rows}
use Rattle.planner.proofs.Gathering.{first_of, first_is}

-- rows that could be parsed
pub record Rows (kd : Kind) (n : ℕ) (rs : List Row) : Type 0 where
  pub long : length rs ≡ n
  pub taken : Taken kd rs

pub rows_parsed : (kd : Kind) → LawfulKind kd → (n : ℕ) (bs : List ℕ) (rs : List Row) → parsed_rows kd n bs ≡ Some rs → Rows kd n rs
rows_parsed kd lawful zero bs rs e =
    let z : rs ≡ [] = cc in
    subst (λ (l : List Row). Rows kd 0 l) (sym z) (record { long = refl; taken = tt })
rows_parsed kd lawful (suc n) bs rs e =
    let p = first_is (kd.parsed (take kd.width bs)) (parsed_rows kd n (drop kd.width bs)) rs e in
    let rest = rows_parsed kd lawful n (drop kd.width bs) p.1 p.3 in
    subst (λ (l : List Row). Rows kd (suc n) l) (sym p.4)
    (record { long = ap (λ (x : ℕ). suc x) rest.long; taken = (lawful.parsed_taken (take kd.width bs) p.0 p.2, rest.taken) })

-- ---- one row after the other
-- where row k begins
row_place : (w k : ℕ) → (k + 1) * w ≡ k * w + w
row_place w k = add-mul k 1 w ∙ ap (λ (x : ℕ). k * w + x) (one-mul w)

-- the bytes of row k after the first row are those of row k + 1
row_later : (w k : ℕ) (bs : List ℕ) → drop (suc k * w) bs ≡ drop (k * w) (drop w bs)
row_later w k bs =
    let z : w + k * w ≡ suc k * w = add_comm w (k * w) ∙ sym (row_place w k) ∙ ap (λ (x : ℕ). x * w) (add-one k) in
    ap (λ (x : ℕ). drop x bs) (sym z) ∙ sym (drop-drop (k * w) w bs)

-- each row of those that parsed is the row at its place
pub parsed_at : (kd : Kind) (n : ℕ) (bs : List ℕ) (rs : List Row) (k : ℕ) (d : Row) → k < n → parsed_rows kd n bs ≡ Some rs → kd.parsed (take kd.width (drop (k * kd.width) bs)) ≡ Some (get_or rs k d)
parsed_at kd zero bs rs k d h e = absurd (omega arith)
parsed_at kd (suc n) bs rs zero d h e =
    let p = first_is (kd.parsed (take kd.width bs)) (parsed_rows kd n (drop kd.width bs)) rs e in
    let z : 0 * kd.width ≡ 0 = zero-mul kd.width in
    ap (λ (x : ℕ). kd.parsed (take kd.width (drop x bs))) z ∙ p.2 ∙ ap (λ (l : List Row). Some (get_or l 0 d)) (sym p.4)
parsed_at kd (suc n) bs rs (suc k) d h e =
    let p = first_is (kd.parsed (take kd.width bs)) (parsed_rows kd n (drop kd.width bs)) rs e in
    ap (λ (x : List ℕ). kd.parsed (take kd.width x)) (row_later kd.width k bs)
    ∙ parsed_at kd n (drop kd.width bs) p.1 k d (omega arith) p.3 ∙ ap (λ (l : List Row). Some (get_or l (suc k) d)) (sym p.4)

-- what parsed has a row at each place
pub parsed_some : (kd : Kind) (n : ℕ) (bs : List ℕ) (k : ℕ) (d : Row) → k < n → is_some (parsed_rows kd n bs) ≡ true → kd.parsed (take kd.width (drop (k * kd.width) bs)) ≡ Some (get_or (unwrap_or (parsed_rows kd n bs) []) k d)
parsed_some kd n bs k d h e = by (parsed_rows kd n bs) refl e
  where
    by : (o : Option (List Row)) → parsed_rows kd n bs ≡ o → is_some o ≡ true → kd.parsed (take kd.width (drop (k * kd.width) bs)) ≡ Some (get_or (unwrap_or o []) k d)
    by None is t = let z : ◌≡◌ {A = ℕ} 0 1 = cc in absurd (omega arith)
    by (Some rs) is t = parsed_at kd n bs rs k d h is

pub parsed_value : (kd : Kind) (n : ℕ) (bs : List ℕ) → is_some (parsed_rows kd n bs) ≡ true → parsed_rows kd n bs ≡ Some (unwrap_or (parsed_rows kd n bs) [])
parsed_value kd n bs e = by (parsed_rows kd n bs) e
  where
    by : (o : Option (List Row)) → is_some o ≡ true → o ≡ Some (unwrap_or o [])
    by None t = let z : ◌≡◌ {A = ℕ} 0 1 = cc in absurd (omega arith)
    by (Some rs) t = refl

pub parsed_long : (kd : Kind) → LawfulKind kd → (n : ℕ) (bs : List ℕ) → is_some (parsed_rows kd n bs) ≡ true → length (unwrap_or (parsed_rows kd n bs) []) ≡ n
parsed_long kd lawful n bs e = (rows_parsed kd lawful n bs (unwrap_or (parsed_rows kd n bs) []) (parsed_value kd n bs e)).long

more_is : (o : Option Row) (rest : Option (List Row)) → is_some (first_of o rest) ≡ (is_some o && is_some rest)
more_is None rest = refl
more_is (Some r) None = refl
more_is (Some r) (Some rs) = refl

-- rows parse together where each of them parses
pub parsed_all : (kd : Kind) (n : ℕ) (bs : List ℕ) (k : ℕ) → list_all (λ j. is_some (parsed_row kd bs j)) (range_with_len k n) ≡ is_some (parsed_rows kd n (drop (k * kd.width) bs))
parsed_all kd zero bs k = refl
parsed_all kd (suc n) bs k =
    let next : drop ((k + 1) * kd.width) bs ≡ drop kd.width (drop (k * kd.width) bs) = ap (λ (x : ℕ). drop x bs) (row_place kd.width k) ∙ sym (drop-drop kd.width (k * kd.width) bs) in
    ap (λ (b : Bool). is_some (parsed_row kd bs k) && b) (parsed_all kd n bs (k + 1) ∙ ap (λ (x : List ℕ). is_some (parsed_rows kd n x)) next)
    ∙ sym (more_is (parsed_row kd bs k) (parsed_rows kd n (drop kd.width (drop (k * kd.width) bs))))
