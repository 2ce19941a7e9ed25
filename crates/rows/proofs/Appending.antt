-- What rows that are appended one after another come to, for every lawful kind.
use Rattle.std.proofs.Common.{◌≡◌, ℕ, zero, suc, ◌+◌, ◌<◌, ◌≤◌, true, List, [], ◌∷◌, ◌++◌, map, length, get_or, take, replicate, sym, refl, ap, ◌∙◌, add-zero, add-one, arith}
use Rattle.std.specs.List.{range_with_len}
use Rattle.std.proofs.lemmas.List.FromFn.{length-map-range_with_len, get_or-map-range_with_len, take-map-range_with_len, map-range_with_len_more, fill_by_all}
use Rattle.std.proofs.lemmas.List.{length-replicate, length-take-le, take_all, take_more, append_assoc, append-nil}
use Rattle.rows.specs.declared.row.Row.{Row}
use Rattle.rows.specs.Kind.{Kind, LawfulKind, Taken, rows, appended}

pub rows_long : (kd : Kind) (n : ℕ) (run : List ℕ) → length (rows kd n run) ≡ n
rows_long kd n run = length-map-range_with_len (kd.row n run) 0 n

-- each row of those taken is taken
pub taken_at : (kd : Kind) (rs : List Row) (i : ℕ) (d : Row) → i < length rs → Taken kd rs → kd.takes (get_or rs i d) ≡ true
taken_at kd [] i d h t = absurd (omega arith)
taken_at kd (r ∷ rs) zero d h t = t.0
taken_at kd (r ∷ rs) (suc i) d h t = taken_at kd rs i d (omega arith) t.1

module _ {kd : Kind} (law : LawfulKind kd) where
  -- the first k rows stand, and the next is the row
  pub put_rows : (n : ℕ) (run : List ℕ) (k : ℕ) (r : Row) → length run ≡ kd.words n → k < n → kd.takes r ≡ true → take (k + 1) (rows kd n (kd.put n run k r)) ≡ take k (rows kd n run) ++ r ∷ []
  put_rows n run k r whole inside taken =
      let f : ℕ → Row = kd.row n (kd.put n run k r) in
      let g : ℕ → Row = kd.row n run in
      let same : map f (range_with_len 0 k) ≡ map g (range_with_len 0 k) = fill_by_all g (map f (range_with_len 0 k)) k r (length-map-range_with_len f 0 k)
      (λ j p. get_or-map-range_with_len f 0 k j j r p (omega arith) ∙ law.put_other n run k r j whole inside taken (omega arith) (λ e. omega arith)) in
      take-map-range_with_len f 0 n (k + 1) (omega arith)
      ∙ map-range_with_len_more f 0 k k (omega arith)
      ∙ ap (λ (xs : List Row). xs ++ f k ∷ []) (same ∙ sym (take-map-range_with_len g 0 n k (omega arith)))
      ∙ ap (λ (x : Row). take k (rows kd n run) ++ x ∷ []) (law.put_same n run k r whole inside taken)

  -- the same of a run that is known to be the one written
  pub put_rows_at : (n : ℕ) (run : List ℕ) (k : ℕ) (r : Row) (after : List ℕ) → length run ≡ kd.words n → k < n → kd.takes r ≡ true → after ≡ kd.put n run k r → take (k + 1) (rows kd n after) ≡ take k (rows kd n run) ++ r ∷ []
  put_rows_at n run k r after whole inside taken e =
      ap (λ (xs : List ℕ). take (k + 1) (rows kd n xs)) e ∙ put_rows n run k r whole inside taken

  pub appended_long : (n : ℕ) (run : List ℕ) (k : ℕ) (rs : List Row) → length (appended kd n run k rs) ≡ length run
  appended_long n run k [] = refl
  appended_long n run k (r ∷ rs) = appended_long n (kd.put n run k r) (suc k) rs ∙ law.put_long n run k r

  pub appended_tidy : (n : ℕ) (run : List ℕ) (k : ℕ) (rs : List Row) → length run ≡ kd.words n → k + length rs ≤ n → Taken kd rs → kd.tidy n run ≡ true → kd.tidy n (appended kd n run k rs) ≡ true
  appended_tidy n run k [] whole inside taken tidy = tidy
  appended_tidy n run k (r ∷ rs) whole inside taken tidy =
      appended_tidy n (kd.put n run k r) (suc k) rs (law.put_long n run k r ∙ whole) (omega arith) taken.1
      (law.put_tidy n run k r whole (omega arith) taken.0 tidy)

  -- the first rows stand, and the others are those appended
  pub appended_front : (n : ℕ) (run : List ℕ) (k : ℕ) (rs : List Row) → length run ≡ kd.words n → k + length rs ≤ n → Taken kd rs → take (k + length rs) (rows kd n (appended kd n run k rs)) ≡ take k (rows kd n run) ++ rs
  appended_front n run k [] whole inside taken =
      ap (λ (i : ℕ). take i (rows kd n run)) (add-zero k) ∙ sym (append-nil (take k (rows kd n run)))
  appended_front n run k (r ∷ rs) whole inside taken =
      let next : List ℕ = kd.put n run k r in
      let one : take (suc k) (rows kd n next) ≡ take k (rows kd n run) ++ r ∷ [] = ap (λ (i : ℕ). take i (rows kd n next)) (sym (add-one k)) ∙ put_rows n run k r whole (omega arith) taken.0 in
      ap (λ (i : ℕ). take i (rows kd n (appended kd n next (suc k) rs))) (omega arith)
      ∙ appended_front n next (suc k) rs (law.put_long n run k r ∙ whole) (omega arith) taken.1
      ∙ ap (λ (xs : List Row). xs ++ rs) one
      ∙ append_assoc (take k (rows kd n run)) (r ∷ []) rs

  pub appended_rows : (n : ℕ) (run : List ℕ) (k : ℕ) (rs : List Row) → length run ≡ kd.words n → k + length rs ≡ n → Taken kd rs → rows kd n (appended kd n run k rs) ≡ take k (rows kd n run) ++ rs
  appended_rows n run k rs whole full taken =
      let after : List Row = rows kd n (appended kd n run k rs) in
      sym (take_all (k + length rs) after (omega (arith, rows_long kd n (appended kd n run k rs))))
      ∙ appended_front n run k rs whole (omega arith) taken

  pub appended_whole : (n : ℕ) (rs : List Row) → length rs ≡ n → Taken kd rs → rows kd n (appended kd n (replicate (kd.words n) 0) 0 rs) ≡ rs
  appended_whole n rs full taken = appended_rows n (replicate (kd.words n) 0) 0 rs (length-replicate (kd.words n) 0) (omega arith) taken

pub appended_push : (kd : Kind) (n : ℕ) (run : List ℕ) (k : ℕ) (rs : List Row) (r : Row) → appended kd n run k (rs ++ r ∷ []) ≡ kd.put n (appended kd n run k rs) (k + length rs) r
appended_push kd n run k [] r = ap (λ (i : ℕ). kd.put n run i r) (sym (add-zero k))
appended_push kd n run k (x ∷ xs) r =
    appended_push kd n (kd.put n run k x) (suc k) xs r
    ∙ ap (λ (i : ℕ). kd.put n (appended kd n (kd.put n run k x) (suc k) xs) i r) (omega arith)

-- a loop that appends the rows one by one, at row i
pub appended_more : (kd : Kind) (n : ℕ) (run : List ℕ) (rs : List Row) (i : ℕ) (d : Row) (mid after : List ℕ) (filled : ℕ) → i < length rs → filled ≡ i → mid ≡ appended kd n run 0 (take i rs) → after ≡ kd.put n mid filled (get_or rs i d) → after ≡ appended kd n run 0 (take (i + 1) rs)
appended_more kd n run rs i d mid after filled h at_i so_far put =
    let r : Row = get_or rs i d in
    let place : filled ≡ 0 + length (take i rs) = omega (arith, length-take-le i rs (omega arith)) in
    put
    ∙ ap (λ (xs : List ℕ). kd.put n xs filled r) so_far
    ∙ ap (λ (j : ℕ). kd.put n (appended kd n run 0 (take i rs)) j r) place
    ∙ sym (appended_push kd n run 0 (take i rs) r)
    ∙ ap (appended kd n run 0) (sym (take_more rs i d h))
