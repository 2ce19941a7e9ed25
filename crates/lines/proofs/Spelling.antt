-- Digits that are appended, one after another.
use Rattle.std.proofs.Common.{◌≡◌, ℕ, ◌+◌, ◌*◌, ◌/◌, ◌%◌, ◌<◌, ◌≤◌, List, [], ◌∷◌, ◌++◌, map, length, get_or, take, sym, refl, append_assoc, arith, length-append, length-take}
use Rattle.std.specs.List.{flat_map, range_with_len}
use Rattle.std.proofs.lemmas.Grind.{take_at_read}
use Rattle.std.proofs.lemmas.List.{take_all, flat_map_more}
use Rattle.std.proofs.lemmas.List.Concat.{length-flat_map}
use Rattle.std.proofs.lemmas.List.Folds.{length-flat_map-take}
use Rattle.std.proofs.lemmas.List.FromFn.{take-map-range_with_len, map-range_with_len_more, get_or-map-range_with_len, length-map-range_with_len}
use Rattle.std.proofs.lemmas.List.Sums.{sum_by-le}
use Rattle.std.proofs.lemmas.Nat.{mul-le}
use Rattle.rows.specs.Kind.{Kind, Kinds, rows}
use Rattle.rows.specs.Ours.{LawfulKinds}
use Rattle.planner.specs.Calls as calls
use Rattle.planner.specs.Calls.{Said, done, refused}
use Rattle.lines.specs.Text.{spelled}
use Rattle.lines.specs.Parse.{longest}
use Rattle.lines.specs.Written.{written, Short}

pub length_spelled : (bs : List ℕ) → length (spelled bs) ≡ 2 * length bs
length_spelled [] = refl
length_spelled (x ∷ xs) = omega (arith, length_spelled xs)

pub spelled_append : (xs ys : List ℕ) → spelled (xs ++ ys) ≡ spelled xs ++ spelled ys
spelled_append [] ys = refl
spelled_append (x ∷ xs) ys = cc (spelled_append xs ys)

-- of the rows that a run means: one row more, that it fits, and all of them
pub next_row : (kd : Kind) (run : List ℕ) (n k : ℕ) → k < n → flat_map kd.written (take (k + 1) (rows kd n run)) ≡ flat_map kd.written (take k (rows kd n run)) ++ kd.written (kd.row n run k)
next_row kd run n k h =
    let f = kd.row n run in
    rw (take-map-range_with_len f 0 n k (omega arith), take-map-range_with_len f 0 n (k + 1) (omega arith), map-range_with_len_more f 0 k k (omega arith)) (sym (flat_map_more kd.written [] (map f (range_with_len 0 k)) (f k)))

pub row_fits : (kd : Kind) (run : List ℕ) (n k : ℕ) → k < n → length (flat_map kd.written (take k (rows kd n run))) + length (kd.written (kd.row n run k)) ≤ length (flat_map kd.written (rows kd n run))
row_fits kd run n k h =
    let f = kd.row n run in
    rw (get_or-map-range_with_len f 0 n k k (f k) h (omega arith)) at (length-flat_map-take kd.written (rows kd n run) k (f k) (omega (arith, length-map-range_with_len f 0 n)))

pub all_rows : (kd : Kind) (run : List ℕ) (n k : ℕ) → n ≤ k → take k (rows kd n run) ≡ rows kd n run
all_rows kd run n k h = take_all k (rows kd n run) (omega (arith, length-map-range_with_len (kd.row n run) 0 n))

-- what a loop that appends bytes or rows needs
pub ruleset appending = (append_assoc, length-append, length-take, take_all, take_at_read, spelled_append, length_spelled, next_row, row_fits, all_rows)

-- an answer of at most 1,024 rows is no longer than the longest call
pub written_short : (ks : Kinds) → LawfulKinds ks → (a : Said) → Short a → length (written ks a) ≤ longest ks
written_short ks law done h = omega arith
written_short ks law (calls.rows kind n place words) h =
    let kd = ks.kind kind in
    let rs = rows kd n words in
    let bs = flat_map kd.written rs in
    let sum = sum_by-le (λ r. length (kd.written r)) kd.width rs (λ k d l. omega (arith, (law.lawful kind).written_long (get_or rs k d))) in
    let most = mul-le (length rs) kd.width 1024 ks.widest (omega (arith, length-map-range_with_len (kd.row n words) 0 n)) (law.width_widest kind) in
    omega (arith, sum, most, length-flat_map kd.written rs, length_spelled bs)
written_short ks law (refused e) h = omega arith
