use Rattle.std.proofs.Common.{◌≡◌, ◌≢◌, ℕ, ◌+◌, ◌*◌, ◌%◌, ◌<◌, ◌≤◌, List, [], ◌∷◌, ◌++◌, length, get_or, take, drop, set, None, Some, Option, refl, ap, sym, ◌∙◌, arith}
use Rattle.std.specs.Option.{option_map}
use Rattle.std.proofs.lemmas.Grind.{common_steps}
use Rattle.std.proofs.lemmas.List.{drop_more, take_more_set, drop-set-lt, append_assoc}
use Rattle.lines.specs.Text.{digit, decoded}
use Rattle.lines.proofs.text.decode.Goals as goal

-- a text with an odd number of digits stands for nothing
decoded_odd : (text : List ℕ) → length text % 2 ≢ 0 → decoded text ≡ None
decoded_odd [] e = absurd (omega arith)
decoded_odd (a ∷ []) e = refl
decoded_odd (a ∷ b ∷ text) e = grind (arith, decoded_odd text (omega arith))

-- the two digits that come next
two_more : (s : List ℕ) (i : ℕ) → 2 * i + 2 ≤ length s → drop (2 * i) s ≡ get_or s (2 * i) 0 ∷ get_or s (2 * i + 1) 0 ∷ drop (2 * (i + 1)) s
two_more s i h = grind (arith, common_steps, drop_more)

-- one byte more before the rest
after_cons : (xs : List ℕ) (x : ℕ) (o : Option (List ℕ)) → option_map (λ ys. xs ++ ys) (elim o [ None ↦ None | Some ys ↦ Some (x ∷ ys) ]) ≡ option_map (λ ys. (xs ++ x ∷ []) ++ ys) o
after_cons xs x None = refl
after_cons xs x (Some ys) = ap Some (sym (append_assoc xs (x ∷ []) ys))

-- the digits of h and l, once they are decoded
decode_more : (s : List ℕ) (i h l : ℕ) → 2 * i + 2 ≤ length s → Some h ≡ digit (get_or s (2 * i) 0) → Some l ≡ digit (get_or s (2 * i + 1) 0) → option_map (λ ys. take (i + 1) (set s i (h * 16 + l)) ++ ys) (decoded (drop (2 * (i + 1)) (set s i (h * 16 + l)))) ≡ option_map (λ ys. take i s ++ ys) (decoded (drop (2 * i) s))
decode_more s i h l k p q =
    let w : i < length s = omega arith in
    let j : i < 2 * (i + 1) = omega arith in
    let e = two_more s i k in
    let f = after_cons (take i s) (h * 16 + l) (decoded (drop (2 * (i + 1)) s)) in
    rw (take_more_set, drop-set-lt) cc

pub returns-then-not-is_multiple_of-clause-bytes : goal.returns-then-not-is_multiple_of-clause-bytes
returns-then-not-is_multiple_of-clause-bytes c = decoded_odd _ (λ e. let even = c.if-not-is_multiple_of.ensures.1 e in cc)

pub loop-i-preserved : goal.loop-i-preserved
loop-i-preserved c = decode_more c.loop-i.line c.loop-i.i c.in_ok-high.high c.in_ok-low.low (omega arith) c.in_ok-high.ensures.value c.in_ok-low.ensures.value ∙ c.loop-i.invariant
