-- A call comes from one text alone.
use Rattle.std.proofs.Common.{◌≡◌, ℕ, zero, suc, ◌*◌, ◌/◌, ◌%◌, ◌<◌, ◌≤◌, true, ◌⊎◌, List, [], ◌∷◌, length, take, drop, Some, None, Option, refl, inl, inr, arith}
use Rattle.std.specs.List.{slice_index}
use Rattle.std.proofs.Math.Seq.{take-nil}
use Rattle.std.proofs.lemmas.Grind.{common_steps}
use Rattle.std.proofs.lemmas.List.{drop_more}
use Rattle.std.proofs.lemmas.Bool.Decides.{nat_tests}
use Rattle.rows.specs.Kind.{Kinds, Bytes}
use Rattle.planner.specs.Calls.{Told, make, assemble, share, release, read}
use Rattle.lines.specs.Text.{pair, decoded, spell, spelled}
use Rattle.lines.specs.Parse.{make_of, assemble_of, body_of, parsed, asked, unchecked, header, FromOneText}

-- two digits are the ones that their byte is spelled as
pair_spelled : (a b x : ℕ) → pair a b ≡ Some x → (x < 256) × (spell (x / 16) ≡ a) × (spell (x % 16) ≡ b)
pair_spelled a b x e = grind (arith, nat_tests)

bytes_more : (x : ℕ) (xs : List ℕ) → x < 256 → Bytes xs → Bytes (x ∷ xs)
bytes_more x xs h k zero = h
bytes_more x xs h k (suc i) = k i

-- a text is the one that its bytes are spelled as
pub decoded_spelled : (text bs : List ℕ) → decoded text ≡ Some bs → (spelled bs ≡ text) × Bytes bs
decoded_spelled [] [] e = (refl, λ i. omega arith)
decoded_spelled [] (x ∷ xs) e = cc
decoded_spelled (a ∷ []) bs e = cc
decoded_spelled (a ∷ b ∷ text) [] e = grind arith
decoded_spelled (a ∷ b ∷ text) (x ∷ xs) e =
    let p : pair a b ≡ Some x = grind arith in
    let d : decoded text ≡ Some xs = grind arith in
    let two = pair_spelled a b x p in
    let rest = decoded_spelled text xs d in
    (cc (two.1, two.2, rest.0), bytes_more x xs two.0 rest.1)

-- the bytes of a call
abbrev call_bytes : Told → List ℕ
call_bytes (make root kind n rows) = 1 ∷ root ∷ kind ∷ n / 256 ∷ n % 256 ∷ rows
call_bytes (assemble root f rs) =
    let p = f.parameter in
    2 ∷ root ∷ f.encoding ∷ f.kind ∷ f.len / 256 ∷ f.len % 256 ∷ p / 256 / 256 / 256 ∷ p / 256 / 256 % 256 ∷ p / 256 % 256 ∷ p % 256 ∷ f.arity ∷ rs
call_bytes (share to from) = 3 ∷ to ∷ from ∷ []
call_bytes (release root) = 4 ∷ root ∷ []
call_bytes (read root) = 9 ∷ root ∷ []

-- bytes with its header, and where its rows and roots are looked at its bytes
abbrev From : Kinds → Told → List ℕ → Type 0
From ks c bs = (take (header c) bs ≡ take (header c) (call_bytes c)) × ((bs ≡ call_bytes c) ⊎ (unchecked ks c ≡ true))

-- the bytes that a making comes from, and those that an array with children comes from
made_from : (ks : Kinds) (bs : List ℕ) (c : Told) → Bytes bs → make_of ks bs ≡ Some c → From ks c (1 ∷ bs)
made_from ks bs c h e =
    let long : 4 ≤ length bs = grind (arith, nat_tests) in
    let opened : bs ≡ slice_index bs 0 ∷ slice_index bs 1 ∷ slice_index bs 2 ∷ slice_index bs 3 ∷ drop 4 bs = grind (arith, common_steps, drop_more) in
    (grind (arith, nat_tests, h 3), grind (arith, nat_tests, h 3))

assembled_from : (ks : Kinds) (bs : List ℕ) (c : Told) → Bytes bs → assemble_of bs ≡ Some c → From ks c (2 ∷ bs)
assembled_from ks bs c h e =
    let long : 10 ≤ length bs = grind (arith, nat_tests) in
    let opened : bs ≡ slice_index bs 0 ∷ slice_index bs 1 ∷ slice_index bs 2 ∷ slice_index bs 3 ∷ slice_index bs 4 ∷ slice_index bs 5 ∷ slice_index bs 6 ∷ slice_index bs 7 ∷ slice_index bs 8 ∷ slice_index bs 9 ∷ drop 10 bs = grind (arith, common_steps, drop_more) in
    (grind (arith, nat_tests, h 4, h 6, h 7, h 8), grind (arith, nat_tests, h 4, h 6, h 7, h 8))

-- bytes that stand for a call are those of a making, those of an array with children, or just the call's own
parsed_ways : (ks : Kinds) (k : ℕ) (bs : List ℕ) (c : Told) → body_of ks k bs ≡ Some c → ((k ≡ 1) × (make_of ks bs ≡ Some c)) ⊎ (((k ≡ 2) × (assemble_of bs ≡ Some c)) ⊎ (k ∷ bs ≡ call_bytes c))
parsed_ways ks k bs c e = grind (arith, nat_tests, common_steps, drop_more)

parsed_from : (ks : Kinds) (bs : List ℕ) (c : Told) → Bytes bs → parsed ks bs ≡ Some c → From ks c bs
parsed_from ks [] c h e = cc
parsed_from ks (k ∷ bs) c h e =
    elim (parsed_ways ks k bs c e) [
      | inl w ↦ rw w.0 (made_from ks bs c (λ i. h (suc i)) w.1)
      | inr (inl w) ↦ rw w.0 (assembled_from ks bs c (λ i. h (suc i)) w.1)
      | inr (inr same) ↦ rw same (refl, inl refl)
    ]

-- a text that asks something decodes to bytes that stand for it
asked_from : (ks : Kinds) (text : List ℕ) (c : Told) (o : Option (List ℕ)) → decoded text ≡ o → asked ks text ≡ Some c → (bs : List ℕ) × (spelled bs ≡ text) × From ks c bs
asked_from ks text c None d e = grind (arith, nat_tests)
asked_from ks text c (Some bs) d e =
    let s = decoded_spelled text bs d in
    let p : parsed ks bs ≡ Some c = grind (arith, nat_tests) in
    (bs, s.0, parsed_from ks bs c s.1 p)

-- the digits of the first bytes
take_spelled : (n : ℕ) (xs : List ℕ) → take (2 * n) (spelled xs) ≡ spelled (take n xs)
take_spelled zero xs = refl
take_spelled (suc n) [] = take-nil (2 * suc n)
take_spelled (suc n) (x ∷ xs) =
    let more : 2 * suc n ≡ suc (suc (2 * n)) = omega arith in
    rw more cc (take_spelled n xs)

pub from_one_text : (ks : Kinds) → FromOneText ks
from_one_text ks a b c ea eb =
    let p = asked_from ks a c (decoded a) refl ea in
    let q = asked_from ks b c (decoded b) refl eb in
    let n = header c in
    let same : take (2 * n) a ≡ take (2 * n) b = cc (take_spelled n p.0, take_spelled n q.0, p.1, q.1, p.2.0, q.2.0) in
    elim p.2.1 [
      | inl x ↦ elim q.2.1 [ inl y ↦ inl cc | inr u ↦ inr (u, same) ]
      | inr u ↦ inr (u, same)
    ]
