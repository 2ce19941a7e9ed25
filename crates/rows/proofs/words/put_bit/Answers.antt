use Rattle.std.proofs.Common.{◌≡◌, ℕ, zero, suc, ◌-◌, ◌*◌, ◌^◌, ◌<◌, bit_and, bit_or, refl, ap, ◌∙◌, arith}
use Rattle.std.proofs.lemmas.Nat.{and_comm, and-not, one_shl, or_disjoint, pow_below, shl_whole}
use Rattle.std.proofs.lemmas.Nat.Bits.{and_pow}
use Rattle.std.proofs.lemmas.Grind.{and-not_self}
use Rattle.std.proofs.Math.Nat.{zero-mul, one-mul}
use Rattle.std.specs.Int.Bits.{and_zero_r}
use Rattle.rows.specs.Ours.{bit, with_bit}
use Rattle.rows.proofs.words.put_bit.Goals as goal

-- a word with no bit at j shares none with a bit there
apart : (x j v : ℕ) → v < 2 → bit_and x (2 ^ j) ≡ 0 → bit_and x (v * 2 ^ j) ≡ 0
apart x j zero s e = ap (bit_and x) (zero-mul (2 ^ j)) ∙ and_zero_r x
apart x j (suc zero) s e = ap (bit_and x) (one-mul (2 ^ j)) ∙ e
apart x j (suc (suc v)) s e = absurd (omega arith)

written : (w j v m s : ℕ) → w < 2 ^ 32 → j < 32 → v < 2 → m ≡ 2 ^ j → s ≡ v * 2 ^ j → bit_or (bit_and w (4294967295 - m)) s ≡ with_bit w j v
written w j v m s fits inside small at_m at_s =
    let low : 2 ^ j < 2 ^ 32 = pow_below j 32 inside in
    let x : ℕ = bit_and w (4294967295 - m) in
    let free : bit_and x (2 ^ j) ≡ 0 = and-not_self w 4294967295 m (2 ^ j) refl (omega arith) (omega arith) in
    let cleared : x ≡ w - bit w j * 2 ^ j
    = omega (arith, ap (λ (n : ℕ). bit_and w (4294967295 - n)) at_m, and-not 32 (2 ^ j) w low fits, and_comm w (4294967295 - 2 ^ j), and_comm (2 ^ j) w, and_pow w j) in
    omega (arith, ap (bit_or x) at_s, or_disjoint x (v * 2 ^ j) (apart x j v small free), cleared)

pub returns : goal.returns
returns c =
    written c.args.word c.args.j c.args.v _ _ (omega arith) c.requires.inside c.requires.small (one_shl c.args.j 32 c.requires.inside) (shl_whole c.args.v 1 c.args.j 32 c.requires.small (omega arith))
