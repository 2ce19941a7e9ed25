-- A word with another bit in it.
use Rattle.std.specs.Prelude.{◌≡◌, ℕ, ◌+◌, ◌-◌, ◌*◌, ◌/◌, ◌%◌, ◌^◌, ◌<◌, ◌≤◌, ◌≢◌}
use Rattle.std.proofs.Common.{sym, ap, subst, ◌∙◌, ⊎_elim, add-mul, arith}
use Rattle.std.proofs.lemmas.Nat.{pow_pos, pow-add, shr-shr, shr_split, mod-pow-add, field_of, mul-add-lt, mod_below, shr_below, shl_whole, shr_high, mod_low}
use Rattle.std.proofs.lemmas.Bool.{cases_order}
use Rattle.rows.specs.Ours.{bit, with_bit}

pub bit_small : (w j : ℕ) → bit w j < 2
bit_small w j = omega arith

pub bit_shifted : (v j : ℕ) → v < 2 → j < 32 → (v * 2 ^ j) % 2 ^ 32 ≡ v * 2 ^ j
bit_shifted v j h l = shl_whole v 1 j 32 h (omega arith)

-- a word is what is above a bit, the bit, and what is below it
pub word_split : (w j : ℕ) → (w / 2 ^ j / 2 * 2) * 2 ^ j + bit w j * 2 ^ j + w % 2 ^ j ≡ w
word_split w j =
    let d : (w / 2 ^ j / 2 * 2 + bit w j) * 2 ^ j ≡ (w / 2 ^ j / 2 * 2) * 2 ^ j + bit w j * 2 ^ j = add-mul (w / 2 ^ j / 2 * 2) (bit w j) (2 ^ j) in
    let e : (w / 2 ^ j / 2 * 2 + bit w j) * 2 ^ j ≡ w / 2 ^ j * 2 ^ j = ap (λ (x : ℕ). x * 2 ^ j) (omega arith) in
    omega (arith, d, e, shr_split w j)

pub bit_within : (w j : ℕ) → bit w j * 2 ^ j ≤ w
bit_within w j = omega (arith, word_split w j)

pub with_bit_is : (w j v : ℕ) → with_bit w j v ≡ (w / 2 ^ j / 2 * 2 + v) * 2 ^ j + w % 2 ^ j
with_bit_is w j v = omega (arith, word_split w j, add-mul (w / 2 ^ j / 2 * 2) v (2 ^ j))

high : (w j v : ℕ) → with_bit w j v / 2 ^ j ≡ w / 2 ^ j / 2 * 2 + v
high w j v =
    ap (λ (x : ℕ). x / 2 ^ j) (with_bit_is w j v)
    ∙ shr_high (w / 2 ^ j / 2 * 2 + v) j (w % 2 ^ j) (mod_below w (2 ^ j) (pow_pos j))

low : (w j v : ℕ) → with_bit w j v % 2 ^ j ≡ w % 2 ^ j
low w j v =
    ap (λ (x : ℕ). x % 2 ^ j) (with_bit_is w j v)
    ∙ mod_low (w / 2 ^ j / 2 * 2 + v) j (w % 2 ^ j) (mod_below w (2 ^ j) (pow_pos j))

pub with_bit_same : (w j v : ℕ) → v < 2 → bit (with_bit w j v) j ≡ v
with_bit_same w j v h = omega (arith, high w j v)

-- a bit below j is one of the word cut at j
bit_cut : (w i d : ℕ) → bit w i ≡ (w % 2 ^ (d + 1 + i) / 2 ^ i) % 2
bit_cut w i d = omega (arith, field_of w (d + 1) i, mod-pow-add (w / 2 ^ i) d 1)

-- a bit above j is one of what is above j
bit_above : (w j d : ℕ) → bit w (j + 1 + d) ≡ bit (w / 2 ^ j / 2) d
bit_above w j d =
    ap (λ (x : ℕ). x % 2)
    (sym (shr-shr w (j + 1) d) ∙ ap (λ (x : ℕ). x / 2 ^ d) (sym (shr-shr w j 1)))

below : (w j v i d : ℕ) → j ≡ d + 1 + i → bit (with_bit w j v) i ≡ bit w i
below w j v i d e =
    bit_cut (with_bit w j v) i d
    ∙ ap (λ (x : ℕ). (x / 2 ^ i) % 2)
    (subst (λ (x : ℕ). with_bit w j v % 2 ^ x ≡ w % 2 ^ x) e (low w j v))
    ∙ sym (bit_cut w i d)

above : (w j v i d : ℕ) → v < 2 → i ≡ j + 1 + d → bit (with_bit w j v) i ≡ bit w i
above w j v i d h e =
    let same : with_bit w j v / 2 ^ j / 2 ≡ w / 2 ^ j / 2 = omega (arith, high w j v) in
    ap (bit (with_bit w j v)) e ∙ bit_above (with_bit w j v) j d ∙ ap (λ (x : ℕ). bit x d) same
    ∙ sym (bit_above w j d)
    ∙ ap (bit w) (sym e)

pub with_bit_other : (w j v i : ℕ) → v < 2 → (i ≢ j) → bit (with_bit w j v) i ≡ bit w i
with_bit_other w j v i h ne =
    ⊎_elim
    (λ e. absurd (ne e))
    (⊎_elim (λ l. below w j v i (j - i - 1) (omega arith)) (λ l. above w j v i (i - j - 1) h (omega arith)))
    (cases_order i j)

-- the word stays within the bits that it was within
pub with_bit_below : (w j v m : ℕ) → v < 2 → j < m → w < 2 ^ m → with_bit w j v < 2 ^ m
with_bit_below w j v m h l b =
    let d : ℕ = m - j - 1 in
    let e : m ≡ d + 1 + j = omega arith in
    let top : w / 2 ^ j < 2 ^ (d + 1) = shr_below w (d + 1) j (subst (λ (x : ℕ). w < 2 ^ x) e b) in
    let half : w / 2 ^ j / 2 * 2 + v < 2 ^ (d + 1) = omega (arith, pow-add 2 d 1) in
    let p : 2 ^ m ≡ 2 ^ j * 2 ^ (d + 1) = ap (λ (x : ℕ). 2 ^ x) (omega arith) ∙ pow-add 2 j (d + 1) in
    omega (arith, with_bit_is w j v, mul-add-lt (w / 2 ^ j / 2 * 2 + v) (2 ^ j) (w % 2 ^ j) (2 ^ (d + 1)) half (mod_below w (2 ^ j) (pow_pos j)), p)
