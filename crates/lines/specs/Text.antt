-- Bytes as upper-case hexadecimal digits, two to a byte.
use Rattle.std.specs.Prelude.{ℕ, ◌+◌, ◌-◌, ◌*◌, ◌/◌, ◌%◌, true, false, ◌&&◌, List, [], ◌∷◌, Some, None, Option, nat_le, nat_lt}

-- the value of a digit: 0 to 9 and A to F
abbrev pub digit : ℕ → Option ℕ
digit b =
    elim (nat_le 48 b && nat_le b 57) [
      | true ↦ Some (b - 48)
      | false ↦ elim (nat_le 65 b && nat_le b 70) [ true ↦ Some (b - 55) | false ↦ None ]
    ]

-- the byte that two digits stand for
abbrev pub pair : ℕ → ℕ → Option ℕ
pair a b = elim (digit a) [ None ↦ None | Some h ↦ elim (digit b) [ None ↦ None | Some l ↦ Some (h * 16 + l) ] ]

-- the bytes that a text stands for, none where it is not digits in pairs
abbrev pub decoded : List ℕ → Option (List ℕ)
decoded [] = Some []
decoded (a ∷ []) = None
decoded (a ∷ b ∷ text) = elim (pair a b) [ None ↦ None | Some x ↦ elim (decoded text) [ None ↦ None | Some xs ↦ Some (x ∷ xs) ] ]

-- the digit of a value below 16
abbrev pub spell : ℕ → ℕ
spell v = elim (nat_lt v 10) [ true ↦ 48 + v | false ↦ 55 + v ]

-- the digits of bytes
abbrev pub spelled : List ℕ → List ℕ
spelled [] = []
spelled (x ∷ xs) = spell (x / 16) ∷ spell (x % 16) ∷ spelled xs
