-- The two kinds of every set: number is kind 1 and mark is kind 2; and a set with one kind more.
use Rattle.std.specs.Prelude.{◌≡◌, ℕ, ◌+◌, ◌-◌, ◌*◌, ◌/◌, ◌%◌, ◌^◌, ◌≤◌, max, true, false, ◌||◌, List, [], ◌∷◌, length, Some, None, ◌==◌, nat_lt, slice_index, slice_set}
use Rattle.rows.specs.Kind.{Kind, Kinds, LawfulKind}

-- four bytes, the high one first
abbrev pub four : List ℕ → ℕ
four bs = slice_index bs 0 * 16777216 + slice_index bs 1 * 65536 + slice_index bs 2 * 256 + slice_index bs 3

-- A number takes a word a row, and four bytes in a line.
abbrev pub number : Kind
number = record {
  takes = λ r. true;
  constant = λ p. record { value = p };
  words = λ n. n;
  row = λ n run k. record { value = slice_index run k };
  put = λ n run k r. slice_set run k r.value;
  tidy = λ n run. true;
  width = 4;
  parsed = λ bs. elim (length bs == 4) [ true ↦ Some (record { value = four bs }) | false ↦ None ];
  written = λ r. (r.value / 16777216) % 256 ∷ (r.value / 65536) % 256 ∷ (r.value / 256) % 256 ∷ r.value % 256 ∷ [];
}

-- bit j of a word, bit 0 the lowest
abbrev pub bit : ℕ → ℕ → ℕ
bit w j = (w / 2 ^ j) % 2

-- the word with v for its bit j
abbrev pub with_bit : ℕ → ℕ → ℕ → ℕ
with_bit w j v = (w - bit w j * 2 ^ j) + v * 2 ^ j

-- A mark is 0 or 1: row k is bit k mod 32 of word k div 32, and a byte in a line.
abbrev pub mark : Kind
mark = record {
  takes = λ r. nat_lt r.value 2;
  constant = λ p. record { value = p };
  words = λ n. (n + 31) / 32;
  row = λ n run k. record { value = bit (slice_index run (k / 32)) (k % 32) };
  put = λ n run k r. slice_set run (k / 32) (with_bit (slice_index run (k / 32)) (k % 32) r.value);
  tidy = λ n run. elim (n % 32 == 0) [ true ↦ true | false ↦ nat_lt (slice_index run (n / 32)) (2 ^ (n % 32)) ];
  width = 1;
  parsed = λ bs. elim (length bs == 1) [ true ↦ elim (nat_lt (slice_index bs 0) 2) [ true ↦ Some (record { value = slice_index bs 0 }) | false ↦ None ] | false ↦ None ];
  written = λ r. r.value ∷ [];
}

-- What every set of kinds owes: number and mark under their numbers, every kind lawful, no row wider than the widest.
pub record LawfulKinds (ks : Kinds) : Type 0 where
  pub has_number : ks.has 1 ≡ true
  pub has_mark : ks.has 2 ≡ true
  pub is_number : ks.kind 1 ≡ number
  pub is_mark : ks.kind 2 ≡ mark
  pub lawful : (k : ℕ) → LawfulKind (ks.kind k)
  pub width_widest : (k : ℕ) → (ks.kind k).width ≤ ks.widest

-- number and mark alone
abbrev pub base_kinds : Kinds
base_kinds = record {
  has = λ k. (k == 1) || (k == 2);
  kind = λ k. elim (k == 2) [ true ↦ mark | false ↦ number ];
  widest = 4;
}

-- a set with one kind more, under a number; the numbers that the set has stay as they are
abbrev pub joined_kinds : Kinds → ℕ → Kind → Kinds
joined_kinds ks i kd = record {
  has = λ k. ks.has k || (k == i);
  kind = λ k. elim (ks.has k) [ true ↦ ks.kind k | false ↦ elim (k == i) [ true ↦ kd | false ↦ ks.kind k ] ];
  widest = max ks.widest kd.width;
}
