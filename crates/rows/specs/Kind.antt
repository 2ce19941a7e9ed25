-- What a row kind means, what it owes, and what a set of kinds told apart by number is.
use Rattle.std.specs.Prelude.{◌≡◌, ℕ, suc, ◌<◌, Bool, true, List, [], ◌∷◌, map, length, replicate, Some, Option, ◌≢◌, slice_index}
use Rattle.std.specs.List.{range_with_len}
use Rattle.rows.specs.declared.row.Row.{Row}

-- Rows in a run of words, and as bytes of a line.
pub record Kind : Type 0 where
  -- the rows that it takes
  pub takes : Row → Bool
  -- the row that the parameter of a constant array stands for
  pub constant : ℕ → Row
  -- the words that n rows need
  pub words : ℕ → ℕ
  -- row k of the n rows in a run
  pub row : ℕ → List ℕ → ℕ → Row
  -- the run of n rows once row k is written
  pub put : ℕ → List ℕ → ℕ → Row → List ℕ
  -- no bit past the n rows is set
  pub tidy : ℕ → List ℕ → Bool
  -- the bytes of a row in a line
  pub width : ℕ
  -- the row that these bytes stand for, if any
  pub parsed : List ℕ → Option Row
  -- the bytes that stand for a row
  pub written : Row → List ℕ

-- the n rows that a run means
abbrev pub rows : Kind → ℕ → List ℕ → List Row
rows kd n run = map (kd.row n run) (range_with_len 0 n)

-- the run once these rows are appended to its first k
abbrev pub appended : Kind → ℕ → List ℕ → ℕ → List Row → List ℕ
appended kd n run k [] = run
appended kd n run k (r ∷ rs) = appended kd n (kd.put n run k r) (suc k) rs

abbrev pub Bytes : List ℕ → Type 0
Bytes bs = (i : ℕ) → slice_index bs i < 256

-- each of the rows is one that the kind takes
abbrev pub Taken : Kind → List Row → Type 0
Taken kd [] = Unit {0}
Taken kd (r ∷ rs) = (kd.takes r ≡ true) × Taken kd rs

-- What a row kind owes.
pub record LawfulKind (kd : Kind) : Type 0 where
  -- a row that is written is there, and no other row is another
  pub put_same : (n : ℕ) (run : List ℕ) (k : ℕ) (r : Row) → length run ≡ kd.words n → k < n → kd.takes r ≡ true → kd.row n (kd.put n run k r) k ≡ r
  pub put_other : (n : ℕ) (run : List ℕ) (k : ℕ) (r : Row) (j : ℕ) → length run ≡ kd.words n → k < n → kd.takes r ≡ true → j < n → (j ≢ k) → kd.row n (kd.put n run k r) j ≡ kd.row n run j
  pub put_long : (n : ℕ) (run : List ℕ) (k : ℕ) (r : Row) → length (kd.put n run k r) ≡ length run
  pub put_tidy : (n : ℕ) (run : List ℕ) (k : ℕ) (r : Row) → length run ≡ kd.words n → k < n → kd.takes r ≡ true → kd.tidy n run ≡ true → kd.tidy n (kd.put n run k r) ≡ true
  -- a cleared run is tidy
  pub clear_tidy : (n : ℕ) → kd.tidy n (replicate (kd.words n) 0) ≡ true
  -- what is read is a row that it takes, and so is what bytes stand for
  pub row_taken : (n : ℕ) (run : List ℕ) (k : ℕ) → kd.takes (kd.row n run k) ≡ true
  pub parsed_taken : (bs : List ℕ) (r : Row) → kd.parsed bs ≡ Some r → kd.takes r ≡ true
  -- a row comes from its own bytes alone
  pub parsed_written : (bs : List ℕ) (r : Row) → Bytes bs → kd.parsed bs ≡ Some r → kd.written r ≡ bs
  pub written_long : (r : Row) → length (kd.written r) ≡ kd.width

-- Kinds told apart by number: which numbers exist, and what each kind means. A number that does not exist
-- means some lawful kind too, which nothing is ever made of.
pub record Kinds : Type 0 where
  pub has : ℕ → Bool
  pub kind : ℕ → Kind
  -- the bytes of the widest row in a line
  pub widest : ℕ
