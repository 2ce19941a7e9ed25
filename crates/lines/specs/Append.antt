-- What is appended to a Vec of digits.
use Rattle.std.specs.Prelude.{◌≡◌, ℕ, ◌+◌, ◌<◌, ◌≤◌, List, ◌++◌, length, Ok, Err, vec_items, vec_len, vec_capacity, Result, Vec}
use Rattle.lines.specs.Text.{spelled}

-- the digits of bytes, appended; refused only where the room was too small for them
abbrev pub Appended : {X E Z : Type 0} → Result X E → Vec ℕ Z → Vec ℕ Z → List ℕ → Type 0
Appended (Ok x) old new bs = vec_items new ≡ vec_items old ++ spelled bs
Appended (Err e) old new bs = vec_capacity old < vec_len old + length (spelled bs)

-- that, in a buffer whose room does not shrink
pub record Appends {X E Z : Type 0} (r : Result X E) (old new : Vec ℕ Z) (bs : List ℕ) : Type 0 where
  pub items : Appended r old new bs
  pub capacity : vec_capacity old ≤ vec_capacity new

-- the digits alone; refused only where the room was too small for them
abbrev pub Wrote : {X E Z : Type 0} → Result X E → Vec ℕ Z → Vec ℕ Z → List ℕ → Type 0
Wrote (Ok x) old new digits = vec_items new ≡ digits
Wrote (Err e) old new digits = vec_capacity old < length digits
