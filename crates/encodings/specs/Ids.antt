-- Which ids sets have, and when two of them share none but Flat's.
use Rattle.std.specs.Prelude.{ℕ, Bool, true, false, ◌==◌, ◌||◌, ◌&&◌, not, List, [], ◌∷◌}

abbrev pub member : ℕ → List ℕ → Bool
member id [] = false
member id (x ∷ xs) = (id == x) || member id xs

-- the two share no id but 1
abbrev pub apart : List ℕ → List ℕ → Bool
apart [] ys = true
apart (x ∷ xs) ys = ((x == 1) || not (member x ys)) && apart xs ys
