-- A set of one id.
use Rattle.std.specs.Prelude.{◌≡◌, ℕ, Bool, true, false, ◌==◌, ◌||◌, [], ◌∷◌, refl}
use Rattle.encodings.specs.Ids.{member}

or_false : (b : Bool) → b ≡ (b || false)
or_false true = refl
or_false false = refl

pub one_id : (id x : ℕ) → (id == x) ≡ member id (x ∷ [])
one_id id x = or_false (id == x)
