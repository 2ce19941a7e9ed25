-- The roots in use, counted.
use Rattle.std.proofs.Common.{◌≡◌, ℕ, List, [], ◌∷◌, Some, None, Option, is_some, refl, ap, ◌∙◌, cond}
use Rattle.std.proofs.lemmas.List.Sums.{sum_by_from}
use Rattle.std.specs.Prelude.{◌+◌, count_by}
use Rattle.planner.specs.Contract.{roots_used}

pub used_counted : (rs : List (Option ℕ)) → count_by is_some rs ≡ roots_used rs
used_counted [] = refl
used_counted (None ∷ rs) = used_counted rs
used_counted (Some k ∷ rs) = sum_by_from (λ (o : Option ℕ). cond (is_some o) 1 0) 1 rs ∙ ap (λ (n : ℕ). 1 + n) (used_counted rs)
