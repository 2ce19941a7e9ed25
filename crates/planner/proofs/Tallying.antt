-- What a tally counts.
use Rattle.std.proofs.Common.{◌≡◌, ℕ, ◌+◌, Bool, true, false, cond, not, List, [], ◌∷◌, length, fold, refl, ◌∙◌, arith}
use Rattle.planner.specs.Calls.{Said}
use Rattle.planner.specs.Law.{accepted}
use Rattle.planner.specs.Tally.{accepted_in, refused_in}

counts_one : (b : Bool) → cond b 1 0 + cond (not b) 1 0 ≡ 1
counts_one true = refl
counts_one false = refl

-- from any two counts on
both_from : (xs : List Said) (a b : ℕ) → fold (λ n x. n + cond (accepted x) 1 0) a xs + fold (λ n x. n + cond (not (accepted x)) 1 0) b xs ≡ a + b + length xs
both_from [] a b = omega arith
both_from (x ∷ xs) a b = omega (arith, counts_one (accepted x), both_from xs (a + cond (accepted x) 1 0) (b + cond (not (accepted x)) 1 0))

-- accepted and refused together are all
pub both_all : (xs : List Said) → accepted_in xs + refused_in xs ≡ length xs
both_all xs = both_from xs 0 0 ∙ omega arith
