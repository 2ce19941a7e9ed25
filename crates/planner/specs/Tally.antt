-- How many of the answers are accepted, and how many are refused.
use Rattle.std.specs.Prelude.{ℕ, not, List, count_by}
use Rattle.planner.specs.Calls.{Said}
use Rattle.planner.specs.Law.{accepted}

abbrev pub accepted_in : List Said → ℕ
accepted_in xs = count_by accepted xs

abbrev pub refused_in : List Said → ℕ
refused_in xs = count_by (λ a. not (accepted a)) xs
