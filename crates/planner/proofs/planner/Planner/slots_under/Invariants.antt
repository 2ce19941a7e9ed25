use Rattle.std.proofs.Common.{◌≡◌, take, Ok}
use Rattle.planner.specs.Called.{slots_under}
use Rattle.planner.specs.Seen.{state_of}
use Rattle.planner.proofs.planner.Planner.slots_under.Given as goal

abbrev pub invariant-loop-slot : goal.invariant-loop-slot
invariant-loop-slot g l = slots_under (state_of l.self) (take l.slot l.roots) ≡ Ok l.slots
