use Rattle.std.proofs.Common.{replicate, None, sym, refl, subst}
use Rattle.pool.specs.Memory.{Memory}
use Rattle.planner.specs.Called.{new_state}
use Rattle.planner.proofs.Invariant.{Ghosts, ghosts_of}
use Rattle.planner.proofs.Beginning.{new_ordered}
use Rattle.planner.proofs.planner.Planner.new.Goals as goal

pub invariant_of-result : goal.invariant_of-result
invariant_of-result g c = subst (λ (m : Memory). Ghosts m (replicate 32 None)) (sym c.new.ensures) (ghosts_of new_state.memory (replicate 32 None) refl new_ordered)
