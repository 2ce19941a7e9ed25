use Rattle.trials.specs.Steps.{Led}
use Rattle.trials.proofs.steps.play.Given as goal

abbrev pub invariant-loop-call : goal.invariant-loop-call
invariant-loop-call g l = Led g.K.RowKinds.kinds g.E.Encoding.means l.planner
