use Rattle.trials.proofs.Stepping.{led_on}
use Rattle.trials.proofs.steps.play.Goals as goal

pub loop-call-preserved : goal.loop-call-preserved
loop-call-preserved g c = led_on c.loop-call.invariant c.serve.ensures.answers
