use Rattle.std.proofs.Common.{arith}
use Rattle.planner.specs.Calls.{said}
use Rattle.lines.proofs.Spelling.{appending, written_short}
use Rattle.lines.proofs.write.write_answer.Goals as goal

pub returns-in-Ok-Rows-clause-room : goal.returns-in-Ok-Rows-clause-room
returns-in-Ok-Rows-clause-room g c = λ short enough.
    let fits = written_short (g.K.RowKinds.kinds c.args.kinds.now) (g.met.K.RowKinds.lawful c.args.kinds.now) (said c.args.answer) short in
    grind (arith, appending)
