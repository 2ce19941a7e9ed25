use Rattle.std.proofs.Common.{arith}
use Rattle.lines.proofs.Spelling.{appending}
use Rattle.lines.proofs.write.write_row.Goals as goal

pub returns-in_err-push_byte : goal.returns-in_err-push_byte
returns-in_err-push_byte g c = grind (arith, appending, g.met.K.RowKinds.lawful c.args.kinds.now)

pub loop-j-preserved : goal.loop-j-preserved
loop-j-preserved g c = grind (arith, appending, g.met.K.RowKinds.lawful c.args.kinds.now)

pub returns : goal.returns
returns g c = grind (arith, appending, g.met.K.RowKinds.lawful c.args.kinds.now)
