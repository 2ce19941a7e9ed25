-- The row that is written stands after the first rows.
use Rattle.std.proofs.Common.{refl}
use Rattle.rows.proofs.Appending.{put_rows_at}
use Rattle.rows.proofs.append.append.Goals as goal

pub returns : goal.returns
returns g c =
    record {
      value = refl;
      after = c.write.ensures;
      rows = put_rows_at (g.met.K.RowKind.lawful c.args.kind.now) c.args.n c.args.run.now c.args.filled c.args.row c.write.new.run c.requires.whole c.requires.inside c.requires.taken c.write.ensures;
    }
