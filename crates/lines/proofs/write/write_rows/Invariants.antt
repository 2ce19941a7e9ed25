use Rattle.std.proofs.Common.{◌≡◌, ◌≤◌, ◌++◌, take, vec_items, vec_capacity}
use Rattle.std.specs.List.{flat_map}
use Rattle.rows.specs.Kind.{rows}
use Rattle.lines.specs.Text.{spelled}
use Rattle.lines.proofs.write.write_rows.Given as goal

abbrev pub invariant-loop-k : goal.invariant-loop-k
invariant-loop-k g l =
    let kd = (g.K.RowKinds.kinds l.kinds).kind l.reading.kind in
    (vec_items l.out ≡ vec_items l.initial.out ++ spelled (flat_map kd.written (take l.k (rows kd l.reading.len l.reading.words.now)))) × (vec_capacity l.initial.out ≤ vec_capacity l.out)
