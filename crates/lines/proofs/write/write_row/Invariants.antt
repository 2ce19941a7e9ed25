use Rattle.std.proofs.Common.{◌≡◌, ◌≤◌, ◌++◌, take, vec_items, vec_capacity}
use Rattle.lines.specs.Text.{spelled}
use Rattle.lines.proofs.write.write_row.Given as goal

abbrev pub invariant-loop-j : goal.invariant-loop-j
invariant-loop-j g l = (vec_items l.out ≡ vec_items l.initial.out ++ spelled (take l.j (((g.K.RowKinds.kinds l.kinds).kind l.kind).written l.row))) × (vec_capacity l.initial.out ≤ vec_capacity l.out)
