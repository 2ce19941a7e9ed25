-- The rows so far are appended.
use Rattle.std.proofs.Common.{◌≡◌, length, take}
use Rattle.rows.specs.Kind.{appended}
use Rattle.trials.proofs.fill.fill.Given as goal

abbrev pub invariant-loop-row : goal.invariant-loop-row
invariant-loop-row g l =
    (l.filled ≡ l.row-index)
    × (l.run ≡ appended ((g.S.RowKinds.kinds l.set).kind l.kind) (length l.given) l.initial.run 0 (take l.row-index l.given))
