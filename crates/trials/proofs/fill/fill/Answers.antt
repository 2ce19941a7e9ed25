use Rattle.std.proofs.Common.{◌≡◌, ℕ, ◌≤◌, List, length, take, ap, ◌∙◌, arith}
use Rattle.std.proofs.lemmas.List.{take_all}
use Rattle.rows.specs.declared.row.Row.{Row}
use Rattle.rows.specs.Kind.{Kind, rows, appended}
use Rattle.rows.proofs.Appending.{taken_at, appended_more, appended_rows}
use Rattle.trials.proofs.fill.fill.Goals as goal

pub append-filled-requires : goal.append-filled-requires
append-filled-requires g c =
    let kd : Kind = (g.S.RowKinds.kinds c.args.set.now).kind c.args.kind in
    record {
      whole = c.loop-row.auto.run ∙ c.requires.whole;
      inside = omega arith;
      taken = taken_at kd c.args.given.now c.loop-row.row-index (record { value = 0 }) c.loop-row-test.true c.requires.taken;
    }

pub loop-row-preserved : goal.loop-row-preserved
loop-row-preserved g c =
    let kd : Kind = (g.S.RowKinds.kinds c.args.set.now).kind c.args.kind in (
      omega arith,
      appended_more kd (length c.args.given.now) c.args.run.now c.args.given.now c.loop-row.row-index (record { value = 0 }) c.loop-row.run c.append-filled.new.run c.loop-row.filled c.loop-row-test.true c.loop-row.invariant.0 c.loop-row.invariant.1 c.append-filled.ensures.after,
    )

-- all rows are appended, so the run means them
whole_run : (kd : Kind) (given : List Row) (run after : List ℕ) (i : ℕ) → length given ≤ i → after ≡ appended kd (length given) run 0 (take i given) → after ≡ appended kd (length given) run 0 given
whole_run kd given run after i h e = e ∙ ap (appended kd (length given) run 0) (take_all i given h)

pub returns : goal.returns
returns g c =
    let kd : Kind = (g.S.RowKinds.kinds c.args.set.now).kind c.args.kind in
    let n : ℕ = length c.args.given.now in
    ap (rows kd n) (whole_run kd c.args.given.now c.args.run.now c.loop-row.run c.loop-row.row-index c.loop-row-test.false c.loop-row.invariant.1)
    ∙ appended_rows ((g.met.S.RowKinds.lawful c.args.set.now).lawful c.args.kind) n c.args.run.now 0 c.args.given.now c.requires.whole (omega arith) c.requires.taken
