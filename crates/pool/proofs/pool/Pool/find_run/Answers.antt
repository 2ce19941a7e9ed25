use Rattle.std.proofs.Common.{sym, ◌∙◌, arith}
use Rattle.pool.specs.Seen.{memory_of}
use Rattle.pool.proofs.Found.{run_begins, run_here, run_past, run_skips, run_lowest}
use Rattle.pool.proofs.pool.Pool.find_run.Goals as goal

pub loop-at-init : goal.loop-at-init
loop-at-init c = (omega arith, run_begins (memory_of c.args.self.now) c.args.n)

pub loop-at-preserved : goal.loop-at-preserved
loop-at-preserved c =
    let b = c.in-Some.ensures in
    (b.1, c.loop-at.invariant.1 ∙ run_skips (memory_of c.args.self.now) c.args.n c.loop-at.at b.3.0 c.in-Some.end b.0 b.2 b.3.1 b.3.2 b.3.3)

pub returns-in-None : goal.returns-in-None
returns-in-None c =
    let e = c.loop-at.invariant.1 ∙ run_here (memory_of c.args.self.now) c.args.n c.loop-at.at c.loop-at-test.true c.in-None.ensures in
    record { value = sym e; lowest = run_lowest _ _ _ e }

pub returns : goal.returns
returns c =
    let e = c.loop-at.invariant.1 ∙ run_past (memory_of c.args.self.now) c.args.n c.loop-at.at c.loop-at-test.false in
    record { value = sym e; lowest = run_lowest _ _ _ e }
