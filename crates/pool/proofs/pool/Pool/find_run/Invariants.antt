use Rattle.std.proofs.Common.{◌≡◌, ◌+◌, ◌-◌, ◌^◌, ◌<◌}
use Rattle.pool.specs.Seen.{memory_of}
use Rattle.pool.specs.Finding.{find_run}
use Rattle.pool.proofs.Found.{run_from}
use Rattle.pool.proofs.pool.Pool.find_run.Given as goal

abbrev pub invariant-loop-at : goal.invariant-loop-at
invariant-loop-at l = (l.at < 2 ^ 17) × (find_run (memory_of l.self) l.n ≡ run_from (memory_of l.self) l.n l.at)

abbrev pub decreases-loop-at : goal.decreases-loop-at
decreases-loop-at l = l.limit + 1 - l.at
