use Rattle.std.proofs.Common.{rules}
use Rattle.std.proofs.iter.runs.Made.{chains}
use Rattle.pool.proofs.Found.{unused_clear}
use Rattle.pool.proofs.pool.Pool.blocked.Goals as goal

pub returns : goal.returns
returns c = search (rules, chains, unused_clear)
