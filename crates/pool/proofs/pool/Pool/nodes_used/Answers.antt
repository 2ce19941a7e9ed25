use Rattle.std.proofs.Common.{rules}
use Rattle.std.proofs.iter.runs.Made.{chains}
use Rattle.pool.proofs.Used.{nodes_counted}
use Rattle.pool.proofs.pool.Pool.nodes_used.Goals as goal

pub returns : goal.returns
returns c = search (rules, chains, nodes_counted)
