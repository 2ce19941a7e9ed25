use Rattle.std.proofs.Common.{rules}
use Rattle.std.proofs.iter.runs.Made.{chains}
use Rattle.pool.proofs.Found.{lowest_free_is, lowest_one}
use Rattle.pool.proofs.pool.Pool.lowest_free.Goals as goal

pub returns-clause-value : goal.returns-clause-value
returns-clause-value c = lowest_one c.args.self.now.nodes.now _ _ (search (rules, chains)) (lowest_free_is c.args.self.now.nodes.now)
