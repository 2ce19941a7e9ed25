use Rattle.std.proofs.Common.{rules}
use Rattle.std.proofs.iter.runs.Made.{chains}
use Rattle.pool.proofs.Used.{words_summed}
use Rattle.pool.proofs.pool.Pool.words_used.Goals as goal

pub returns : goal.returns
returns c = search (rules, chains, words_summed)
