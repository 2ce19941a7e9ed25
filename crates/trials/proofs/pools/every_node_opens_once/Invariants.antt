use Rattle.std.proofs.Common.{◌≤◌, length}
use Rattle.trials.proofs.pools.every_node_opens_once.Given as goal

abbrev pub invariant-loop-i : goal.invariant-loop-i
invariant-loop-i g l = (length l.pool.nodes.now ≤ 256) × (length l.pool.words.now ≤ 65535)
