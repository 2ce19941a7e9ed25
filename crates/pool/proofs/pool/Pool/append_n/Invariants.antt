use Rattle.std.proofs.Common.{replicate}
use Rattle.pool.specs.Seen.{memory_of}
use Rattle.pool.proofs.Filling.{SoFar}
use Rattle.pool.proofs.pool.Pool.append_n.Given as goal

abbrev pub invariant-loop : goal.invariant-loop
invariant-loop g l = SoFar (g.K.RowKinds.kinds l.kinds) (memory_of l.initial.self) l.initial.builder (replicate l.counter l.row) (memory_of l.self) l.builder
