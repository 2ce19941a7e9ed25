use Rattle.pool.specs.Seen.{memory_of}
use Rattle.encodings.proofs.RunEnd.{RunPart}
use Rattle.arrays.proofs.run_end.RunEndAppendToBuilder.append_to_builder.Given as goal

abbrev pub invariant-loop-k : goal.invariant-loop-k
invariant-loop-k g l = RunPart (g.K.RowKinds.kinds l.kinds) (memory_of l.initial.pool) l.array l.initial.builder (memory_of l.pool) l.builder l.start l.k
