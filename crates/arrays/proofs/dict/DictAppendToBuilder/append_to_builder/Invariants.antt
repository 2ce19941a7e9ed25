use Rattle.pool.specs.Seen.{memory_of}
use Rattle.encodings.proofs.Dict.{DictPart}
use Rattle.arrays.proofs.dict.DictAppendToBuilder.append_to_builder.Given as goal

abbrev pub invariant-loop-k : goal.invariant-loop-k
invariant-loop-k g l = DictPart (g.K.RowKinds.kinds l.kinds) (memory_of l.initial.pool) l.array l.initial.builder (memory_of l.pool) l.builder l.k
