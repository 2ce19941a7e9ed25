use Rattle.std.proofs.Common.{take}
use Rattle.pool.specs.Seen.{memory_of}
use Rattle.pool.proofs.Filling.{SoFar}
use Rattle.encodings.proofs.Slice.{sliced}
use Rattle.arrays.proofs.slice.SliceAppendToBuilder.append_to_builder.Given as goal

abbrev pub invariant-loop-k : goal.invariant-loop-k
invariant-loop-k g l =
    let ks = g.K.RowKinds.kinds l.kinds in
    SoFar ks (memory_of l.initial.pool) l.initial.builder (take l.k (sliced ks (memory_of l.initial.pool) l.array)) (memory_of l.pool) l.builder
