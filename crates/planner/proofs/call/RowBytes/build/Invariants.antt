use Rattle.std.proofs.Common.{◌≡◌, take}
use Rattle.pool.specs.Building.{append_rows}
use Rattle.pool.specs.Seen.{memory_of}
use Rattle.planner.specs.Contract.{rows_parsed}
use Rattle.planner.proofs.call.RowBytes.build.Given as goal

abbrev pub invariant-loop-k : goal.invariant-loop-k
invariant-loop-k g l =
    let ks = g.K.RowKinds.kinds l.kinds in
    (memory_of l.pool ≡ append_rows ks (memory_of l.initial.pool) l.initial.builder.node 0 (take l.k (rows_parsed (ks.kind l.self.kind) l.self.len l.self.bytes.now)))
    × (l.builder.node ≡ l.initial.builder.node) × (l.builder.filled ≡ l.k)
