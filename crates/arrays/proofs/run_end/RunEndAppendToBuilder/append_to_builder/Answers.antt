use Rattle.std.proofs.Common.{◌<◌, ◌≤◌, ◌⊎◌, inl, inr, arith}
use Rattle.rows.specs.Kind.{Kinds}
use Rattle.pool.specs.Memory.{Memory, node_at}
use Rattle.pool.specs.Seen.{memory_of}
use Rattle.encodings.proofs.Coming.{all_coming}
use Rattle.encodings.proofs.RunEnd.{coming, run_end_children, ends_within, values_within, run_end_done, run_end_short, end_refused, run_open, run_more}
use Rattle.arrays.proofs.run_end.RunEndAppendToBuilder.append_to_builder.Goals.{then-end-from-via-then-end-from, then-end-from-via-else-end-from+then-end-from-2}
use Rattle.arrays.proofs.run_end.RunEndAppendToBuilder.append_to_builder.Goals as goal

pub of-ends-requires-clause-present : goal.of-ends-requires-clause-present
of-ends-requires-clause-present g c =
    let at = (run_end_children (g.K.RowKinds.kinds c.args.kinds.now) (g.met.K.RowKinds.lawful c.args.kinds.now) (memory_of c.args.pool.now) c.args.array c.args.builder.now c.requires.none_yet c.requires.filling).at_first in
    (_, at.inside, at.slot)

pub of-values-requires-clause-present : goal.of-values-requires-clause-present
of-values-requires-clause-present g c =
    let at = (run_end_children (g.K.RowKinds.kinds c.args.kinds.now) (g.met.K.RowKinds.lawful c.args.kinds.now) (memory_of c.args.pool.now) c.args.array c.args.builder.now c.requires.none_yet c.requires.filling).at_second in
    (_, at.inside, at.slot)

pub loop-k-init : goal.loop-k-init
loop-k-init g c =
    let ks : Kinds = g.K.RowKinds.kinds c.args.kinds.now in
    let m : Memory = memory_of c.args.pool.now in
    all_coming ks m c.args.builder.now (coming ks m c.args.array 0 0)

pub number-end-requires : goal.number-end-requires
number-end-requires g c =
    ends_within (g.K.RowKinds.kinds c.args.kinds.now) (g.met.K.RowKinds.lawful c.args.kinds.now) (memory_of c.args.pool.now) c.args.array c.args.builder.now c.requires.none_yet c.requires.filling
    (memory_of c.loop-k.pool) c.loop-k.builder c.loop-k.start c.loop-k.k c.loop-k.invariant c.of-ends.result.node c.of-values.result.node c.of-ends.ensures c.of-values.ensures

pub returns-then-end-from-clause-filled : goal.returns-then-end-from-clause-filled
returns-then-end-from-clause-filled g c =
    let out : (c.number-end.result ≤ c.loop-k.start) ⊎ ((node_at (memory_of c.args.pool.now) c.args.array).len < c.number-end.result)
    = elim c.then-end-from.branch [ then-end-from-via-then-end-from w ↦ inl (omega arith) | then-end-from-via-else-end-from+then-end-from-2 w ↦ inr (omega arith) ] in
    end_refused (g.K.RowKinds.kinds c.args.kinds.now) (g.met.K.RowKinds.lawful c.args.kinds.now) (memory_of c.args.pool.now) c.args.array c.args.builder.now c.requires.none_yet c.requires.filling
    (memory_of c.loop-k.pool) c.loop-k.builder c.loop-k.start c.loop-k.k c.loop-k.invariant c.of-ends.result.node c.of-values.result.node c.of-ends.ensures c.of-values.ensures
    c.loop-k-test.true c.number-end.result c.number-end.ensures out

pub returns-then-end-from-clause-node : goal.returns-then-end-from-clause-node
returns-then-end-from-clause-node g c = c.loop-k.invariant.so_far.node

pub row-value-requires : goal.row-value-requires
row-value-requires g c =
    values_within (g.K.RowKinds.kinds c.args.kinds.now) (g.met.K.RowKinds.lawful c.args.kinds.now) (memory_of c.args.pool.now) c.args.array c.args.builder.now c.requires.none_yet c.requires.filling
    (memory_of c.loop-k.pool) c.loop-k.builder c.loop-k.start c.loop-k.k c.loop-k.invariant c.of-ends.result.node c.of-values.result.node c.of-ends.ensures c.of-values.ensures

pub append_n-requires : goal.append_n-requires
append_n-requires g c =
    run_open (g.K.RowKinds.kinds c.args.kinds.now) (g.met.K.RowKinds.lawful c.args.kinds.now) (memory_of c.args.pool.now) c.args.array c.args.builder.now c.requires.none_yet c.requires.filling
    (memory_of c.loop-k.pool) c.loop-k.builder c.loop-k.start c.loop-k.k c.loop-k.invariant c.of-ends.result.node c.of-values.result.node c.of-ends.ensures c.of-values.ensures
    c.loop-k-test.true c.number-end.result c.number-end.ensures (omega arith) (omega arith) c.row-value.result c.row-value.ensures

pub loop-k-preserved : goal.loop-k-preserved
loop-k-preserved g c =
    run_more (g.K.RowKinds.kinds c.args.kinds.now) (g.met.K.RowKinds.lawful c.args.kinds.now) (memory_of c.args.pool.now) c.args.array c.args.builder.now c.requires.none_yet c.requires.filling
    (memory_of c.loop-k.pool) c.loop-k.builder c.loop-k.start c.loop-k.k c.loop-k.invariant c.of-ends.result.node c.of-values.result.node c.of-ends.ensures c.of-values.ensures
    c.loop-k-test.true c.number-end.result c.number-end.ensures (omega arith) (omega arith) c.row-value.result c.row-value.ensures
    (memory_of c.append_n.new.self) c.append_n.new.builder c.append_n.ensures.after c.append_n.ensures.node c.append_n.ensures.filled

pub returns-then-start-len-clause-filled : goal.returns-then-start-len-clause-filled
returns-then-start-len-clause-filled g c =
    run_end_done (g.K.RowKinds.kinds c.args.kinds.now) (g.met.K.RowKinds.lawful c.args.kinds.now) (memory_of c.args.pool.now) c.args.array c.args.builder.now c.requires.none_yet c.requires.filling
    (memory_of c.loop-k.pool) c.loop-k.builder c.loop-k.start c.loop-k.k c.loop-k.invariant c.of-ends.result.node c.of-values.result.node c.of-ends.ensures c.of-values.ensures
    (omega (arith, c.loop-k-test.false)) (omega arith)

pub returns-then-start-len-clause-node : goal.returns-then-start-len-clause-node
returns-then-start-len-clause-node g c = c.loop-k.invariant.so_far.node

pub returns-else-start-len-clause-filled : goal.returns-else-start-len-clause-filled
returns-else-start-len-clause-filled g c =
    run_end_short (g.K.RowKinds.kinds c.args.kinds.now) (g.met.K.RowKinds.lawful c.args.kinds.now) (memory_of c.args.pool.now) c.args.array c.args.builder.now c.requires.none_yet c.requires.filling
    (memory_of c.loop-k.pool) c.loop-k.builder c.loop-k.start c.loop-k.k c.loop-k.invariant c.of-ends.result.node c.of-values.result.node c.of-ends.ensures c.of-values.ensures
    (omega (arith, c.loop-k-test.false)) (λ e. omega arith)

pub returns-else-start-len-clause-node : goal.returns-else-start-len-clause-node
returns-else-start-len-clause-node g c = c.loop-k.invariant.so_far.node
