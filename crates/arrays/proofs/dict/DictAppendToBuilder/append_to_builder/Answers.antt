use Rattle.std.proofs.Common.{arith}
use Rattle.rows.specs.Kind.{Kinds}
use Rattle.pool.specs.Memory.{Memory}
use Rattle.pool.specs.Seen.{memory_of}
use Rattle.encodings.proofs.Coming.{all_coming}
use Rattle.encodings.proofs.Dict.{coming, dict_children, codes_within, values_within, dict_done, dict_refused, dict_open, dict_more}
use Rattle.arrays.proofs.dict.DictAppendToBuilder.append_to_builder.Goals as goal

pub of-codes-requires-clause-present : goal.of-codes-requires-clause-present
of-codes-requires-clause-present g c =
    let at = (dict_children (g.K.RowKinds.kinds c.args.kinds.now) (g.met.K.RowKinds.lawful c.args.kinds.now) (memory_of c.args.pool.now) c.args.array c.args.builder.now c.requires.none_yet c.requires.filling).at_first in
    (_, at.inside, at.slot)

pub of-values-requires-clause-present : goal.of-values-requires-clause-present
of-values-requires-clause-present g c =
    let at = (dict_children (g.K.RowKinds.kinds c.args.kinds.now) (g.met.K.RowKinds.lawful c.args.kinds.now) (memory_of c.args.pool.now) c.args.array c.args.builder.now c.requires.none_yet c.requires.filling).at_second in
    (_, at.inside, at.slot)

pub loop-k-init : goal.loop-k-init
loop-k-init g c =
    let ks : Kinds = g.K.RowKinds.kinds c.args.kinds.now in
    let m : Memory = memory_of c.args.pool.now in
    all_coming ks m c.args.builder.now (coming ks m c.args.array 0)

pub number-code-requires : goal.number-code-requires
number-code-requires g c =
    codes_within (g.K.RowKinds.kinds c.args.kinds.now) (g.met.K.RowKinds.lawful c.args.kinds.now) (memory_of c.args.pool.now) c.args.array c.args.builder.now c.requires.none_yet c.requires.filling
    (memory_of c.loop-k.pool) c.loop-k.builder c.loop-k.k c.loop-k.invariant c.of-codes.result.node c.of-values.result.node c.of-codes.ensures c.of-values.ensures

pub returns-then-code-from-clause-filled : goal.returns-then-code-from-clause-filled
returns-then-code-from-clause-filled g c =
    dict_refused (g.K.RowKinds.kinds c.args.kinds.now) (g.met.K.RowKinds.lawful c.args.kinds.now) (memory_of c.args.pool.now) c.args.array c.args.builder.now c.requires.none_yet c.requires.filling
    (memory_of c.loop-k.pool) c.loop-k.builder c.loop-k.k c.loop-k.invariant c.of-codes.result.node c.of-values.result.node c.of-codes.ensures c.of-values.ensures
    c.loop-k-test.true c.number-code.result c.number-code.ensures (omega arith)

pub returns-then-code-from-clause-node : goal.returns-then-code-from-clause-node
returns-then-code-from-clause-node g c = c.loop-k.invariant.so_far.node

pub row-row-requires : goal.row-row-requires
row-row-requires g c =
    values_within (g.K.RowKinds.kinds c.args.kinds.now) (g.met.K.RowKinds.lawful c.args.kinds.now) (memory_of c.args.pool.now) c.args.array c.args.builder.now c.requires.none_yet c.requires.filling
    (memory_of c.loop-k.pool) c.loop-k.builder c.loop-k.k c.loop-k.invariant c.of-codes.result.node c.of-values.result.node c.of-codes.ensures c.of-values.ensures

pub append-requires : goal.append-requires
append-requires g c =
    dict_open (g.K.RowKinds.kinds c.args.kinds.now) (g.met.K.RowKinds.lawful c.args.kinds.now) (memory_of c.args.pool.now) c.args.array c.args.builder.now c.requires.none_yet c.requires.filling
    (memory_of c.loop-k.pool) c.loop-k.builder c.loop-k.k c.loop-k.invariant c.of-codes.result.node c.of-values.result.node c.of-codes.ensures c.of-values.ensures
    c.loop-k-test.true c.number-code.result c.number-code.ensures (omega arith) c.row-row.result c.row-row.ensures

pub loop-k-preserved : goal.loop-k-preserved
loop-k-preserved g c =
    dict_more (g.K.RowKinds.kinds c.args.kinds.now) (g.met.K.RowKinds.lawful c.args.kinds.now) (memory_of c.args.pool.now) c.args.array c.args.builder.now c.requires.none_yet c.requires.filling
    (memory_of c.loop-k.pool) c.loop-k.builder c.loop-k.k c.loop-k.invariant c.of-codes.result.node c.of-values.result.node c.of-codes.ensures c.of-values.ensures
    c.loop-k-test.true c.number-code.result c.number-code.ensures (omega arith) c.row-row.result c.row-row.ensures
    (memory_of c.append.new.self) c.append.new.builder c.append.ensures.after c.append.ensures.node c.append.ensures.filled

pub returns-clause-filled : goal.returns-clause-filled
returns-clause-filled g c =
    dict_done (g.K.RowKinds.kinds c.args.kinds.now) (g.met.K.RowKinds.lawful c.args.kinds.now) (memory_of c.args.pool.now) c.args.array c.args.builder.now c.requires.none_yet c.requires.filling
    (memory_of c.loop-k.pool) c.loop-k.builder c.loop-k.k c.loop-k.invariant c.of-codes.result.node c.of-values.result.node c.of-codes.ensures c.of-values.ensures
    (omega (arith, c.loop-k-test.false))

pub returns-clause-node : goal.returns-clause-node
returns-clause-node g c = c.loop-k.invariant.so_far.node
