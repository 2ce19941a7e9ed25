use Rattle.std.proofs.Common.{◌≡◌, List, take, Some, sym, ap, ◌∙◌, arith}
use Rattle.std.proofs.lemmas.List.{take_all}
use Rattle.rows.specs.declared.row.Row.{Row}
use Rattle.rows.specs.Kind.{Kinds}
use Rattle.pool.specs.Memory.{Memory}
use Rattle.pool.specs.Seen.{memory_of}
use Rattle.pool.proofs.Filling.{none_so_far}
use Rattle.encodings.specs.Slice.{slice_encodings}
use Rattle.encodings.proofs.Appended.{child_within, all_appended, child_node}
use Rattle.encodings.proofs.Slice.{sliced, slice_child, slice_given, sliced_long, slice_open, slice_next}
use Rattle.arrays.proofs.slice.SliceAppendToBuilder.append_to_builder.Goals as goal

pub of-child-requires-clause-present : goal.of-child-requires-clause-present
of-child-requires-clause-present g c =
    let at = slice_child (g.met.K.RowKinds.lawful c.args.kinds.now) c.args.builder.now c.requires.none_yet c.requires.filling in
    (_, at.inside, at.slot)

pub loop-k-init : goal.loop-k-init
loop-k-init g c = none_so_far (g.K.RowKinds.kinds c.args.kinds.now) (memory_of c.args.pool.now) c.args.builder.now

pub row-row-requires : goal.row-row-requires
row-row-requires g c =
    let ks : Kinds = g.K.RowKinds.kinds c.args.kinds.now in
    let kinds = g.met.K.RowKinds.lawful c.args.kinds.now in
    let m : Memory = memory_of c.args.pool.now in
    let at = slice_child kinds c.args.builder.now c.requires.none_yet c.requires.filling in
    child_within ks kinds (slice_encodings ks) m c.args.array c.args.builder.now c.requires.none_yet c.requires.filling (take c.loop-k.k (sliced ks m c.args.array)) (memory_of c.loop-k.pool) c.loop-k.builder c.loop-k.invariant
    c.of-child.result.node _ (child_node at c.of-child.ensures)

pub append-requires : goal.append-requires
append-requires g c =
    let kinds = g.met.K.RowKinds.lawful c.args.kinds.now in
    let at = slice_child kinds c.args.builder.now c.requires.none_yet c.requires.filling in
    slice_open kinds c.args.builder.now c.requires.none_yet c.requires.filling c.loop-k-test.true c.loop-k.invariant (child_node at c.of-child.ensures) c.row-row.ensures

pub loop-k-preserved : goal.loop-k-preserved
loop-k-preserved g c =
    let kinds = g.met.K.RowKinds.lawful c.args.kinds.now in
    let at = slice_child kinds c.args.builder.now c.requires.none_yet c.requires.filling in
    slice_next kinds c.args.builder.now c.requires.none_yet c.requires.filling c.loop-k-test.true c.loop-k.invariant (child_node at c.of-child.ensures) c.row-row.ensures
    (memory_of c.append.new.self) c.append.new.builder c.append.ensures.after c.append.ensures.node c.append.ensures.filled

pub returns-clause-filled : goal.returns-clause-filled
returns-clause-filled g c =
    let ks : Kinds = g.K.RowKinds.kinds c.args.kinds.now in
    let kinds = g.met.K.RowKinds.lawful c.args.kinds.now in
    let m : Memory = memory_of c.args.pool.now in
    let rs : List Row = sliced ks m c.args.array in
    let long = sliced_long kinds c.args.builder.now c.requires.none_yet c.requires.filling in
    let all : take c.loop-k.k rs ≡ rs = take_all c.loop-k.k rs (omega (arith, long, c.loop-k-test.false)) in (
      take c.loop-k.k rs,
      slice_given kinds c.args.builder.now c.requires.none_yet c.requires.filling ∙ ap (λ (l : List Row). Some l) (sym all),
      all_appended ks kinds (slice_encodings ks) m c.args.array c.args.builder.now c.requires.none_yet c.requires.filling (take c.loop-k.k rs) (memory_of c.loop-k.pool) c.loop-k.builder c.loop-k.invariant,
    )

pub returns-clause-node : goal.returns-clause-node
returns-clause-node g c = c.loop-k.invariant.node
