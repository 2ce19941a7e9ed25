use Rattle.std.proofs.Common.{◌≡◌, ℕ, List, replicate, subst, arith}
use Rattle.std.proofs.lemmas.List.{length-replicate, replicate_more}
use Rattle.rows.specs.declared.row.Row.{Row}
use Rattle.rows.specs.Kind.{Kinds}
use Rattle.pool.specs.declared.builder.Builder.{Builder}
use Rattle.pool.specs.Memory.{Memory, node_at}
use Rattle.pool.specs.Building.{append_rows, Open}
use Rattle.pool.specs.Seen.{memory_of}
use Rattle.pool.proofs.Filling.{SoFar, none_so_far, row_more, open_so_far}
use Rattle.pool.proofs.pool.Pool.append_n.Goals as goal

pub loop-init : goal.loop-init
loop-init g c = none_so_far (g.K.RowKinds.kinds c.args.kinds.now) (memory_of c.args.self.now) c.args.builder.now

pub append-requires : goal.append-requires
append-requires g c =
    let ks : Kinds = g.K.RowKinds.kinds c.args.kinds.now in
    let m : Memory = memory_of c.args.self.now in
    let a : Builder = c.args.builder.now in
    let n : ℕ = c.loop.counter in
    let rs : List Row = replicate n c.args.row in
    open_so_far ks m a rs (memory_of c.loop.self) c.loop.builder c.loop.invariant c.loop.builder.filled c.args.row ((g.met.K.RowKinds.lawful c.args.kinds.now).lawful (node_at m a.node).kind)
    (subst (λ (k : ℕ). Open ks m a.node k c.args.row) (omega (arith, length-replicate n c.args.row, c.loop.invariant.filled)) (c.requires n c.loop-test.true))

pub loop-preserved : goal.loop-preserved
loop-preserved g c =
    let ks : Kinds = g.K.RowKinds.kinds c.args.kinds.now in
    let rs : List Row = replicate c.loop.counter c.args.row in
    subst (λ (xs : List Row). SoFar ks (memory_of c.args.self.now) c.args.builder.now xs (memory_of c.append.new.self) c.append.new.builder) (replicate_more c.loop.counter c.args.row)
    (row_more ks (memory_of c.args.self.now) c.args.builder.now rs (memory_of c.loop.self) c.loop.builder c.loop.invariant c.args.row (memory_of c.append.new.self) c.append.new.builder
    c.append.ensures.after c.append.ensures.node c.append.ensures.filled)

pub returns-clause-after : goal.returns-clause-after
returns-clause-after g c =
    let all : c.loop.counter ≡ c.args.n = omega (arith, c.loop.auto.counter-end, c.loop-test.false) in
    subst (λ (n : ℕ). memory_of c.loop.self ≡ append_rows (g.K.RowKinds.kinds c.args.kinds.now) (memory_of c.args.self.now) c.args.builder.now.node c.args.builder.now.filled (replicate n c.args.row)) all c.loop.invariant.after

pub returns-clause-node : goal.returns-clause-node
returns-clause-node g c = c.loop.invariant.node

pub returns-clause-filled : goal.returns-clause-filled
returns-clause-filled g c = omega (arith, c.loop.invariant.filled, length-replicate c.loop.counter c.args.row, c.loop.auto.counter-end, c.loop-test.false)
