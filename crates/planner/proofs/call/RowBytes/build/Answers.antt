use Rattle.std.proofs.Common.{rules, ◌≡◌, ℕ, ◌*◌, List, length, get_or, take, drop, Some, Ok, sym, refl, ap, ◌∙◌, subst, arith}
use Rattle.std.proofs.lemmas.List.{take_all}
use Rattle.rows.specs.declared.row.Row.{Row}
use Rattle.rows.specs.Kind.{Kind, Kinds, LawfulKind}
use Rattle.pool.specs.Memory.{Memory}
use Rattle.pool.specs.Building.{append_row, append_rows, finished, Open}
use Rattle.pool.specs.Seen.{memory_of}
use Rattle.planner.specs.Contract.{rows_parsed}
use Rattle.planner.proofs.Parsing.{parsed_some, parsed_long}
use Rattle.pool.proofs.Filling.{opened_ok, open_at, builder_inside, append_step, built_ok}
use Rattle.planner.proofs.call.RowBytes.build.Goals as goal

pub unwrap-row-requires : goal.unwrap-row-requires
unwrap-row-requires g c =
    let kd : Kind = (g.K.RowKinds.kinds c.args.kinds.now).kind c.args.self.now.kind in
    rw (c.row.ensures ∙ parsed_some kd c.args.self.now.len c.args.self.now.bytes.now c.loop-k.k (record { value = 0 }) c.loop-k-test.true c.requires.parse) (search rules)

pub append-requires : goal.append-requires
append-requires g c =
    let ks : Kinds = g.K.RowKinds.kinds c.args.kinds.now in
    let kd : Kind = ks.kind c.args.self.now.kind in
    let law : LawfulKind kd = (g.met.K.RowKinds.lawful c.args.kinds.now).lawful c.args.self.now.kind in
    let q : Memory = memory_of c.open_builder.new.self in
    let i : ℕ = c.in_ok-node.node in
    let rs : List Row = rows_parsed kd c.args.self.now.len c.args.self.now.bytes.now in
    let o = open_at ks (memory_of c.args.pool.now) q c.args.self.now.kind c.args.self.now.len (kd.words c.args.self.now.len) i law
    (opened_ok (memory_of c.args.pool.now) c.args.self.now.kind c.args.self.now.len (kd.words c.args.self.now.len) i q _ c.in_ok-node.was c.open_builder.ensures)
    (take c.loop-k.k rs) c.loop-k.k c.unwrap-row.result refl c.loop-k-test.true
    (law.parsed_taken _ c.unwrap-row.result (sym c.row.ensures ∙ c.unwrap-row.ensures)) in
    subst (λ (m : Memory). Open ks m c.loop-k.builder.node c.loop-k.builder.filled c.unwrap-row.result) (sym c.loop-k.invariant.0)
    (subst (λ (x : ℕ). Open ks (append_rows ks q i 0 (take c.loop-k.k rs)) x c.loop-k.builder.filled c.unwrap-row.result) (sym c.loop-k.invariant.1)
    (subst (λ (x : ℕ). Open ks (append_rows ks q i 0 (take c.loop-k.k rs)) i x c.unwrap-row.result) (sym c.loop-k.invariant.2) o))

pub loop-k-preserved : goal.loop-k-preserved
loop-k-preserved g c =
    let ks : Kinds = g.K.RowKinds.kinds c.args.kinds.now in
    let kd : Kind = ks.kind c.args.self.now.kind in
    let law : LawfulKind kd = (g.met.K.RowKinds.lawful c.args.kinds.now).lawful c.args.self.now.kind in
    let q : Memory = memory_of c.open_builder.new.self in
    let i : ℕ = c.in_ok-node.node in
    let k : ℕ = c.loop-k.k in
    let rs : List Row = rows_parsed kd c.args.self.now.len c.args.self.now.bytes.now in
    let long : length rs ≡ c.args.self.now.len = parsed_long kd law c.args.self.now.len c.args.self.now.bytes.now c.requires.parse in
    let d : Row = record { value = 0 } in
    let at : kd.parsed (take kd.width (drop (k * kd.width) c.args.self.now.bytes.now)) ≡ Some (get_or rs k d)
    = parsed_some kd c.args.self.now.len c.args.self.now.bytes.now k d c.loop-k-test.true c.requires.parse in
    let same : Some c.unwrap-row.result ≡ Some (get_or rs k d) = sym c.unwrap-row.ensures ∙ c.row.ensures ∙ at in
    let row : c.unwrap-row.result ≡ get_or rs k d = cc in (
      c.append.ensures.after
          ∙ ap (λ (m : Memory). append_row ks m c.loop-k.builder.node c.loop-k.builder.filled c.unwrap-row.result) c.loop-k.invariant.0
          ∙ ap (λ (x : ℕ). append_row ks (append_rows ks q i 0 (take k rs)) x c.loop-k.builder.filled c.unwrap-row.result) c.loop-k.invariant.1
          ∙ ap (λ (x : ℕ). append_row ks (append_rows ks q i 0 (take k rs)) i x c.unwrap-row.result) c.loop-k.invariant.2
          ∙ ap (λ (x : Row). append_row ks (append_rows ks q i 0 (take k rs)) i k x) row
          ∙ append_step ks q i rs k d (omega arith),
      c.append.ensures.node ∙ c.loop-k.invariant.1,
      omega (arith, c.append.ensures.filled, c.loop-k.invariant.2),
    )

pub finish-requires : goal.finish-requires
finish-requires g c =
    let ks : Kinds = g.K.RowKinds.kinds c.args.kinds.now in
    let kd : Kind = ks.kind c.args.self.now.kind in
    let law : LawfulKind kd = (g.met.K.RowKinds.lawful c.args.kinds.now).lawful c.args.self.now.kind in
    let q : Memory = memory_of c.open_builder.new.self in
    let i : ℕ = c.in_ok-node.node in
    let h = builder_inside ks (memory_of c.args.pool.now) q c.args.self.now.kind c.args.self.now.len (kd.words c.args.self.now.len) i law
    (opened_ok (memory_of c.args.pool.now) c.args.self.now.kind c.args.self.now.len (kd.words c.args.self.now.len) i q _ c.in_ok-node.was c.open_builder.ensures)
    (take c.loop-k.k (rows_parsed kd c.args.self.now.len c.args.self.now.bytes.now)) in
    omega (arith, h, ap (λ (m : Memory). length m.nodes) c.loop-k.invariant.0, c.loop-k.invariant.1)

pub returns : goal.returns
returns g c =
    let ks : Kinds = g.K.RowKinds.kinds c.args.kinds.now in
    let kd : Kind = ks.kind c.args.self.now.kind in
    let law : LawfulKind kd = (g.met.K.RowKinds.lawful c.args.kinds.now).lawful c.args.self.now.kind in
    let q : Memory = memory_of c.open_builder.new.self in
    let i : ℕ = c.in_ok-node.node in
    let rs : List Row = rows_parsed kd c.args.self.now.len c.args.self.now.bytes.now in
    let long : length rs ≡ c.args.self.now.len = parsed_long kd law c.args.self.now.len c.args.self.now.bytes.now c.requires.parse in
    let all : take c.loop-k.k rs ≡ rs = take_all c.loop-k.k rs (omega arith) in
    let node : c.finish.result ≡ i = c.finish.ensures.value ∙ c.loop-k.invariant.1 in
    let after : memory_of c.finish.new.self ≡ finished (append_rows ks q i 0 rs) i
    = c.finish.ensures.after
    ∙ ap (λ (m : Memory). finished m c.loop-k.builder.node) c.loop-k.invariant.0
    ∙ ap (λ (x : ℕ). finished (append_rows ks q i 0 (take c.loop-k.k rs)) x) c.loop-k.invariant.1
    ∙ ap (λ (l : List Row). finished (append_rows ks q i 0 l) i) all in
    ap (λ (x : ℕ). (Ok x, memory_of c.finish.new.self)) node
    ∙ ap (λ (m : Memory). (Ok i, m)) after
    ∙ built_ok ks (memory_of c.args.pool.now) q c.args.self.now.kind c.args.self.now.len i rs _ c.in_ok-node.was c.open_builder.ensures
