use Rattle.std.proofs.Common.{◌≡◌, ℕ, true, false, List, length, set, is_some, Some, None, Ok, Err, Option, Result, sym, refl, ap, ◌∙◌, subst, arith}
use Rattle.std.proofs.lemmas.List.{length-set}
use Rattle.std.proofs.lemmas.Result.{err_from_is_err_and}
use Rattle.rows.specs.declared.row.Row.{Row}
use Rattle.rows.specs.Kind.{Kinds}
use Rattle.pool.specs.declared.node.PoolFault.{PoolFault}
use Rattle.pool.specs.Memory.{Memory}
use Rattle.pool.specs.Building.{built}
use Rattle.pool.specs.Seen.{memory_of}
use Rattle.planner.specs.declared.call.Refusal.{Refusal}
use Rattle.planner.specs.declared.call.Refusal.TheVariants.{RootTaken}
use Rattle.planner.specs.Calls.{Said, refused}
use Rattle.planner.specs.Called.{State, root_in, rows_made, placed}
use Rattle.planner.specs.Contract.{outcome, rows_parsed}
use Rattle.planner.specs.Seen.{state_of}
use Rattle.planner.proofs.Invariant.{Ghosts, ghosts_of, ordered_of}
use Rattle.planner.proofs.Making.{made_known, made_none, rows_known, build_kept, build_ordered}
use Rattle.planner.proofs.Outcomes.{answered, root_ok, made_is, make_by, taken_by, empty_by}
use Rattle.planner.proofs.planner.Planner.make.Goals as goal

pub returns-then-not-is_sized : goal.returns-then-not-is_sized
returns-then-not-is_sized g c =
    let s : State = state_of c.args.self.now in
    let ks : Kinds = g.K.RowKinds.kinds c.args.self.now.session.kinds in
    answered g.met.K.RowKinds.lawful g.met.E.EncodingSet.complete
    (made_is ks s c.args.root c.args.rows.kind c.args.rows.len c.args.rows.bytes.now false (root_in s c.args.root) (rows_made ks c.args.rows.kind c.args.rows.len c.args.rows.bytes.now) (sym c.if-not-is_sized.ensures) refl refl)
    refl

pub returns-in_err-root : goal.returns-in_err-root
returns-in_err-root g c =
    let s : State = state_of c.args.self.now in
    let ks : Kinds = g.K.RowKinds.kinds c.args.self.now.session.kinds in
    let p = err_from_is_err_and c.from_residual.result c.from_residual.ensures.1 in
    answered g.met.K.RowKinds.lawful g.met.E.EncodingSet.complete
    (ap (λ r. (outcome r, s)) p.1 ∙ ap (λ x. (refused x, s)) p.2
    ∙ made_is ks s c.args.root c.args.rows.kind c.args.rows.len c.args.rows.bytes.now true (Err c.in_err-root.field-0.0) (rows_made ks c.args.rows.kind c.args.rows.len c.args.rows.bytes.now) (sym c.if-not-is_sized.ensures) (sym c.in_err-root.was ∙ c.root.ensures) refl)
    refl

pub returns-then-is_some : goal.returns-then-is_some
returns-then-is_some g c =
    let s : State = state_of c.args.self.now in
    let ks : Kinds = g.K.RowKinds.kinds c.args.self.now.session.kinds in
    let rs : Option (List Row) = rows_made ks c.args.rows.kind c.args.rows.len c.args.rows.bytes.now in
    answered g.met.K.RowKinds.lawful g.met.E.EncodingSet.complete
    (taken_by (refused RootTaken, s) (make_by ks s c.args.root c.args.rows.kind c.args.rows.len true (Ok None) rs) c.in_ok-root.field-0 (sym c.if-is_some.ensures)
    ∙ made_is ks s c.args.root c.args.rows.kind c.args.rows.len c.args.rows.bytes.now true (Ok c.in_ok-root.field-0) rs (sym c.if-not-is_sized.ensures) (sym c.in_ok-root.was ∙ c.root.ensures) refl)
    refl

-- a root that exists and is not taken is empty
free : (s : State) (root : ℕ) (r : Result (Option ℕ) Refusal) (o : Option ℕ) → r ≡ Ok o → r ≡ root_in s root → is_some o ≡ false → Ok None ≡ root_in s root
free s root r o was root_is none = ap (λ (x : Option ℕ). Ok x) (sym (empty_by o none)) ∙ sym was ∙ root_is

pub returns-then-not-are_rows : goal.returns-then-not-are_rows
returns-then-not-are_rows g c =
    let s : State = state_of c.args.self.now in
    let ks : Kinds = g.K.RowKinds.kinds c.args.self.now.session.kinds in
    answered g.met.K.RowKinds.lawful g.met.E.EncodingSet.complete
    (made_is ks s c.args.root c.args.rows.kind c.args.rows.len c.args.rows.bytes.now true (Ok None) None (sym c.if-not-is_sized.ensures)
    (free s c.args.root c.root.result c.in_ok-root.field-0 c.in_ok-root.was c.root.ensures (sym c.if-is_some.ensures)) (made_none ks c.args.rows.kind c.args.rows.len c.args.rows.bytes.now (sym c.if-not-are_rows.ensures)))
    refl

pub invariant_of-self : goal.invariant_of-self
invariant_of-self g c =
    let ks : Kinds = g.K.RowKinds.kinds c.args.self.now.session.kinds in
    let m : Memory = (state_of c.args.self.now).memory in
    let known = made_known ks c.args.rows.kind c.args.rows.len c.args.rows.bytes.now (sym c.if-not-are_rows.ensures) in
    let e : (Err c.in_err-node.field-0.0, memory_of c.build.new.pool) ≡ built ks m c.args.rows.kind c.args.rows.len (rows_parsed (ks.kind c.args.rows.kind) c.args.rows.len c.args.rows.bytes.now)
    = ap (λ (r : Result ℕ PoolFault). (r, memory_of c.build.new.pool)) (sym c.in_err-node.was) ∙ c.build.ensures in
    let same : memory_of c.build.new.pool ≡ m
    = build_kept ks c.args.rows.kind c.args.rows.len c.args.rows.bytes.now m c.args.self.now.roots (ordered_of c.args.self.now) ((g.met.K.RowKinds.lawful c.args.self.now.session.kinds).lawful c.args.rows.kind) known.1 c.in_err-node.field-0.0 (memory_of c.build.new.pool) e in
    subst (λ (x : Memory). Ghosts x c.args.self.now.roots) (sym same) (ghosts_of m c.args.self.now.roots c.args.self.now.roots_long (ordered_of c.args.self.now))

pub returns-in_err-node : goal.returns-in_err-node
returns-in_err-node g c =
    let p = err_from_is_err_and c.from_residual-in_err-node.result c.from_residual-in_err-node.ensures.1 in
    let s : State = state_of c.args.self.now in
    let ks : Kinds = g.K.RowKinds.kinds c.args.self.now.session.kinds in
    let rs : List Row = rows_parsed (ks.kind c.args.rows.kind) c.args.rows.len c.args.rows.bytes.now in
    let known = made_known ks c.args.rows.kind c.args.rows.len c.args.rows.bytes.now (sym c.if-not-are_rows.ensures) in
    let e : (Err c.in_err-node.field-0.0, memory_of c.build.new.pool) ≡ built ks s.memory c.args.rows.kind c.args.rows.len rs
    = ap (λ (r : Result ℕ PoolFault). (r, memory_of c.build.new.pool)) (sym c.in_err-node.was) ∙ c.build.ensures in
    answered g.met.K.RowKinds.lawful g.met.E.EncodingSet.complete
    (ap (λ (a : Said). (a, record { memory = memory_of c.build.new.pool; roots = s.roots })) (ap (λ r. outcome r) p.1 ∙ ap (λ x. refused x) p.2)
    ∙ ap (λ (b : Result ℕ PoolFault × Memory). placed s c.args.root b) e
    ∙ made_is ks s c.args.root c.args.rows.kind c.args.rows.len c.args.rows.bytes.now true (Ok None) (Some rs) (sym c.if-not-is_sized.ensures)
    (free s c.args.root c.root.result c.in_ok-root.field-0 c.in_ok-root.was c.root.ensures (sym c.if-is_some.ensures)) (rows_known ks c.args.rows.kind c.args.rows.len c.args.rows.bytes.now known.0 known.1))
    refl

pub invariant_of-self-2 : goal.invariant_of-self-2
invariant_of-self-2 g c =
    let ks : Kinds = g.K.RowKinds.kinds c.args.self.now.session.kinds in
    let m : Memory = (state_of c.args.self.now).memory in
    let t = root_ok (state_of c.args.self.now) c.args.root c.in_ok-root.field-0 (sym c.in_ok-root.was ∙ c.root.ensures) in
    let long : length c.args.self.now.roots ≡ 32 = c.args.self.now.roots_long in
    let known = made_known ks c.args.rows.kind c.args.rows.len c.args.rows.bytes.now (sym c.if-not-are_rows.ensures) in
    let e : (Ok c.in_ok-node.node, memory_of c.build.new.pool) ≡ built ks m c.args.rows.kind c.args.rows.len (rows_parsed (ks.kind c.args.rows.kind) c.args.rows.len c.args.rows.bytes.now)
    = ap (λ (r : Result ℕ PoolFault). (r, memory_of c.build.new.pool)) (sym c.in_ok-node.was) ∙ c.build.ensures in
    ghosts_of (memory_of c.build.new.pool) (set c.args.self.now.roots c.args.root (Some c.in_ok-node.node))
    (length-set c.args.self.now.roots c.args.root (Some c.in_ok-node.node) ∙ long)
    (build_ordered ks c.args.rows.kind c.args.rows.len c.args.rows.bytes.now m c.args.self.now.roots (ordered_of c.args.self.now) ((g.met.K.RowKinds.lawful c.args.self.now.session.kinds).lawful c.args.rows.kind) known.1
    c.in_ok-node.node (memory_of c.build.new.pool) c.args.root e (omega (arith, t.0)) (t.1 ∙ empty_by c.in_ok-root.field-0 (sym c.if-is_some.ensures)))

pub returns : goal.returns
returns g c =
    let s : State = state_of c.args.self.now in
    let ks : Kinds = g.K.RowKinds.kinds c.args.self.now.session.kinds in
    let rs : List Row = rows_parsed (ks.kind c.args.rows.kind) c.args.rows.len c.args.rows.bytes.now in
    let known = made_known ks c.args.rows.kind c.args.rows.len c.args.rows.bytes.now (sym c.if-not-are_rows.ensures) in
    let e : (Ok c.in_ok-node.node, memory_of c.build.new.pool) ≡ built ks s.memory c.args.rows.kind c.args.rows.len rs
    = ap (λ (r : Result ℕ PoolFault). (r, memory_of c.build.new.pool)) (sym c.in_ok-node.was) ∙ c.build.ensures in
    answered g.met.K.RowKinds.lawful g.met.E.EncodingSet.complete
    (ap (λ (b : Result ℕ PoolFault × Memory). placed s c.args.root b) e
    ∙ made_is ks s c.args.root c.args.rows.kind c.args.rows.len c.args.rows.bytes.now true (Ok None) (Some rs) (sym c.if-not-is_sized.ensures)
    (free s c.args.root c.root.result c.in_ok-root.field-0 c.in_ok-root.was c.root.ensures (sym c.if-is_some.ensures)) (rows_known ks c.args.rows.kind c.args.rows.len c.args.rows.bytes.now known.0 known.1))
    refl
