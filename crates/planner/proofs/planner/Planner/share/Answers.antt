use Rattle.std.proofs.Common.{◌≡◌, ℕ, length, set, Some, None, Ok, Err, Option, sym, refl, ap, ◌∙◌, subst, arith}
use Rattle.std.proofs.lemmas.List.{length-set}
use Rattle.std.proofs.lemmas.Result.{err_from_is_err_and}
use Rattle.pool.specs.Memory.{Memory}
use Rattle.pool.specs.Sharing as sharing
use Rattle.planner.specs.declared.call.Refusal.TheVariants.{RootTaken}
use Rattle.planner.specs.Calls.{done, refused}
use Rattle.planner.specs.Called.{State, with_root}
use Rattle.planner.specs.Contract.{outcome}
use Rattle.planner.specs.Seen.{state_of}
use Rattle.planner.proofs.Invariant.{Ghosts, ghosts_of, ordered_of}
use Rattle.planner.proofs.Rooted.{root_used, root_room, shared_ordered}
use Rattle.planner.proofs.Outcomes.{answered, root_ok, held_ok, shared_is, taken_by, empty_by}
use Rattle.planner.proofs.planner.Planner.share.Goals as goal

pub returns-in_err-target : goal.returns-in_err-target
returns-in_err-target g c =
    let s : State = state_of c.args.self.now in
    let p = err_from_is_err_and c.from_residual.result c.from_residual.ensures.1 in
    answered g.met.K.RowKinds.lawful g.met.E.EncodingSet.complete
    (ap (λ r. (outcome r, s)) p.1 ∙ ap (λ x. (refused x, s)) p.2 ∙ shared_is s c.args.to c.args.from (Err c.in_err-target.field-0.0) _ (sym c.in_err-target.was ∙ c.root.ensures) refl)
    refl

pub returns-in_err-node : goal.returns-in_err-node
returns-in_err-node g c =
    let s : State = state_of c.args.self.now in
    let p = err_from_is_err_and c.from_residual-in_err-node.result c.from_residual-in_err-node.ensures.1 in
    answered g.met.K.RowKinds.lawful g.met.E.EncodingSet.complete
    (ap (λ r. (outcome r, s)) p.1 ∙ ap (λ x. (refused x, s)) p.2
    ∙ shared_is s c.args.to c.args.from (Ok c.in_ok-target.target) (Err c.in_err-node.field-0.0) (sym c.in_ok-target.was ∙ c.root.ensures) (sym c.in_err-node.was ∙ c.held.ensures))
    refl

pub returns-then-is_some : goal.returns-then-is_some
returns-then-is_some g c =
    let s : State = state_of c.args.self.now in
    let k : ℕ = c.in_ok-node.node in
    answered g.met.K.RowKinds.lawful g.met.E.EncodingSet.complete
    (taken_by (refused RootTaken, s) (done, with_root s (sharing.retained s.memory k) c.args.to (Some k)) c.in_ok-target.target (sym c.if-is_some.ensures)
    ∙ shared_is s c.args.to c.args.from (Ok c.in_ok-target.target) (Ok k) (sym c.in_ok-target.was ∙ c.root.ensures) (sym c.in_ok-node.was ∙ c.held.ensures))
    refl

pub retain-requires : goal.retain-requires
retain-requires g c =
    let s : State = state_of c.args.self.now in
    let o = ordered_of c.args.self.now in
    let h = held_ok s c.args.from c.in_ok-node.node (sym c.in_ok-node.was ∙ c.held.ensures) in
    let long : length s.roots ≡ 32 = c.args.self.now.roots_long in
    record { used = root_used s.memory s.roots o c.args.from c.in_ok-node.node h.1; room = root_room s.memory s.roots o (omega arith) c.in_ok-node.node }

pub invariant_of-self : goal.invariant_of-self
invariant_of-self g c =
    let s : State = state_of c.args.self.now in
    let k : ℕ = c.in_ok-node.node in
    let t = root_ok s c.args.to c.in_ok-target.target (sym c.in_ok-target.was ∙ c.root.ensures) in
    let h = held_ok s c.args.from k (sym c.in_ok-node.was ∙ c.held.ensures) in
    let long : length s.roots ≡ 32 = c.args.self.now.roots_long in
    subst (λ (m : Memory). Ghosts m (set s.roots c.args.to (Some k))) (sym c.retain.ensures)
    (ghosts_of _ (set s.roots c.args.to (Some k)) (length-set s.roots c.args.to (Some k) ∙ long)
    (shared_ordered s.memory s.roots (ordered_of c.args.self.now) c.args.to c.args.from k (omega (arith, t.0)) h.1 (t.1 ∙ empty_by c.in_ok-target.target (sym c.if-is_some.ensures))))

pub returns : goal.returns
returns g c =
    let s : State = state_of c.args.self.now in
    let k : ℕ = c.in_ok-node.node in
    answered g.met.K.RowKinds.lawful g.met.E.EncodingSet.complete
    (ap (λ (m : Memory). (done, with_root s m c.args.to (Some k))) c.retain.ensures
    ∙ shared_is s c.args.to c.args.from (Ok None) (Ok k) (ap (λ (o : Option ℕ). Ok o) (sym (empty_by c.in_ok-target.target (sym c.if-is_some.ensures))) ∙ sym c.in_ok-target.was ∙ c.root.ensures) (sym c.in_ok-node.was ∙ c.held.ensures))
    refl
