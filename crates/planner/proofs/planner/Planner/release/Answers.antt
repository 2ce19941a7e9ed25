use Rattle.std.proofs.Common.{◌≡◌, suc, length, set, Ok, Err, None, sym, refl, ap, ◌∙◌, subst, arith}
use Rattle.std.proofs.lemmas.List.{length-set}
use Rattle.std.proofs.lemmas.Result.{err_from_is_err_and}
use Rattle.pool.specs.Memory.{Memory, height_at}
use Rattle.planner.specs.Calls.{done, refused}
use Rattle.planner.specs.Called.{State, with_root}
use Rattle.planner.specs.Contract.{outcome}
use Rattle.planner.specs.Seen.{state_of}
use Rattle.planner.proofs.Invariant.{Ghosts, ghosts_of, ordered_of}
use Rattle.planner.proofs.Rooted.{root_owed, ordered_falling, emptied_ordered}
use Rattle.planner.proofs.Outcomes.{answered, held_ok, emptied_is}
use Rattle.planner.proofs.planner.Planner.release.Goals as goal

pub returns-in_err-node : goal.returns-in_err-node
returns-in_err-node g c =
    let s : State = state_of c.args.self.now in
    let p = err_from_is_err_and c.from_residual.result c.from_residual.ensures.1 in
    answered g.met.K.RowKinds.lawful g.met.E.EncodingSet.complete
    (ap (λ r. (outcome r, s)) p.1 ∙ ap (λ x. (refused x, s)) p.2 ∙ emptied_is s c.args.root (Err c.in_err-node.field-0.0) (sym c.in_err-node.was ∙ c.held.ensures))
    refl

pub release-requires : goal.release-requires
release-requires g c =
    let s : State = state_of c.args.self.now in
    let o = ordered_of c.args.self.now in
    let h = held_ok s c.args.root c.in_ok-node.node (sym c.in_ok-node.was ∙ c.held.ensures) in
    let long : length s.roots ≡ 32 = c.args.self.now.roots_long in
    record {
      owed = root_owed s.memory s.roots o c.args.root c.in_ok-node.node (omega (arith, h.0)) h.1;
      falling = ordered_falling s.memory s.roots o;
      within = c.args.self.now.within;
    }

pub invariant_of-self : goal.invariant_of-self
invariant_of-self g c =
    let s : State = state_of c.args.self.now in
    let h = held_ok s c.args.root c.in_ok-node.node (sym c.in_ok-node.was ∙ c.held.ensures) in
    let long : length s.roots ≡ 32 = c.args.self.now.roots_long in
    subst (λ (m : Memory). Ghosts m (set s.roots c.args.root None)) (sym (c.release.ensures (suc (height_at s.memory.nodes c.in_ok-node.node)) (omega arith)))
    (ghosts_of _ (set s.roots c.args.root None) (length-set s.roots c.args.root None ∙ long) (emptied_ordered s.memory s.roots (ordered_of c.args.self.now) c.args.root c.in_ok-node.node (omega (arith, h.0)) h.1))

pub returns : goal.returns
returns g c =
    let s : State = state_of c.args.self.now in
    answered g.met.K.RowKinds.lawful g.met.E.EncodingSet.complete
    (ap (λ (m : Memory). (done, with_root s m c.args.root None)) (c.release.ensures (suc (height_at s.memory.nodes c.in_ok-node.node)) (omega arith))
    ∙ emptied_is s c.args.root (Ok c.in_ok-node.node) (sym c.in_ok-node.was ∙ c.held.ensures))
    refl
