use Rattle.std.proofs.Common.{◌≡◌, ℕ, ◌∷◌, Err, Result, sym, ap, ◌∙◌, arith}
use Rattle.std.proofs.lemmas.Result.{err_from_is_err_and}
use Rattle.pool.specs.declared.node.PoolFault.{PoolFault}
use Rattle.pool.specs.Memory.{Memory}
use Rattle.pool.specs.Slots.{slot_put}
use Rattle.pool.specs.Seen.{memory_of}
use Rattle.pool.proofs.Counted.{in_range}
use Rattle.pool.proofs.Slotting.{put_used, code_room, code_put_err, put_change, code_put_in, code_put}
use Rattle.pool.proofs.pool.Pool.put_slot_unchecked.Goals as goal

pub tallest-height-requires : goal.tallest-height-requires
tallest-height-requires c = λ k h.
    let m : Memory = memory_of c.args.self.now in
    in_range m.nodes k (put_used m c.args.parent c.args.slot c.args.child c.requires.held.0 c.requires.held.2 c.requires.inside c.requires.absent k h)

pub own-requires : goal.own-requires
own-requires c =
    let m : Memory = memory_of c.args.self.now in
    let held = c.requires.held in
    record {
      owed = (c.args.child ∷ held.0, held.2.counts);
      sized = omega (arith, held.2.nodes_long);
      room = code_room m (c.args.parent ∷ (c.args.child ∷ held.0)) held.2 (omega (arith, held.1));
    }

pub returns-in_err-parent : goal.returns-in_err-parent
returns-in_err-parent c =
    let m : Memory = memory_of c.args.self.now in
    let q : Memory = memory_of c.own.new.self in
    let p = err_from_is_err_and c.from_residual.result c.from_residual.ensures.1 in
    let e : (c.from_residual.result, q) ≡ slot_put m c.args.parent c.args.slot c.args.child
    = ap (λ (r : Result ℕ PoolFault). (r, q)) p.1
    ∙ ap (λ (x : PoolFault). (Err x, q)) p.2
    ∙ sym (code_put_err m c.args.parent c.args.slot c.args.child (omega (arith, c.tallest-height.ensures))
    c.own.result q c.own.ensures c.in_err-parent.field-0.0 c.in_err-parent.was) in
    record {
      value = e;
      change = put_change m c.args.parent c.args.slot c.args.child c.requires.inside c.requires.absent c.requires.bare c.from_residual.result q e;
    }

pub bounds-self-parent-2 : goal.bounds-self-parent-2
bounds-self-parent-2 c =
    code_put_in (memory_of c.args.self.now) c.args.parent c.args.slot c.args.child c.requires.held.0 c.requires.held.2 c.requires.inside c.requires.absent c.requires.bare
    (omega (arith, c.tallest-height.ensures))
    c.own.result (memory_of c.own.new.self) c.own.ensures c.in_ok-parent.parent c.in_ok-parent.was

pub bounds-self-parent-3 : goal.bounds-self-parent-3
bounds-self-parent-3 c =
    code_put_in (memory_of c.args.self.now) c.args.parent c.args.slot c.args.child c.requires.held.0 c.requires.held.2 c.requires.inside c.requires.absent c.requires.bare
    (omega (arith, c.tallest-height.ensures))
    c.own.result (memory_of c.own.new.self) c.own.ensures c.in_ok-parent.parent c.in_ok-parent.was

pub returns : goal.returns
returns c =
    let m : Memory = memory_of c.args.self.now in
    let e = code_put m c.args.parent c.args.slot c.args.child c.requires.held.0 c.requires.held.2 c.requires.inside c.requires.absent c.requires.bare
    (omega (arith, c.tallest-height.ensures))
    c.own.result (memory_of c.own.new.self) c.own.ensures c.in_ok-parent.parent c.in_ok-parent.was
    c.tallest-height.result c.tallest-height.ensures in
    record {
      value = e;
      change = put_change m c.args.parent c.args.slot c.args.child c.requires.inside c.requires.absent c.requires.bare _ _ e;
    }
