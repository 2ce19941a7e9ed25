use Rattle.std.proofs.Common.{◌≡◌, ℕ, ◌∷◌, Err, Result, sym, ap, ◌∙◌, arith}
use Rattle.std.proofs.lemmas.Result.{err_from_is_err_and}
use Rattle.pool.specs.declared.node.PoolFault.{PoolFault}
use Rattle.pool.specs.Memory.{Memory}
use Rattle.pool.specs.Slots.{slot_taken}
use Rattle.pool.specs.Seen.{memory_of}
use Rattle.pool.proofs.Slotting.{code_room, code_taken_err, taken_change, code_take_in, code_take_named, code_take_low, code_taken}
use Rattle.pool.proofs.pool.Pool.take_slot_unchecked.Goals as goal

pub own-requires : goal.own-requires
own-requires c =
    let m : Memory = memory_of c.args.self.now in
    let held = c.requires.held in
    record {
      owed = (held.0, held.2.counts);
      sized = omega (arith, held.2.nodes_long);
      room = code_room m (c.args.parent ∷ held.0) held.2 (omega (arith, held.1));
    }

pub returns-in_err-parent : goal.returns-in_err-parent
returns-in_err-parent c =
    let m : Memory = memory_of c.args.self.now in
    let q : Memory = memory_of c.own.new.self in
    let p = err_from_is_err_and c.from_residual.result c.from_residual.ensures.1 in
    let e : (c.from_residual.result, q) ≡ slot_taken m c.args.parent c.args.slot
    = ap (λ (r : Result (ℕ × ℕ) PoolFault). (r, q)) p.1
    ∙ ap (λ (x : PoolFault). (Err x, q)) p.2
    ∙ sym (code_taken_err m c.args.parent c.args.slot c.own.result q c.own.ensures c.in_err-parent.field-0.0 c.in_err-parent.was) in
    record {
      value = e;
      change = taken_change m c.args.parent c.args.slot c.requires.present.0 c.requires.inside c.requires.present.1 c.from_residual.result q e;
    }

pub bounds-self-parent-2 : goal.bounds-self-parent-2
bounds-self-parent-2 c =
    code_take_in (memory_of c.args.self.now) c.args.parent c.args.slot c.requires.present.0 c.requires.held.0 c.requires.held.2 c.requires.inside c.requires.present.1
    c.own.result (memory_of c.own.new.self) c.own.ensures c.in_ok-parent.parent c.in_ok-parent.was

pub tallest-height-requires : goal.tallest-height-requires
tallest-height-requires c =
    code_take_named (memory_of c.args.self.now) c.args.parent c.args.slot c.requires.present.0 c.requires.held.0 c.requires.held.2 c.requires.inside c.requires.present.1
    c.own.result (memory_of c.own.new.self) c.own.ensures c.in_ok-parent.parent c.in_ok-parent.was

pub overflow_add-height : goal.overflow_add-height
overflow_add-height c =
    omega (
      arith,
      c.tallest-height.ensures,
      code_take_low (memory_of c.args.self.now) c.args.parent c.args.slot c.requires.present.0 c.requires.held.0 c.requires.held.2 c.requires.inside c.requires.present.1
          c.own.result (memory_of c.own.new.self) c.own.ensures c.in_ok-parent.parent c.in_ok-parent.was,
    )

pub bounds-self-parent-3 : goal.bounds-self-parent-3
bounds-self-parent-3 c =
    code_take_in (memory_of c.args.self.now) c.args.parent c.args.slot c.requires.present.0 c.requires.held.0 c.requires.held.2 c.requires.inside c.requires.present.1
    c.own.result (memory_of c.own.new.self) c.own.ensures c.in_ok-parent.parent c.in_ok-parent.was

pub returns : goal.returns
returns c =
    let m : Memory = memory_of c.args.self.now in
    let e = code_taken m c.args.parent c.args.slot c.requires.present.0 c.requires.held.0 c.requires.held.2 c.requires.inside c.requires.present.1
    c.own.result (memory_of c.own.new.self) c.own.ensures c.in_ok-parent.parent c.in_ok-parent.was
    c.unwrap-child.result c.tallest-height.result c.unwrap-child.ensures c.tallest-height.ensures in
    record {
      value = e;
      change = taken_change m c.args.parent c.args.slot c.requires.present.0 c.requires.inside c.requires.present.1 _ _ e;
    }
