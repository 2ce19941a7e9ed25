use Rattle.std.proofs.Common.{ℕ, List, ◌∙◌, arith, rules}
use Rattle.pool.specs.Memory.{Memory}
use Rattle.pool.specs.Sharing.{retained}
use Rattle.pool.specs.Seen.{memory_of}
use Rattle.pool.proofs.Naming.{names_given, turn_splits, end_gives}
use Rattle.pool.proofs.Copying.{retain_next}
use Rattle.pool.proofs.pool.Pool.retain_slots.Goals as goal

pub retain-requires : goal.retain-requires
retain-requires c =
    let m : Memory = memory_of c.args.self.now in
    let xs : List ℕ = c.loop-child.yielded in
    let child : ℕ = c.in-Some.child in
    let s = turn_splits c.args.slots (names_given c.args.slots (search rules) (search rules) (λ x r q k. search rules)) xs _ c.loop-child.yielded_by _ c.next.ensures.steps child c.in-Some.is in
    let n = retain_next m c.args.slots c.requires.used xs s.0 child s.1 (memory_of c.loop-child.self) c.loop-child.invariant in
    record { used = n.0; room = omega (arith, n.1, c.requires.room child) }

pub returns : goal.returns
returns c =
    c.loop-child.invariant
    ∙ end_gives c.args.slots (names_given c.args.slots (search rules) (search rules) (λ x r q k. search rules)) c.loop-child.yielded _ c.loop-child.yielded_by _ c.next.ensures.steps retained (memory_of c.args.self.now) c.in-None.is
