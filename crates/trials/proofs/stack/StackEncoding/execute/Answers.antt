use Rattle.std.proofs.Common.{◌≡◌, ℕ, List, ◌∷◌, Ok, Result, subst, arith}
use Rattle.pool.specs.declared.node.Node.{Node}
use Rattle.pool.specs.declared.node.PoolFault.{PoolFault}
use Rattle.pool.specs.Memory.{Memory}
use Rattle.pool.specs.Inserting.{Inserted}
use Rattle.pool.specs.Seen.{memory_of}
use Rattle.pool.proofs.Counted.{in_range, named_used, owed_used}
use Rattle.pool.proofs.Releasing.{Sound, ordered_sound}
use Rattle.encodings.proofs.Answering.{ordered_like}
use Rattle.trials.proofs.stack.StackEncoding.execute.Goals as goal

-- what an insertion leaves to a holder of i
inserted_sound : (m q : Memory) (nd : Node) (hs : List ℕ) (i j : ℕ) (r : Result ℕ PoolFault) → r ≡ Ok j → Inserted m q nd (i ∷ hs) r → Sound q (i ∷ (j ∷ hs))
inserted_sound m q nd hs i j r e h =
    let at : Inserted m q nd (i ∷ hs) (Ok j) = subst (λ (x : Result ℕ PoolFault). Inserted m q nd (i ∷ hs) x) e h in
    ordered_sound q (i ∷ (j ∷ hs)) (ordered_like q (j ∷ (i ∷ hs)) (i ∷ (j ∷ hs)) (λ k. omega arith) at.change.ordered)

pub slot_step-requires-clause-named : goal.slot_step-requires-clause-named
slot_step-requires-clause-named g c n h =
    let m : Memory = memory_of c.args.pool.now in
    let held = c.requires.held in
    in_range m.nodes n (named_used m.nodes (c.args.array ∷ held.0) held.2.counts c.args.array n (owed_used m.nodes c.args.array held.0 held.2.counts) h)

pub insert-requires-clause-held : goal.insert-requires-clause-held
insert-requires-clause-held g c =
    let held = c.requires.held in
    (c.args.array ∷ held.0, omega (arith, held.1), held.2)

pub insert-requires-clause-used : goal.insert-requires-clause-used
insert-requires-clause-used g c n h =
    let m : Memory = memory_of c.args.pool.now in
    let held = c.requires.held in
    named_used m.nodes (c.args.array ∷ held.0) held.2.counts c.args.array n (owed_used m.nodes c.args.array held.0 held.2.counts) h

pub release-requires : goal.release-requires
release-requires g c =
    let held = c.requires.held in
    let s = inserted_sound _ _ _ held.0 c.args.array c.in_ok-copy.copy c.insert.result c.in_ok-copy.was (c.insert.ensures.change (c.args.array ∷ held.0) held.2) in
    record { owed = (c.in_ok-copy.copy ∷ held.0, s.counts); falling = s.falling; within = s.within }
