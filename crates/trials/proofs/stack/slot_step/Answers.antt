use Rattle.std.proofs.Common.{◌≡◌, ℕ, suc, ◌<◌, List, [], ◌∷◌, Some, None, Option, sym, ap, subst, arith}
use Rattle.std.proofs.lemmas.Option.{none-some, same_Some}
use Rattle.pool.specs.declared.node.Node.{Node}
use Rattle.pool.specs.Memory.{node_at}
use Rattle.pool.specs.Counts.{names, times}
use Rattle.pool.specs.Seen.{memory_of}
use Rattle.pool.proofs.Counted.{times_here}
use Rattle.encodings.specs.Rows.{slots_of}
use Rattle.encodings.proofs.Keeping.{times_take}
use Rattle.trials.specs.Stack.{last_present}
use Rattle.trials.proofs.stack.slot_step.Goals as goal

-- the child in the last present slot is named
last_named : (ss : List (Option ℕ)) (x : ℕ) (p : ℕ × ℕ) → last_present ss x ≡ Some p → 0 < times p.1 (names ss)
last_named [] x p e = absurd (none-some p e)
last_named (None ∷ ss) x p e = last_named ss (suc x) p e
last_named (Some c ∷ ss) x p e = go (last_present ss (suc x)) (last_named ss (suc x) p) e
  where
    go : (o : Option (ℕ × ℕ)) → (o ≡ Some p → 0 < times p.1 (names ss)) → elim o as (λ _. Option (ℕ × ℕ)) [ None ↦ Some (x, c) | Some q ↦ Some q ] ≡ Some p → 0 < times p.1 (c ∷ names ss)
    go None r e = subst (λ (y : ℕ). 0 < times y (c ∷ names ss)) (ap (λ (q : ℕ × ℕ). q.1) (same_Some (x, c) p e)) (times_here c (names ss))
    go (Some q) r e = omega (arith, r e)

pub bounds-pool-child : goal.bounds-pool-child
bounds-pool-child c =
    let nd : Node = node_at (memory_of c.args.pool.now) c.args.array in
    let h = last_named (slots_of nd) 0 (c.in-Some.slot, c.in-Some.child) (sym c.in-Some.ensures) in
    c.requires.named c.in-Some.child (omega (arith, h, times_take c.in-Some.child nd.arity nd.slots))
