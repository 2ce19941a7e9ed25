use Rattle.std.proofs.Common.{ℕ, ◌<◌, length, ap, arith, rules}
use Rattle.pool.specs.Memory.{Memory}
use Rattle.pool.specs.Seen.{memory_of}
use Rattle.pool.proofs.Counted.{owed_in, owed_used}
use Rattle.pool.proofs.Copying.{less_slots, spread_long}
use Rattle.pool.proofs.pool.Pool.own.Goals as goal

pub bounds-self-n : goal.bounds-self-n
bounds-self-n c = owed_in c.args.self.now.nodes.now c.args.n c.requires.owed.0 c.requires.owed.1

pub retain_slots-requires-clause-used : goal.retain_slots-requires-clause-used
retain_slots-requires-clause-used c =
    let m : Memory = memory_of c.args.self.now in
    let u = owed_used m.nodes c.args.n c.requires.owed.0 c.requires.owed.1 in
    less_slots m c.args.n c.requires.owed.0 c.requires.owed.1 (omega arith)

pub bounds-self-copy : goal.bounds-self-copy
bounds-self-copy c =
    let m : Memory = memory_of c.args.self.now in
    let n : ℕ = c.args.n in
    let u = owed_used m.nodes n c.requires.owed.0 c.requires.owed.1 in
    let l : c.in_ok-copy.copy < length m.nodes = search rules in
    let e = ap (λ (x : Memory). length x.nodes) c.retain_slots.ensures in
    omega (arith, l, e, spread_long m n c.requires.owed.0 c.requires.owed.1 (omega arith))
