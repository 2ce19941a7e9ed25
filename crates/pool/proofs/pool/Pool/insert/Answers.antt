use Rattle.std.proofs.Common.{◌<◌, length, ap, arith, rules}
use Rattle.pool.specs.Memory.{Memory}
use Rattle.pool.specs.Seen.{memory_of}
use Rattle.pool.proofs.Copying.{all_retained}
use Rattle.pool.proofs.Slotting.{code_room}
use Rattle.pool.proofs.Inserting.{code_inserted}
use Rattle.pool.proofs.pool.Pool.insert.Goals as goal

pub retain_slots-requires-clause-room : goal.retain_slots-requires-clause-room
retain_slots-requires-clause-room c =
    let held = c.requires.held in
    code_room (memory_of c.args.self.now) held.0 held.2 (omega (arith, held.1))

pub bounds-self-place : goal.bounds-self-place
bounds-self-place c =
    let m : Memory = memory_of c.args.self.now in
    let l : c.in_ok-place.place < length m.nodes = search rules in
    let e = ap (λ (x : Memory). length x.nodes) c.retain_slots.ensures in
    omega (arith, l, e, (all_retained m c.args.node.slots c.requires.used).spared.nodes_long)

pub returns-clause-change : goal.returns-clause-change
returns-clause-change c hs o =
    code_inserted (memory_of c.args.self.now) c.args.node hs o c.requires.used (search rules) c.requires.bare.0 c.requires.bare.1
    c.tallest-height.result c.in_ok-place.place (memory_of c.retain_slots.new.self) c.tallest-height.ensures (search rules) (search rules) c.retain_slots.ensures
