use Rattle.std.proofs.Common.{◌≡◌, fold}
use Rattle.pool.specs.Sharing.{retained}
use Rattle.pool.specs.Seen.{memory_of}
use Rattle.pool.proofs.pool.Pool.retain_slots.Given as goal

abbrev pub invariant-loop-child : goal.invariant-loop-child
invariant-loop-child l = memory_of l.self ≡ fold retained (memory_of l.initial.self) l.yielded
