-- The height of what is released falls from call to call.
use Rattle.std.proofs.Common.{◌≡◌, ℕ, ◌+◌, ◌*◌, ◌<◌, fold}
use Rattle.pool.specs.Memory.{height_at}
use Rattle.pool.specs.Counts.{names, tallest}
use Rattle.pool.specs.Sharing.{released}
use Rattle.pool.specs.Seen.{memory_of}
use Rattle.pool.proofs.Counted.{above}
use Rattle.pool.proofs.pool.Pool.+release_release_slots.Given as goal

abbrev pub decreases-release : goal.decreases-release
decreases-release l = 2 * height_at l.self.now.nodes.now l.n + 1

abbrev pub decreases-release_slots : goal.decreases-release_slots
decreases-release_slots l = 2 * above l.self.now.nodes.now (names l.slots)

abbrev pub invariant-release_slots-loop-child : goal.invariant-release_slots-loop-child
invariant-release_slots-loop-child l =
    (f : ℕ) → tallest l.initial.self.nodes.now l.fn.slots < f → memory_of l.self ≡ fold (released f) (memory_of l.initial.self) l.yielded
