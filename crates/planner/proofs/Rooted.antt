-- What a change of one root leaves in order.
use Rattle.std.proofs.Common.{◌≡◌, ℕ, ◌<◌, ◌≤◌, List, ◌∷◌, length, get_or, set, Some, None, Option, arith}
use Rattle.pool.specs.Memory.{Memory, count_at}
use Rattle.pool.specs.Counts.{names, Falling, Owed, here}
use Rattle.pool.specs.Order.{Ordered}
use Rattle.pool.specs.Sharing.{retained, release}
use Rattle.pool.proofs.Counted.{heights_falling, held_used, count_bound}
use Rattle.pool.proofs.Spared.{retained_change}
use Rattle.pool.proofs.Naming.{names_long}
use Rattle.pool.proofs.Releasing.{release_change}
use Rattle.encodings.proofs.Answering.{ordered_like}
use Rattle.planner.proofs.Holders.{names_at, names_filled, names_emptied}

module _ (m : Memory) (rs : List (Option ℕ)) (o : Ordered m (names rs)) where
  -- what a root holds is in use
  pub root_used : (r k : ℕ) → get_or rs r None ≡ Some k → 0 < count_at m.nodes k
  root_used r k e = held_used m.nodes (names rs) k o.counts (k, names_at k rs r e, here)

  -- the pool has room for one holder more
  pub root_room : length rs ≤ 32 → (k : ℕ) → count_at m.nodes k < 65535
  root_room l k = omega (arith, count_bound m (names rs) o k, names_long rs)

  -- an empty root takes what the pool holds for it
  pub filled_ordered : (q : Memory) (root k : ℕ) → root < length rs → get_or rs root None ≡ None → Ordered q (k ∷ names rs) → Ordered q (names (set rs root (Some k)))
  filled_ordered q root k h e order = ordered_like q (k ∷ names rs) (names (set rs root (Some k))) (λ x. names_filled x k rs root h e) order

  pub shared_ordered : (to from k : ℕ) → to < length rs → get_or rs from None ≡ Some k → get_or rs to None ≡ None → Ordered (retained m k) (names (set rs to (Some k)))
  shared_ordered to from k h source empty = filled_ordered (retained m k) to k h empty (retained_change m k (names rs) o (root_used from k source)).ordered

  module _ (root k : ℕ) (h : root < length rs) (e : get_or rs root None ≡ Some k) where
    -- the root's hold apart from the others'
    pub held_apart : Ordered m (k ∷ names (set rs root None))
    held_apart = ordered_like m (names rs) (k ∷ names (set rs root None)) (λ x. names_emptied x k rs root h e) o

    pub root_owed : Owed m.nodes k
    root_owed = (names (set rs root None), held_apart.counts)

    pub emptied_ordered : Ordered (release m k) (names (set rs root None))
    emptied_ordered = (release_change m k (names (set rs root None)) held_apart).ordered

  pub ordered_falling : Falling m.nodes
  ordered_falling = heights_falling m.nodes (names rs) o.counts o.heights
