-- One holder more, and one holder less.
use Rattle.std.specs.Prelude.{ℕ, zero, suc, ◌+◌, ◌-◌, true, false, List, [], ◌∷◌, replicate, Some, None, Option, ◌==◌, slice_set}
use Rattle.pool.specs.Memory.{Memory, free_node, node_at, count_at, height_at, slots_at, start_at, run_at, with_count, put_node, overwritten}

-- k with another count
abbrev pub recounted : Memory → ℕ → ℕ → Memory
recounted m k c = put_node m k (with_count (node_at m k) c)

-- one holder of k more
abbrev pub retained : Memory → ℕ → Memory
retained m k = recounted m k (count_at m.nodes k + 1)

-- k not in use any more, and its words neither
abbrev pub vacated : Memory → ℕ → Memory
vacated m k =
    record {
      nodes = slice_set m.nodes k free_node;
      words = overwritten m.words (start_at m.nodes k) (run_at m.nodes k) (replicate (run_at m.nodes k) 0);
    }

-- one by one, for all that the slots name
abbrev pub each_slot : (Memory → ℕ → Memory) → Memory → List (Option ℕ) → Memory
each_slot f m [] = m
each_slot f m (None ∷ ss) = each_slot f m ss
each_slot f m (Some c ∷ ss) = each_slot f (f m c) ss

-- One holder of k less; the last one frees it, and releases what its slots name. The first number is above k's height.
unfoldable pub released : ℕ → Memory → ℕ → Memory
released zero m k = m
released (suc f) m k =
    elim (count_at m.nodes k == 1) [
      | true ↦ each_slot (released f) (vacated m k) (slots_at m.nodes k)
      | false ↦ recounted m k (count_at m.nodes k - 1)
    ]

-- one holder of k less
abbrev pub release : Memory → ℕ → Memory
release m k = released (suc (height_at m.nodes k)) m k
