-- A node is in use exactly when some holder reaches it.
use Rattle.std.proofs.Common.{ℕ, zero, suc, ◌+◌, ◌<◌, ◌≤◌, max, List, [], ◌∷◌, get_or, ⊎_elim, arith}
use Rattle.std.proofs.lemmas.Bool.{cases_lt}
use Rattle.pool.specs.declared.node.Node.{Node}
use Rattle.pool.specs.Memory.{blank, count_at, height_at}
use Rattle.pool.specs.Counts.{times, Counts, Falling, here, step, Held, Exact}
use Rattle.pool.proofs.Counted.{named_by, names_used, names_use, held_used}

-- above all heights
top : List Node → ℕ
top [] = 1
top (nd ∷ ns) = max (suc nd.height) (top ns)

height_top : (ns : List Node) (k : ℕ) → height_at ns k < top ns
unfolding top
height_top [] k = omega arith
height_top (nd ∷ ns) zero = omega arith
height_top (nd ∷ ns) (suc k) = omega (arith, height_top ns k)

module _ (ns : List Node) (hs : List ℕ) (counts : Counts ns hs) (falling : Falling ns) where
  -- d is what is left above k's height
  climb : (d k : ℕ) → top ns ≤ height_at ns k + d → 0 < count_at ns k → Held ns hs k
  climb zero k l u = absurd (omega (arith, height_top ns k))
  climb (suc d) k l u =
      ⊎_elim
      (λ h. (k, h, here))
      (λ h.
      let j = named_by k ns (omega (arith, counts k)) in
      let v = names_use k (get_or ns j.0 blank) j.1 in
      let up = climb d j.0 (omega (arith, falling j.0 k j.1)) v in
      (up.0, up.1, step up.2 k (omega (arith, names_used k (get_or ns j.0 blank) v, j.1))))
      (cases_lt 0 (times k hs))

pub counts_exact : (ns : List Node) (hs : List ℕ) → Counts ns hs → Falling ns → Exact ns hs
counts_exact ns hs counts falling k = (climb ns hs counts falling (top ns) k (omega arith), held_used ns hs k counts)
