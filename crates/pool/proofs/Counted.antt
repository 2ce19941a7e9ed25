-- Counts of nodes, and what a change of one node does to them.
use Rattle.std.proofs.Common.{◌≡◌, ℕ, zero, suc, ◌+◌, ◌*◌, ◌<◌, ◌≤◌, max, eqb, ltb, ◌⊎◌, List, [], ◌∷◌, ◌++◌, length, get_or, set, Some, None, Option, sym, refl, ap, ◌∙◌, inl, inr, ⊎_elim, arith}
use Rattle.std.proofs.lemmas.List.{get_or-set_same, get_or-set_other, get_or_past}
use Rattle.std.proofs.lemmas.Bool.{cases_lt, cases_eq, eq-eqb, ne_eqb, lt-ltb, le-ltb, cond-true, cond-false}
use Rattle.pool.specs.declared.node.Node.{Node}
use Rattle.pool.specs.Memory.{Memory, blank, free_node, count_at, height_at, slots_at, with_count}
use Rattle.pool.specs.Counts.{names, hit, times, names_of, named, Counts, tallest, Heights, Falling, Reaches, here, step, Held}
use Rattle.pool.specs.Order.{Eight, Ordered}

pub times_append : (k : ℕ) (xs ys : List ℕ) → times k (xs ++ ys) ≡ times k xs + times k ys
times_append k [] ys = omega arith
times_append k (x ∷ xs) ys = omega (arith, times_append k xs ys)

pub hit_same : (n k : ℕ) → n ≡ k → hit n k ≡ 1
hit_same n k e = cond-true {A = ℕ} (eqb n k) 1 0 (eq-eqb n k e)

pub hit_other : (n k : ℕ) → (n ≡ k → ⊥) → hit n k ≡ 0
hit_other n k e = cond-false {A = ℕ} (eqb n k) 1 0 (ne_eqb n k e)

pub times_here : (k : ℕ) (xs : List ℕ) → 0 < times k (k ∷ xs)
times_here k xs = omega (arith, hit_same k k refl)

pub hit_most : (n k : ℕ) → hit n k ≤ 1
hit_most n k = ⊎_elim (λ e. omega (arith, hit_same n k e)) (λ e. omega (arith, hit_other n k e)) (cases_eq n k)

pub times_most : (k : ℕ) (xs : List ℕ) → times k xs ≤ length xs
times_most k [] = omega arith
times_most k (x ∷ xs) = omega (arith, times_most k xs, hit_most x k)

-- one node is put in another's place
pub named_set : (k : ℕ) (ns : List Node) (i : ℕ) (nd : Node) → i < length ns → named k (set ns i nd) + names_of k (get_or ns i blank) ≡ named k ns + names_of k nd
named_set k [] i nd h = omega arith
named_set k (x ∷ xs) zero nd h = omega arith
named_set k (x ∷ xs) (suc i) nd h = omega (arith, named_set k xs i nd (omega arith))

-- what one node names is among what all name
pub named_at : (k : ℕ) (ns : List Node) (i : ℕ) → names_of k (get_or ns i blank) ≤ named k ns
named_at k [] i = omega arith
named_at k (x ∷ xs) zero = omega arith
named_at k (x ∷ xs) (suc i) = omega (arith, named_at k xs i)

-- some node names what is named
pub named_by : (k : ℕ) (ns : List Node) → 0 < named k ns → (i : ℕ) × (0 < names_of k (get_or ns i blank))
named_by k [] h = absurd (omega arith)
named_by k (x ∷ xs) h =
    ⊎_elim (λ l. (0, l)) (λ l. let r : (i : ℕ) × (0 < names_of k (get_or xs i blank)) = named_by k xs (omega arith) in (suc r.0, r.1)) (cases_lt 0 (names_of k x))

-- a node in use stands in the pool
pub in_range : (ns : List Node) (k : ℕ) → 0 < count_at ns k → k < length ns
in_range ns k h = ⊎_elim (λ l. l) (λ l. absurd (omega (arith, ap (λ (nd : Node). nd.count) (get_or_past ns k blank l)))) (cases_lt k (length ns))

-- the number of names of a node in use, and of one that is not
pub names_used : (k : ℕ) (nd : Node) → 0 < nd.count → names_of k nd ≡ times k (names nd.slots)
names_used k nd h = cond-true (ltb 0 nd.count) (times k (names nd.slots)) 0 (lt-ltb 0 nd.count h)

pub names_free : (k : ℕ) (nd : Node) → nd.count ≡ 0 → names_of k nd ≡ 0
names_free k nd h = cond-false (ltb 0 nd.count) (times k (names nd.slots)) 0 (le-ltb 0 nd.count (omega arith))

pub names_use : (k : ℕ) (nd : Node) → 0 < names_of k nd → 0 < nd.count
names_use k nd h = ⊎_elim (λ l. l) (λ l. absurd (omega (arith, names_free k nd (omega arith)))) (cases_lt 0 nd.count)

-- what a node in use names is in use
pub named_used : (ns : List Node) (hs : List ℕ) → Counts ns hs → (k c : ℕ) → 0 < count_at ns k → 0 < times c (names (slots_at ns k)) → 0 < count_at ns c
named_used ns hs counts k c u h = omega (arith, counts c, named_at c ns k, names_used c (get_or ns k blank) u)

-- ---- one node put: at each place it is n's, and has the new node, or it is as it was
pub set_cases : (ns : List Node) (n : ℕ) (nd : Node) → n < length ns → (k : ℕ) → ((k ≡ n) × (get_or (set ns n nd) k blank ≡ nd)) ⊎ ((k ≡ n → ⊥) × (get_or (set ns n nd) k blank ≡ get_or ns k blank))
set_cases ns n nd h k =
    ⊎_elim
    (λ (q : k ≡ n). inl (q, ap (λ (j : ℕ). get_or (set ns n nd) j blank) q ∙ get_or-set_same ns n nd blank h))
    (λ (q : k ≡ n → ⊥). inr (q, get_or-set_other ns n k nd blank q))
    (cases_eq k n)

-- The balance at k: what is counted and what counts, before and after.
abbrev pub Balance : List Node → ℕ → Node → List ℕ → List ℕ → ℕ → ℕ → Type 0
Balance ns n nd hs hs' k new = new + (times k hs + names_of k (get_or ns n blank)) ≡ count_at ns k + (times k hs' + names_of k nd)

pub put_counts : (ns : List Node) (n : ℕ) (nd : Node) (hs hs' : List ℕ) → n < length ns → Counts ns hs
    → ((k : ℕ) → hit n k ≡ 1 → count_at ns k ≡ count_at ns n → Balance ns n nd hs hs' k nd.count)
    → ((k : ℕ) → hit n k ≡ 0 → Balance ns n nd hs hs' k (count_at ns k))
    → Counts (set ns n nd) hs'
put_counts ns n nd hs hs' h counts at_n others k =
    let s = named_set k ns n nd h in
    ⊎_elim
    (λ q. omega (arith, s, counts k, ap (λ (x : Node). x.count) q.1, at_n k (hit_same n k (sym q.0)) (ap (λ (j : ℕ). count_at ns j) q.0)))
    (λ q. omega (arith, s, counts k, ap (λ (x : Node). x.count) q.1, others k (hit_other n k (λ e. q.0 (sym e)))))
    (set_cases ns n nd h k)

pub counts_like : (ns : List Node) (hs hs' : List ℕ) → ((k : ℕ) → times k hs ≡ times k hs') → Counts ns hs → Counts ns hs'
counts_like ns hs hs' e counts k = omega (arith, counts k, e k)

-- the nodes with another count at n
abbrev pub recount : List Node → ℕ → ℕ → List Node
recount ns n c = set ns n (with_count (get_or ns n blank) c)

-- a holder more
pub more_counts : (ns : List Node) (n : ℕ) (hs : List ℕ) → 0 < count_at ns n → Counts ns hs → Counts (recount ns n (count_at ns n + 1)) (n ∷ hs)
more_counts ns n hs u counts =
    let nd : Node = with_count (get_or ns n blank) (count_at ns n + 1) in
    put_counts ns n nd hs (n ∷ hs) (in_range ns n u) counts
    (λ k h e. omega (arith, names_used k (get_or ns n blank) u, names_used k nd (omega arith)))
    (λ k h. omega (arith, names_used k (get_or ns n blank) u, names_used k nd (omega arith)))

module _ (ns : List Node) (n : ℕ) (hs : List ℕ) (counts : Counts ns (n ∷ hs)) where
  pub owed_used : 0 < count_at ns n
  owed_used = omega (arith, counts n, times_here n hs)

  pub owed_in : n < length ns
  owed_in = in_range ns n owed_used

  -- a holder less, and not the last
  pub less_counts : (c : ℕ) → 0 < c → count_at ns n ≡ suc c → Counts (recount ns n c) hs
  less_counts c h e =
      let nd : Node = with_count (get_or ns n blank) c in
      put_counts ns n nd (n ∷ hs) hs owed_in counts
      (λ k q d. omega (arith, names_used k (get_or ns n blank) owed_used, names_used k nd h))
      (λ k q. omega (arith, names_used k (get_or ns n blank) owed_used, names_used k nd h))

  -- the last holder less: what the node names is now held in its place
  pub free_counts : count_at ns n ≡ 1 → Counts (set ns n free_node) (names (slots_at ns n) ++ hs)
  free_counts e =
      put_counts ns n free_node (n ∷ hs) (names (slots_at ns n) ++ hs) owed_in counts
      (λ k q d. omega (arith, times_append k (names (slots_at ns n)) hs, names_used k (get_or ns n blank) owed_used, names_free k free_node refl))
      (λ k q. omega (arith, times_append k (names (slots_at ns n)) hs, names_used k (get_or ns n blank) owed_used, names_free k free_node refl))

-- ---- heights
pub tallest_at : (ns : List Node) (ss : List (Option ℕ)) (c : ℕ) → 0 < times c (names ss) → height_at ns c ≤ tallest ns ss
tallest_at ns [] c q = absurd (omega arith)
tallest_at ns (None ∷ ss) c q = tallest_at ns ss c q
tallest_at ns (Some x ∷ ss) c q =
    ⊎_elim
    (λ (e : x ≡ c). omega (arith, ap (λ (j : ℕ). height_at ns j) e))
    (λ (e : x ≡ c → ⊥). omega (arith, tallest_at ns ss c (omega (arith, hit_other x c e))))
    (cases_eq x c)

pub tallest_same : (a b : List Node) (ss : List (Option ℕ)) → ((c : ℕ) → 0 < times c (names ss) → height_at b c ≡ height_at a c) → tallest b ss ≡ tallest a ss
tallest_same a b [] e = refl
tallest_same a b (None ∷ ss) e = tallest_same a b ss e
tallest_same a b (Some c ∷ ss) e = omega (arith, e c (times_here c (names ss)), tallest_same a b ss (λ d q. e d (omega arith)))

pub heights_falling : (ns : List Node) (hs : List ℕ) → Counts ns hs → Heights ns → Falling ns
heights_falling ns hs counts heights k c h =
    let u = names_use c (get_or ns k blank) h in
    omega (arith, heights k u, tallest_at ns (slots_at ns k) c (omega (arith, names_used c (get_or ns k blank) u)))

-- above the heights of all that are listed
abbrev pub above : List Node → List ℕ → ℕ
above ns [] = 0
above ns (c ∷ cs) = max (suc (height_at ns c)) (above ns cs)

pub above_tallest : (ns : List Node) (ss : List (Option ℕ)) → above ns (names ss) ≤ suc (tallest ns ss)
above_tallest ns [] = omega arith
above_tallest ns (None ∷ ss) = above_tallest ns ss
above_tallest ns (Some c ∷ ss) = omega (arith, above_tallest ns ss)

pub tallest_above : (ns : List Node) (ss : List (Option ℕ)) → tallest ns ss < max 1 (above ns (names ss))
tallest_above ns [] = omega arith
tallest_above ns (None ∷ ss) = tallest_above ns ss
tallest_above ns (Some c ∷ ss) = omega (arith, tallest_above ns ss)

pub above_lower : (a b : List Node) → ((k : ℕ) → height_at b k ≤ height_at a k) → (cs : List ℕ) → above b cs ≤ above a cs
above_lower a b e [] = omega arith
above_lower a b e (c ∷ cs) = omega (arith, e c, above_lower a b e cs)

pub above_below : (ns : List Node) (cs : List ℕ) (h : ℕ) → ((c : ℕ) → 0 < times c cs → height_at ns c < h) → above ns cs ≤ h
above_below ns [] h p = omega arith
above_below ns (c ∷ cs) h p = omega (arith, p c (times_here c cs), above_below ns cs h (λ d q. p d (omega arith)))

-- what stands before c is at most as high, and c is in the list
pub above_split : (ns : List Node) (xs rest : List ℕ) (c : ℕ) → (above ns xs ≤ above ns (xs ++ (c ∷ rest))) × (height_at ns c < above ns (xs ++ (c ∷ rest)))
above_split ns [] rest c = (omega arith, omega arith)
above_split ns (x ∷ xs) rest c = let r = above_split ns xs rest c in (omega arith, omega arith)

-- the slots of a node in use
pub above_slots : (ns : List Node) (n : ℕ) → Falling ns → 0 < count_at ns n → above ns (names (slots_at ns n)) ≤ height_at ns n
above_slots ns n f u = above_below ns (names (slots_at ns n)) (height_at ns n) (λ c h. f n c (omega (arith, names_used c (get_or ns n blank) u)))

-- ---- how high a count can be
pub names_most : (k : ℕ) (ss : List (Option ℕ)) → times k (names ss) ≤ length ss
names_most k [] = omega arith
names_most k (None ∷ ss) = omega (arith, names_most k ss)
names_most k (Some c ∷ ss) = omega (arith, names_most k ss, hit_most c k)

names_of_most : (k : ℕ) (nd : Node) → names_of k nd ≤ length nd.slots
names_of_most k nd =
    ⊎_elim
    (λ l. omega (arith, names_used k nd l, names_most k nd.slots))
    (λ l. omega (arith, names_free k nd (omega arith)))
    (cases_lt 0 nd.count)

pub named_most : (k : ℕ) (ns : List Node) → Eight ns → named k ns ≤ 8 * length ns
named_most k [] e = omega arith
named_most k (nd ∷ ns) e =
    omega (arith, names_of_most k nd, e 0 (omega arith), named_most k ns (λ j h. e (suc j) (omega arith)))

pub count_bound : (m : Memory) (hs : List ℕ) → Ordered m hs → (k : ℕ) → count_at m.nodes k ≤ length hs + 2048
count_bound m hs o k = omega (arith, o.counts k, times_most k hs, named_most k m.nodes o.eight, o.nodes_long)

-- ---- what is held is in use
pub reached_used : (ns : List Node) (hs : List ℕ) → Counts ns hs → (a k : ℕ) → 0 < times a hs → Reaches ns a k → 0 < count_at ns k
reached_used ns hs counts a k h here = omega (arith, counts a)
reached_used ns hs counts a k h (step {b} r c q) = named_used ns hs counts b c (reached_used ns hs counts a b h r) q

pub held_used : (ns : List Node) (hs : List ℕ) (k : ℕ) → Counts ns hs → Held ns hs k → 0 < count_at ns k
held_used ns hs k counts h = reached_used ns hs counts h.0 k h.1 h.2
