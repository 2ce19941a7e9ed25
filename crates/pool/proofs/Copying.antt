-- Slots retained, a node put in another's place, a node of its own for an array, and the copy of a node that is shared.
use Rattle.std.proofs.Common.{◌≡◌, ℕ, suc, ◌+◌, ◌-◌, ◌<◌, ◌≤◌, Bool, true, false, eqb, fold, ◌⊎◌, List, [], ◌∷◌, ◌++◌, length, get_or, set, Some, None, Ok, Err, Option, Result, sym, refl, ap, ◌∙◌, subst, inl, inr, ⊎_elim, arith}
use Rattle.std.proofs.lemmas.List.{length-append, length-set, get_or-set_same}
use Rattle.std.proofs.lemmas.Bool.{eqb-true, eqb-false}
use Rattle.pool.specs.declared.node.Node.{Node}
use Rattle.pool.specs.declared.node.PoolFault.{PoolFault}
use Rattle.pool.specs.declared.node.PoolFault.TheVariants.{Nodes}
use Rattle.pool.specs.Memory.{Memory, blank, node_at, count_at, slots_at, start_at, run_at, with_count, part, put_node}
use Rattle.pool.specs.Counts.{names, times, named, Counts, Heights, tallest, Reaches, here, step}
use Rattle.pool.specs.Order.{Within, Apart, Slotless, Freed, Cleared, Ordered, SameAt, Keeps}
use Rattle.pool.specs.Sharing.{recounted, retained, each_slot}
use Rattle.pool.specs.Finding.{lowest_free, LowestNode}
use Rattle.pool.specs.Slots.{owned, Crowded}
use Rattle.pool.proofs.Counted.{times_append, times_here, named_at, names_used, names_free, named_used, in_range, set_cases, put_counts, counts_like, recount, more_counts, owed_used, owed_in, less_counts, tallest_same}
use Rattle.pool.proofs.Naming.{names_long}
use Rattle.pool.proofs.Spared.{Spared, KeptAt, same, gone, spared_refl, spared_trans, spared_same, spared_ordered, recount_spared}
use Rattle.pool.proofs.Found.{lowest_free_is}

-- ---- another count at n
pub recount_cases : (ns : List Node) (n c : ℕ) → n < length ns → (k : ℕ) → ((k ≡ n) × (count_at (recount ns n c) k ≡ c)) ⊎ ((k ≡ n → ⊥) × (count_at (recount ns n c) k ≡ count_at ns k))
recount_cases ns n c h k =
    ⊎_elim
    (λ q. inl (q.0, ap (λ (x : Node). x.count) q.1))
    (λ q. inr (q.0, ap (λ (x : Node). x.count) q.1))
    (set_cases ns n (with_count (get_or ns n blank) c) h k)

-- all that the slots name is in use
abbrev pub Used : List Node → List (Option ℕ) → Type 0
Used ns ss = (c : ℕ) → 0 < times c (names ss) → 0 < count_at ns c

-- a holder more: no count falls, and each rises by at most 1
pub retained_more : (m : Memory) (n k : ℕ) → 0 < count_at m.nodes n → (count_at m.nodes k ≤ count_at (retained m n).nodes k) × (count_at (retained m n).nodes k ≤ count_at m.nodes k + 1)
retained_more m n k u =
    let c : ℕ = count_at m.nodes n + 1 in
    ⊎_elim
    (λ q. let e = ap (λ (j : ℕ). count_at m.nodes j) q.0 in (omega (arith, q.1, e), omega (arith, q.1, e)))
    (λ q. (omega (arith, q.1), omega (arith, q.1)))
    (recount_cases m.nodes n c (in_range m.nodes n u) k)

pub used_more : (m : Memory) (c : ℕ) (ss : List (Option ℕ)) → Used m.nodes (Some c ∷ ss) → Used (retained m c).nodes ss
used_more m c ss u d h = omega (arith, u d (omega arith), (retained_more m c d (u c (times_here c (names ss)))).0)

pub record AllRetained (m q : Memory) (ss : List (Option ℕ)) : Type 0 where
  pub spared : Spared m q
  pub counts : (hs : List ℕ) → Counts m.nodes hs → Counts q.nodes (names ss ++ hs)
  pub more : (k : ℕ) → count_at m.nodes k ≤ count_at q.nodes k

pub all_retained : (m : Memory) (ss : List (Option ℕ)) → Used m.nodes ss → AllRetained m (each_slot retained m ss) ss
all_retained m [] u = record { spared = spared_refl m; counts = λ hs s. s; more = λ k. omega arith }
all_retained m (None ∷ ss) u = let r = all_retained m ss u in record { spared = r.spared; counts = r.counts; more = r.more }
all_retained m (Some c ∷ ss) u =
    let v = u c (times_here c (names ss)) in
    let b : Memory = retained m c in
    let q : Memory = each_slot retained b ss in
    let r = all_retained b ss (used_more m c ss u) in
    record {
      spared = spared_trans m b (recount_spared m c (count_at m.nodes c + 1) v (omega arith)) q r.spared;
      counts = λ hs s.
          counts_like q.nodes (names ss ++ (c ∷ hs)) (c ∷ (names ss ++ hs))
          (λ k. omega (arith, times_append k (names ss) (c ∷ hs), times_append k (names ss) hs))
          (r.counts (c ∷ hs) (more_counts m.nodes c hs v s));
      more = λ k. omega (arith, r.more k, (retained_more m c k v).0);
    }

-- c is in use where xs, which stand before it, are retained, and its count has risen by at most 1 for each
retained_before : (m : Memory) (xs rest : List ℕ) (c : ℕ) → ((k : ℕ) → 0 < times k (xs ++ (c ∷ rest)) → 0 < count_at m.nodes k)
    → (0 < count_at (fold retained m xs).nodes c) × (count_at (fold retained m xs).nodes c ≤ count_at m.nodes c + length xs)
retained_before m [] rest c u = (u c (times_here c rest), omega arith)
retained_before m (x ∷ xs) rest c u =
    let v = u x (times_here x (xs ++ (c ∷ rest))) in
    let r = retained_before (retained m x) xs rest c (λ k h. omega (arith, u k (omega arith), (retained_more m x k v).0)) in
    (r.0, omega (arith, r.1, (retained_more m x c v).1))

pub retain_next : (m : Memory) (ss : List (Option ℕ)) → Used m.nodes ss → (xs rest : List ℕ) (c : ℕ) → names ss ≡ xs ++ (c ∷ rest) → (b : Memory) → b ≡ fold retained m xs
    → (0 < count_at b.nodes c) × (count_at b.nodes c < count_at m.nodes c + length ss)
retain_next m ss u xs rest c split b e =
    let r = retained_before m xs rest c (λ k h. u k (subst (λ (cs : List ℕ). 0 < times k cs) (sym split) h)) in
    let q = ap (λ (x : Memory). count_at x.nodes c) e in
    (omega (arith, q, r.0), omega (arith, q, r.1, names_long ss, ap length split, length-append xs (c ∷ rest)))

-- ---- nodes as they were, step by step
pub same_trans : (m q r : Memory) (k : ℕ) → SameAt m q k → SameAt q r k → SameAt m r k
same_trans m q r k s t =
    record {
      same_node = t.same_node ∙ ap (λ (x : Node). with_count x (count_at r.nodes k)) s.same_node;
      same_run = t.same_run ∙ s.same_run;
    }

-- what is reached from a node in use is in use
reach_used : (ns : List Node) (hs : List ℕ) → Counts ns hs → (a k : ℕ) → 0 < count_at ns a → Reaches ns a k → 0 < count_at ns k
reach_used ns hs counts a k u here = u
reach_used ns hs counts a k u (step {b} r c q) = named_used ns hs counts b c (reach_used ns hs counts a b u r) q

-- all but i is as it was: then so is what others hold, where no slot names i
module _ (m q : Memory) (i : ℕ) (hs : List ℕ) (counts : Counts m.nodes hs) (unnamed : named i m.nodes ≡ 0)
    (others : (k : ℕ) → 0 < count_at m.nodes k → (k ≡ i → ⊥) → SameAt m q k) where
  not_reached : (a k : ℕ) → 0 < count_at m.nodes a → (a ≡ i → ⊥) → Reaches m.nodes a k → k ≡ i → ⊥
  not_reached a k u ne here e = ne e
  not_reached a k u ne (step {b} r c h) e =
      let v = reach_used m.nodes hs counts a b u r in
      omega (arith, named_at c m.nodes b, names_used c (node_at m b) v, ap (λ (j : ℕ). named j m.nodes) e)

  pub others_keep : (gs : List ℕ) → ((k : ℕ) → 0 < times k gs → 0 < count_at m.nodes k) → times i gs ≡ 0 → Keeps m q gs
  others_keep gs used none k h =
      let a : ℕ = h.0 in
      let u = used a h.1 in
      let ne : a ≡ i → ⊥ = λ e. omega (arith, h.1, ap (λ (j : ℕ). times j gs) e) in
      others k (reach_used m.nodes hs counts a k u h.2) (not_reached a k u ne h.2)

-- ---- a node that nobody names, and that has no run, gets another in its place
pub record Settles (m : Memory) (n : ℕ) (nd : Node) : Type 0 where
  pub inside : n < length m.nodes
  pub unnamed : named n m.nodes ≡ 0
  pub bare : run_at m.nodes n ≡ 0
  pub no_run : nd.run ≡ 0
  pub start : nd.start ≤ length m.words
  pub one : nd.count ≡ 1
  pub eight : length nd.slots ≡ 8
  pub fresh : times n (names nd.slots) ≡ 0
  pub high : nd.height ≡ suc (tallest m.nodes nd.slots)
  pub low : nd.height ≤ 32

module _ (m : Memory) (n : ℕ) (nd : Node) (s : Settles m n nd) where
  at_place : (k : ℕ) → ((k ≡ n) × (get_or (set m.nodes n nd) k blank ≡ nd)) ⊎ ((k ≡ n → ⊥) × (get_or (set m.nodes n nd) k blank ≡ get_or m.nodes k blank))
  at_place = set_cases m.nodes n nd s.inside

  pub settled_others : (k : ℕ) → (k ≡ n → ⊥) → SameAt m (put_node m n nd) k
  settled_others k ne =
      ⊎_elim
      (λ q. absurd (ne q.0))
      (λ q. record {
        same_node = q.1 ∙ ap (λ (c : ℕ). with_count (node_at m k) c) (sym (ap (λ (x : Node). x.count) q.1));
        same_run = ap (λ (x : Node). part m.words x.start x.run) q.1;
      })
      (at_place k)

  as_tall : (ss : List (Option ℕ)) → times n (names ss) ≡ 0 → tallest (set m.nodes n nd) ss ≡ tallest m.nodes ss
  as_tall ss none =
      tallest_same m.nodes (set m.nodes n nd) ss
      (λ c h.
      ⊎_elim
      (λ q. absurd (omega (arith, h, none, ap (λ (j : ℕ). times j (names ss)) q.0)))
      (λ q. ap (λ (x : Node). x.height) q.1)
      (at_place c))

  settled_heights : Heights m.nodes → Heights (set m.nodes n nd)
  settled_heights heights k u =
      ⊎_elim
      (λ q.
      omega (
        arith,
        s.high,
        as_tall nd.slots s.fresh,
        ap (λ (x : Node). x.height) q.1,
        ap (λ (x : Node). tallest (set m.nodes n nd) x.slots) q.1,
      ))
      (λ q.
      let v : 0 < count_at m.nodes k = omega (arith, u, ap (λ (x : Node). x.count) q.1) in
      let none : times n (names (slots_at m.nodes k)) ≡ 0 = omega (arith, s.unnamed, named_at n m.nodes k, names_used n (node_at m k) v) in
      omega (
        arith,
        heights k v,
        as_tall (slots_at m.nodes k) none,
        ap (λ (x : Node). x.height) q.1,
        ap (λ (x : Node). tallest (set m.nodes n nd) x.slots) q.1,
      ))
      (at_place k)

  -- where a run starts and how long it is: n had none, and has none
  runs : (k : ℕ) → (run_at (set m.nodes n nd) k ≡ run_at m.nodes k) × (0 < run_at m.nodes k → start_at (set m.nodes n nd) k ≡ start_at m.nodes k)
  runs k =
      ⊎_elim
      (λ q.
      let r = ap (λ (j : ℕ). run_at m.nodes j) q.0 in
      (omega (arith, s.bare, s.no_run, r, ap (λ (x : Node). x.run) q.1), λ h. absurd (omega (arith, h, r, s.bare))))
      (λ q. (ap (λ (x : Node). x.run) q.1, λ h. ap (λ (x : Node). x.start) q.1))
      (at_place k)

  settled_within : Within m.nodes m.words → Within (set m.nodes n nd) m.words
  settled_within w k =
      ⊎_elim
      (λ q. omega (arith, s.start, s.no_run, ap (λ (x : Node). x.start) q.1, ap (λ (x : Node). x.run) q.1))
      (λ q. omega (arith, w k, ap (λ (x : Node). x.start) q.1, ap (λ (x : Node). x.run) q.1))
      (at_place k)

  settled_apart : Apart m.nodes → Apart (set m.nodes n nd)
  settled_apart p j k ne a b l =
      let x = runs j in
      let y = runs k in
      let u : 0 < run_at m.nodes j = omega (arith, a, x.0) in
      let v : 0 < run_at m.nodes k = omega (arith, b, y.0) in
      omega (arith, p j k ne u v (omega (arith, l, x.1 u, y.1 v)), x.0, x.1 u, y.1 v)

  settled_slotless : Slotless m.nodes → Slotless (set m.nodes n nd)
  settled_slotless p k c r =
      ⊎_elim
      (λ q. absurd (omega (arith, r, s.no_run, ap (λ (x : Node). x.run) q.1)))
      (λ q. ap (λ (x : Node). times c (names x.slots)) q.1 ∙ p k c (omega (arith, r, ap (λ (x : Node). x.run) q.1)))
      (at_place k)

  settled_freed : Freed m.nodes → Freed (set m.nodes n nd)
  settled_freed p k l z =
      ⊎_elim
      (λ q. absurd (omega (arith, z, s.one, ap (λ (x : Node). x.count) q.1)))
      (λ q. q.1 ∙ p k (omega (arith, l, length-set m.nodes n nd)) (omega (arith, z, ap (λ (x : Node). x.count) q.1)))
      (at_place k)

  settled_cleared : Cleared m.nodes m.words → Cleared (set m.nodes n nd) m.words
  settled_cleared p x none =
      p x (λ k a b.
      let r = runs k in
      let h : 0 < run_at m.nodes k = omega arith in
      none k (omega (arith, a, r.1 h)) (omega (arith, b, r.0, r.1 h)))

  pub settled_ordered : (old new : List ℕ) → Ordered m old → Counts (set m.nodes n nd) new → Ordered (put_node m n nd) new
  settled_ordered old new o counts =
      record {
        nodes_long = length-set m.nodes n nd ∙ o.nodes_long;
        words_long = o.words_long;
        counts = counts;
        heights = settled_heights o.heights;
        low = λ k. ⊎_elim (λ q. omega (arith, s.low, ap (λ (x : Node). x.height) q.1)) (λ q. omega (arith, o.low k, ap (λ (x : Node). x.height) q.1)) (at_place k);
        eight = λ k l.
            ⊎_elim
            (λ q. ap (λ (x : Node). length x.slots) q.1 ∙ s.eight)
            (λ q. ap (λ (x : Node). length x.slots) q.1 ∙ o.eight k (omega (arith, l, length-set m.nodes n nd)))
            (at_place k);
        within = settled_within o.within;
        apart = settled_apart o.apart;
        slotless = settled_slotless o.slotless;
        freed = settled_freed o.freed;
        cleared = settled_cleared o.cleared;
      }

-- ---- a node of its own for an array: what it owes, and what it leaves once its children are retained
pub record Fresh (m : Memory) (nd : Node) : Type 0 where
  pub used : Used m.nodes nd.slots
  pub no_run : nd.run ≡ 0
  pub start : nd.start ≤ length m.words
  pub one : nd.count ≡ 1
  pub eight : length nd.slots ≡ 8
  pub high : nd.height ≡ suc (tallest m.nodes nd.slots)
  pub low : nd.height ≤ 32

pub record Joined (m q : Memory) (nd : Node) (hs : List ℕ) (i : ℕ) : Type 0 where
  pub ordered : Ordered q (i ∷ hs)
  pub node : node_at q i ≡ nd
  pub others : (k : ℕ) → 0 < count_at m.nodes k → SameAt m q k

abbrev pub joined : Memory → Node → ℕ → Memory
joined m nd i = put_node (each_slot retained m nd.slots) i nd

still_free : (x y : Node) → KeptAt x y → x.count ≡ 0 → y.count ≡ 0
still_free x y (same e u v) z = v z
still_free x y (gone e) z = ap (λ (nd : Node). nd.count) e

module _ (m : Memory) (hs : List ℕ) (nd : Node) (o : Ordered m hs) (w : Fresh m nd) where
  all : AllRetained m (each_slot retained m nd.slots) nd.slots
  all = all_retained m nd.slots w.used

  spread_ordered : Ordered (each_slot retained m nd.slots) (names nd.slots ++ hs)
  spread_ordered = spared_ordered m (each_slot retained m nd.slots) all.spared hs (names nd.slots ++ hs) o (all.counts hs o.counts)

  -- what was in use still is, as it was
  spread_same : (k : ℕ) → 0 < count_at m.nodes k → SameAt m (each_slot retained m nd.slots) k
  spread_same k u = spared_same m (each_slot retained m nd.slots) all.spared o.apart k (omega (arith, u, all.more k))

  module _ (i : ℕ) (place : i < length m.nodes) (free : count_at m.nodes i ≡ 0) where
    spread_free : count_at (each_slot retained m nd.slots).nodes i ≡ 0
    spread_free = still_free (node_at m i) (node_at (each_slot retained m nd.slots) i) (all.spared.kept i) free

    spread_in : i < length (each_slot retained m nd.slots).nodes
    spread_in = omega (arith, place, all.spared.nodes_long)

    join_settles : Settles (each_slot retained m nd.slots) i nd
    join_settles =
        let q : Memory = each_slot retained m nd.slots in
        let c = spread_ordered.counts i in
        let tall : tallest q.nodes nd.slots ≡ tallest m.nodes nd.slots
        = tallest_same m.nodes q.nodes nd.slots (λ k h. ap (λ (x : Node). x.height) (spread_same k (w.used k h)).same_node) in
        record {
          inside = spread_in;
          unnamed = omega (arith, c, spread_free);
          bare = ap (λ (x : Node). x.run) (spread_ordered.freed i spread_in spread_free);
          no_run = w.no_run;
          start = omega (arith, w.start, all.spared.words_long);
          one = w.one;
          eight = w.eight;
          fresh = omega (arith, c, spread_free, times_append i (names nd.slots) hs);
          high = omega (arith, tall, w.high);
          low = w.low;
        }

    join_counts : Counts (joined m nd i).nodes (i ∷ hs)
    join_counts =
        let ss : List (Option ℕ) = nd.slots in
        let ns : List Node = (each_slot retained m ss).nodes in
        put_counts ns i nd (names ss ++ hs) (i ∷ hs) spread_in spread_ordered.counts
        (λ k h e. omega (arith, w.one, spread_free, times_append k (names ss) hs, names_free k (get_or ns i blank) spread_free, names_used k nd (omega (arith, w.one))))
        (λ k h. omega (arith, times_append k (names ss) hs, names_free k (get_or ns i blank) spread_free, names_used k nd (omega (arith, w.one))))

    pub joined_is : Joined m (joined m nd i) nd hs i
    joined_is =
        let q : Memory = each_slot retained m nd.slots in
        record {
          ordered = settled_ordered q i nd join_settles (names nd.slots ++ hs) (i ∷ hs) spread_ordered join_counts;
          node = get_or-set_same q.nodes i nd blank spread_in;
          others = λ k u.
              same_trans m q (joined m nd i) k (spread_same k u)
              (settled_others q i nd join_settles k (λ e. omega (arith, u, free, ap (λ (j : ℕ). count_at m.nodes j) e)));
        }

-- ---- the node for a holder who is to change it
pub record Owned (m q : Memory) (p : ℕ) (hs : List ℕ) (i : ℕ) : Type 0 where
  pub ordered : Ordered q (i ∷ hs)
  pub node : node_at q i ≡ with_count (node_at m p) 1
  pub others : (k : ℕ) → 0 < count_at m.nodes k → (k ≡ i → ⊥) → SameAt m q k
  pub unnamed : named i m.nodes ≡ 0
  pub unheld : times i hs ≡ 0
  pub own : count_at m.nodes p ≡ 1 → i ≡ p
  pub copy : 1 < count_at m.nodes p → LowestNode m.nodes (Some i)

abbrev pub OwnedAs : Memory → ℕ → List ℕ → Result ℕ PoolFault → Memory → Type 0
OwnedAs m p hs (Ok i) q = Owned m q p hs i
OwnedAs m p hs (Err e) q = (e ≡ Nodes) × (q ≡ m) × Crowded m p

module _ (m : Memory) (p : ℕ) (hs : List ℕ) (o : Ordered m (p ∷ hs)) where
  p_used : 0 < count_at m.nodes p
  p_used = owed_used m.nodes p hs o.counts

  -- p's slots name what is in use
  pub slots_used : Used m.nodes (slots_at m.nodes p)
  slots_used c h = named_used m.nodes (p ∷ hs) o.counts p c p_used h

  alone : count_at m.nodes p ≡ 1 → Owned m m p hs p
  alone e =
      record {
        ordered = o;
        node = ap (λ (c : ℕ). with_count (node_at m p) c) e;
        others = λ k u ne. record { same_node = refl; same_run = refl };
        unnamed = omega (arith, e, o.counts p, times_here p hs);
        unheld = omega (arith, e, o.counts p, times_here p []);
        own = λ h. refl;
        copy = λ h. absurd (omega arith);
      }

-- p without the holder, its slots retained
abbrev pub spread : Memory → ℕ → Memory
spread m p = each_slot retained (recounted m p (count_at m.nodes p - 1)) (slots_at m.nodes p)

abbrev pub copied : Memory → ℕ → ℕ → Memory
copied m p i = joined (recounted m p (count_at m.nodes p - 1)) (with_count (node_at m p) 1) i

-- with a holder less and others left, what was in use still is, and so is what p's slots name
less_used : (m : Memory) (p : ℕ) (hs : List ℕ) → Counts m.nodes (p ∷ hs) → 1 < count_at m.nodes p → (k : ℕ) → 0 < count_at m.nodes k → 0 < count_at (recounted m p (count_at m.nodes p - 1)).nodes k
less_used m p hs counts shared k u =
    ⊎_elim
    (λ q. omega (arith, q.1))
    (λ q. omega (arith, q.1, u))
    (recount_cases m.nodes p (count_at m.nodes p - 1) (owed_in m.nodes p hs counts) k)

pub less_slots : (m : Memory) (p : ℕ) (hs : List ℕ) → Counts m.nodes (p ∷ hs) → 1 < count_at m.nodes p → Used (recounted m p (count_at m.nodes p - 1)).nodes (slots_at m.nodes p)
less_slots m p hs counts shared c h =
    less_used m p hs counts shared c (named_used m.nodes (p ∷ hs) counts p c (owed_used m.nodes p hs counts) h)

pub spread_long : (m : Memory) (p : ℕ) (hs : List ℕ) → Counts m.nodes (p ∷ hs) → 1 < count_at m.nodes p → length (spread m p).nodes ≡ length m.nodes
spread_long m p hs counts shared =
    (all_retained (recounted m p (count_at m.nodes p - 1)) (slots_at m.nodes p) (less_slots m p hs counts shared)).spared.nodes_long
    ∙ length-set m.nodes p (with_count (node_at m p) (count_at m.nodes p - 1))

module _ (m : Memory) (p : ℕ) (hs : List ℕ) (o : Ordered m (p ∷ hs)) (shared : 1 < count_at m.nodes p) where
  less_spared : Spared m (recounted m p (count_at m.nodes p - 1))
  less_spared = recount_spared m p (count_at m.nodes p - 1) (omega arith) (omega arith)

  less_ordered : Ordered (recounted m p (count_at m.nodes p - 1)) hs
  less_ordered =
      spared_ordered m (recounted m p (count_at m.nodes p - 1)) less_spared (p ∷ hs) hs o
      (less_counts m.nodes p hs o.counts (count_at m.nodes p - 1) (omega arith) (omega arith))

  less_same : (k : ℕ) → 0 < count_at m.nodes k → SameAt m (recounted m p (count_at m.nodes p - 1)) k
  less_same k u = spared_same m (recounted m p (count_at m.nodes p - 1)) less_spared o.apart k (less_used m p hs o.counts shared k u)

  module _ (bare : run_at m.nodes p ≡ 0) where
    copy_fresh : Fresh (recounted m p (count_at m.nodes p - 1)) (with_count (node_at m p) 1)
    copy_fresh =
        let ss : List (Option ℕ) = slots_at m.nodes p in
        let tall : tallest (recounted m p (count_at m.nodes p - 1)).nodes ss ≡ tallest m.nodes ss
        = tallest_same m.nodes (recounted m p (count_at m.nodes p - 1)).nodes ss (λ k h. ap (λ (x : Node). x.height) (less_same k (slots_used m p hs o k h)).same_node) in
        record {
          used = less_slots m p hs o.counts shared;
          no_run = bare;
          start = omega (arith, o.within p);
          one = refl;
          eight = o.eight p (owed_in m.nodes p hs o.counts);
          high = omega (arith, tall, o.heights p (omega arith));
          low = o.low p;
        }

    pub copy_owned : (i : ℕ) → LowestNode m.nodes (Some i) → Owned m (copied m p i) p hs i
    copy_owned i lowest =
        let b : Memory = recounted m p (count_at m.nodes p - 1) in
        let free : count_at m.nodes i ≡ 0 = lowest.1 in
        let w = joined_is b hs (with_count (node_at m p) 1) less_ordered copy_fresh i (omega (arith, lowest.0, less_spared.nodes_long))
        (still_free (node_at m i) (node_at b i) (less_spared.kept i) free) in
        record {
          ordered = w.ordered;
          node = w.node;
          others = λ k u ne. same_trans m b (copied m p i) k (less_same k u) (w.others k (less_used m p hs o.counts shared k u));
          unnamed = omega (arith, o.counts i, free);
          unheld = omega (arith, o.counts i, free);
          own = λ e. absurd (omega arith);
          copy = λ h. lowest;
        }

-- ---- what `owned` gives
owned_by : Memory → ℕ → Bool → Option ℕ → Result ℕ PoolFault × Memory
owned_by m p b f =
    elim b [ true ↦ (Ok p, m) | false ↦ elim f [ None ↦ (Err Nodes, m) | Some i ↦ (Ok i, copied m p i) ] ]

pub owned_is : (m : Memory) (p : ℕ) (hs : List ℕ) → Ordered m (p ∷ hs) → run_at m.nodes p ≡ 0 → OwnedAs m p hs (owned m p).0 (owned m p).1
unfolding owned_by
owned_is m p hs o bare = go (eqb (count_at m.nodes p) 1) refl (lowest_free m.nodes 0) (lowest_free_is m.nodes)
  where
    many : eqb (count_at m.nodes p) 1 ≡ false → 1 < count_at m.nodes p
    many e = let u = owed_used m.nodes p hs o.counts in let ne = eqb-false (count_at m.nodes p) 1 e in omega arith

    go : (b : Bool) → eqb (count_at m.nodes p) 1 ≡ b → (f : Option ℕ) → LowestNode m.nodes f → OwnedAs m p hs (owned_by m p b f).0 (owned_by m p b f).1
    go true e f h = alone m p hs o (eqb-true (count_at m.nodes p) 1 e)
    go false e None h = (refl, refl, record { shared = many e; full = h })
    go false e (Some i) h = copy_owned m p hs o (many e) bare i h
