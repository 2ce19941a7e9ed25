-- A slot taken, and a slot put: what each leaves to all who hold.
use Rattle.std.proofs.Common.{◌≡◌, ℕ, zero, suc, ◌+◌, ◌<◌, ◌≤◌, Bool, true, false, ltb, List, [], ◌∷◌, length, get_or, set, Some, None, Ok, Err, Option, Result, unwrap_or, sym, refl, ap, ◌∙◌, subst, ap₂, ⊎_elim, arith}
use Rattle.std.proofs.lemmas.List.{length-set, get_or-set_same}
use Rattle.std.proofs.lemmas.Bool.{cases_lt, le-ltb, ltb-true, ltb-false}
use Rattle.pool.specs.declared.node.Node.{Node}
use Rattle.pool.specs.declared.node.PoolFault.{PoolFault}
use Rattle.pool.specs.declared.node.PoolFault.TheVariants.{Height}
use Rattle.pool.specs.Memory.{Memory, blank, node_at, count_at, height_at, slots_at, run_at, with_slots, put_node}
use Rattle.pool.specs.Counts.{name, names, hit, times, names_of, named, Counts, tallest}
use Rattle.pool.specs.Order.{Ordered, SameAt, Keeps}
use Rattle.pool.specs.Slots.{owned, reslotted, slot_at, slot_taken, slot_put, Stands, SlotTaken, Taken, SlotPut, PutRefused, Put}
use Rattle.pool.proofs.Counted.{hit_same, times_here, named_at, names_used, in_range, put_counts, owed_used, owed_in, tallest_at, tallest_same, count_bound}
use Rattle.pool.proofs.Copying.{Settles, settled_ordered, settled_others, same_trans, others_keep, Owned, OwnedAs, slots_used, owned_is}

-- ---- what slots name with one of them set
pub names_set : (k : ℕ) (ss : List (Option ℕ)) (j : ℕ) (s : Option ℕ) → j < length ss → times k (names (set ss j s)) + times k (name (get_or ss j None)) ≡ times k (names ss) + times k (name s)
names_set k [] j s h = omega arith
names_set k (None ∷ ss) zero None h = omega arith
names_set k (None ∷ ss) zero (Some d) h = omega arith
names_set k (Some c ∷ ss) zero None h = omega arith
names_set k (Some c ∷ ss) zero (Some d) h = omega arith
names_set k (None ∷ ss) (suc j) s h = omega (arith, names_set k ss j s (omega arith))
names_set k (Some c ∷ ss) (suc j) s h = omega (arith, names_set k ss j s (omega arith))

tallest_below : (ns : List Node) (ss : List (Option ℕ)) (h : ℕ) → ((c : ℕ) → 0 < times c (names ss) → height_at ns c ≤ h) → tallest ns ss ≤ h
tallest_below ns [] h p = omega arith
tallest_below ns (None ∷ ss) h p = tallest_below ns ss h p
tallest_below ns (Some c ∷ ss) h p = omega (arith, p c (times_here c (names ss)), tallest_below ns ss h (λ d q. p d (omega arith)))

-- ---- the node that the caller owns gets other slots
module _ (m q : Memory) (p : ℕ) (hs : List ℕ) (i : ℕ) (o : Ordered m (p ∷ hs)) (bare : run_at m.nodes p ≡ 0) (w : Owned m q p hs i)
    (new : List ℕ) (ss : List (Option ℕ)) (long : length ss ≡ 8)
    (inside : (k : ℕ) → 0 < times k (names ss) → (0 < count_at m.nodes k) × (k ≡ i → ⊥))
    (low : tallest m.nodes ss ≤ 31)
    (balance : (k : ℕ) → times k new + times k (names ss) ≡ times k (i ∷ hs) + times k (names (slots_at m.nodes p))) where
  one : count_at q.nodes i ≡ 1
  one = ap (λ (x : Node). x.count) w.node

  pub as_tall : tallest q.nodes ss ≡ tallest m.nodes ss
  as_tall =
      tallest_same m.nodes q.nodes ss
      (λ c h. let u = inside c h in ap (λ (x : Node). x.height) (w.others c u.0 u.1).same_node)

  pub reslot_settles : Settles q i (with_slots (node_at q i) ss (suc (tallest q.nodes ss)))
  reslot_settles =
      let run : run_at q.nodes i ≡ 0 = ap (λ (x : Node). x.run) w.node ∙ bare in
      record {
        inside = in_range q.nodes i (omega (arith, one));
        unnamed = omega (arith, one, w.ordered.counts i, times_here i hs);
        bare = run;
        no_run = run;
        start = omega (arith, w.ordered.within i);
        one = one;
        eight = long;
        fresh = ⊎_elim (λ h. absurd ((inside i h).1 refl)) (λ h. omega arith) (cases_lt 0 (times i (names ss)));
        high = refl;
        low = omega (arith, as_tall, low);
      }

  reslot_counts : Counts (reslotted q i ss).nodes new
  reslot_counts =
      let nd : Node = with_slots (node_at q i) ss (suc (tallest q.nodes ss)) in
      let facts : (k : ℕ) → (names_of k (node_at q i) ≡ times k (names (slots_at m.nodes p))) × (names_of k nd ≡ times k (names ss))
      = λ k. (
        names_used k (node_at q i) (omega (arith, one)) ∙ ap (λ (x : Node). times k (names x.slots)) w.node,
        names_used k nd (omega (arith, one)),
      ) in
      put_counts q.nodes i nd (i ∷ hs) new (in_range q.nodes i (omega (arith, one))) w.ordered.counts
      (λ k h e. omega (arith, facts k, balance k, e))
      (λ k h. omega (arith, facts k, balance k))

  pub reslot_ordered : Ordered (reslotted q i ss) new
  reslot_ordered = settled_ordered q i (with_slots (node_at q i) ss (suc (tallest q.nodes ss))) reslot_settles (i ∷ hs) new w.ordered reslot_counts

  reslot_others : (k : ℕ) → 0 < count_at m.nodes k → (k ≡ i → ⊥) → SameAt m (reslotted q i ss) k
  reslot_others k u ne =
      same_trans m q (reslotted q i ss) k (w.others k u ne) (settled_others q i (with_slots (node_at q i) ss (suc (tallest q.nodes ss))) reslot_settles k ne)

  pub reslot_keeps : (gs : List ℕ) → ((k : ℕ) → 0 < times k gs → 0 < count_at m.nodes k) → times i gs ≡ 0 → Keeps m (reslotted q i ss) gs
  reslot_keeps = others_keep m (reslotted q i ss) i (p ∷ hs) o.counts w.unnamed reslot_others

  pub reslot_stands : Stands m (reslotted q i ss) p ss i
  reslot_stands =
      let u = owed_used m.nodes p hs o.counts in
      record {
        node =
            get_or-set_same q.nodes i (with_slots (node_at q i) ss (suc (tallest q.nodes ss))) blank reslot_settles.inside
            ∙ ap₂ (λ (x : Node) (h : ℕ). with_slots x ss (suc h)) w.node as_tall;
        own = w.own;
        copy = w.copy;
        others = reslot_others;
        under = reslot_keeps (names (slots_at m.nodes p)) (slots_used m p hs o) (omega (arith, w.unnamed, named_at i m.nodes p, names_used i (node_at m p) u));
      }

-- ---- a slot taken
module _ (m : Memory) (p j c : ℕ) (hs : List ℕ) (o : Ordered m (p ∷ hs)) (small : j < 8) (present : slot_at m p j ≡ Some c) where
  eight : length (slots_at m.nodes p) ≡ 8
  eight = o.eight p (owed_in m.nodes p hs o.counts)

  less : (k : ℕ) → times k (names (set (slots_at m.nodes p) j None)) + hit c k ≡ times k (names (slots_at m.nodes p))
  less k = omega (arith, names_set k (slots_at m.nodes p) j None (omega (arith, eight)), ap (λ (s : Option ℕ). times k (name s)) present)

  pub present_named : 0 < times c (names (slots_at m.nodes p))
  present_named = omega (arith, less c, hit_same c c refl)

  -- a node with a slot has no run
  pub present_bare : run_at m.nodes p ≡ 0
  present_bare =
      ⊎_elim (λ h. absurd (omega (arith, o.slotless p c h, present_named))) (λ h. omega arith) (cases_lt 0 (run_at m.nodes p))

  pub taken_low : tallest m.nodes (set (slots_at m.nodes p) j None) ≤ 31
  taken_low =
      tallest_below m.nodes (set (slots_at m.nodes p) j None) 31
      (λ d h.
      omega (
        arith,
        tallest_at m.nodes (slots_at m.nodes p) d (omega (arith, h, less d)),
        o.heights p (owed_used m.nodes p hs o.counts),
        o.low p,
      ))

  module _ (q : Memory) (i : ℕ) (w : Owned m q p hs i) where
    taken_inside : (k : ℕ) → 0 < times k (names (set (slots_at m.nodes p) j None)) → (0 < count_at m.nodes k) × (k ≡ i → ⊥)
    taken_inside k h =
        let u = owed_used m.nodes p hs o.counts in
        let n : 0 < times k (names (slots_at m.nodes p)) = omega (arith, less k, h) in (
          slots_used m p hs o k n,
          λ e. omega (arith, n, w.unnamed, named_at k m.nodes p, names_used k (node_at m p) u, ap (λ (x : ℕ). named x m.nodes) e),
        )

    pub taken_settles : Settles q i (with_slots (node_at q i) (set (slots_at m.nodes p) j None) (suc (tallest q.nodes (set (slots_at m.nodes p) j None))))
    taken_settles =
        reslot_settles m q p hs i o present_bare w (i ∷ (c ∷ hs)) (set (slots_at m.nodes p) j None) (length-set (slots_at m.nodes p) j None ∙ eight)
        taken_inside taken_low (λ k. omega (arith, less k))

    taken_slot : SlotTaken m (reslotted q i (set (slots_at m.nodes p) j None)) p j hs i c
    taken_slot =
        let ss : List (Option ℕ) = set (slots_at m.nodes p) j None in
        let new : List ℕ = i ∷ (c ∷ hs) in
        let long : length ss ≡ 8 = length-set (slots_at m.nodes p) j None ∙ eight in
        let balance : (k : ℕ) → times k new + times k (names ss) ≡ times k (i ∷ hs) + times k (names (slots_at m.nodes p)) = λ k. omega (arith, less k) in
        record {
          child = present;
          ordered = reslot_ordered m q p hs i o present_bare w new ss long taken_inside taken_low balance;
          keeps = reslot_keeps m q p hs i o present_bare w new ss long taken_inside taken_low balance hs (λ k h. omega (arith, o.counts k)) w.unheld;
          stands = reslot_stands m q p hs i o present_bare w new ss long taken_inside taken_low balance;
        }

taken_by : Memory → ℕ → ℕ → Result ℕ PoolFault → Memory → Result (ℕ × ℕ) PoolFault × Memory
taken_by m p j r q =
    elim r [
      | Err e ↦ (Err e, q)
      | Ok i ↦ (Ok (i, unwrap_or (slot_at m p j) 0), reslotted q i (set (slots_at q.nodes i) j None))
    ]

pub slot_taken_is : (m : Memory) (p j c : ℕ) (hs : List ℕ) → Ordered m (p ∷ hs) → j < 8 → slot_at m p j ≡ Some c → Taken m (slot_taken m p j).1 p j hs (slot_taken m p j).0
unfolding taken_by
slot_taken_is m p j c hs o small present = go (owned m p).0 (owned m p).1 (owned_is m p hs o (present_bare m p j c hs o small present))
  where
    go : (r : Result ℕ PoolFault) (q : Memory) → OwnedAs m p hs r q → Taken m (taken_by m p j r q).1 p j hs (taken_by m p j r q).0
    go (Err e) q h = h
    go (Ok i) q w =
        let slots : slots_at q.nodes i ≡ slots_at m.nodes p = ap (λ (x : Node). x.slots) w.node in
        let child : unwrap_or (slot_at m p j) 0 ≡ c = ap (λ (s : Option ℕ). unwrap_or s 0) present in
        subst (λ (ss : List (Option ℕ)). SlotTaken m (reslotted q i (set ss j None)) p j hs i (unwrap_or (slot_at m p j) 0)) (sym slots)
        (subst (λ (x : ℕ). SlotTaken m (reslotted q i (set (slots_at m.nodes p) j None)) p j hs i x) (sym child)
        (taken_slot m p j c hs o small present q i w))

-- ---- a slot put
module _ (m : Memory) (p j c : ℕ) (hs : List ℕ) (o : Ordered m (p ∷ (c ∷ hs))) (small : j < 8) (absent : slot_at m p j ≡ None) where
  eight_put : length (slots_at m.nodes p) ≡ 8
  eight_put = o.eight p (owed_in m.nodes p (c ∷ hs) o.counts)

  more : (k : ℕ) → times k (names (set (slots_at m.nodes p) j (Some c))) ≡ times k (names (slots_at m.nodes p)) + hit c k
  more k = omega (arith, names_set k (slots_at m.nodes p) j (Some c) (omega (arith, eight_put)), ap (λ (s : Option ℕ). times k (name s)) absent)

  -- what the slots name then is in use
  pub put_used : (k : ℕ) → 0 < times k (names (set (slots_at m.nodes p) j (Some c))) → 0 < count_at m.nodes k
  put_used k h =
      ⊎_elim
      (λ n. slots_used m p (c ∷ hs) o k n)
      (λ n. omega (arith, more k, o.counts k))
      (cases_lt 0 (times k (names (slots_at m.nodes p))))

  module _ (bare : run_at m.nodes p ≡ 0) (low : tallest m.nodes (set (slots_at m.nodes p) j (Some c)) ≤ 31) (q : Memory) (i : ℕ) (w : Owned m q p (c ∷ hs) i) where
    put_inside : (k : ℕ) → 0 < times k (names (set (slots_at m.nodes p) j (Some c))) → (0 < count_at m.nodes k) × (k ≡ i → ⊥)
    put_inside k h =
        let u = owed_used m.nodes p (c ∷ hs) o.counts in (
          put_used k h,
          λ e.
              omega (
                arith,
                h,
                more k,
                w.unnamed,
                w.unheld,
                named_at k m.nodes p,
                names_used k (node_at m p) u,
                ap (λ (x : ℕ). named x m.nodes) e,
                ap (λ (x : ℕ). hit c x) e,
              ),
        )

    put_balance : (k : ℕ) → times k (i ∷ hs) + times k (names (set (slots_at m.nodes p) j (Some c))) ≡ times k (i ∷ (c ∷ hs)) + times k (names (slots_at m.nodes p))
    put_balance k = omega (arith, more k)

    put_slot : SlotPut m (reslotted q i (set (slots_at m.nodes p) j (Some c))) p j c hs i
    put_slot =
        let ss : List (Option ℕ) = set (slots_at m.nodes p) j (Some c) in
        let long : length ss ≡ 8 = length-set (slots_at m.nodes p) j (Some c) ∙ eight_put in
        record {
          ordered = reslot_ordered m q p (c ∷ hs) i o bare w (i ∷ hs) ss long put_inside low put_balance;
          keeps = reslot_keeps m q p (c ∷ hs) i o bare w (i ∷ hs) ss long put_inside low put_balance (c ∷ hs) (λ k h. omega (arith, o.counts k)) w.unheld;
          stands = reslot_stands m q p (c ∷ hs) i o bare w (i ∷ hs) ss long put_inside low put_balance;
          height = omega (arith, low);
        }

    -- the height that was found before the copy is that after it
    pub put_tall : tallest q.nodes (set (slots_at m.nodes p) j (Some c)) ≡ tallest m.nodes (set (slots_at m.nodes p) j (Some c))
    put_tall =
        as_tall m q p (c ∷ hs) i o bare w (i ∷ hs) (set (slots_at m.nodes p) j (Some c)) (length-set (slots_at m.nodes p) j (Some c) ∙ eight_put)
        put_inside low put_balance

put_by : ℕ → ℕ → Result ℕ PoolFault → Memory → Result ℕ PoolFault × Memory
put_by j c r q = elim r [ Err e ↦ (Err e, q) | Ok i ↦ (Ok i, reslotted q i (set (slots_at q.nodes i) j (Some c))) ]

put_if : Memory → ℕ → ℕ → ℕ → Bool → Result ℕ PoolFault × Memory
put_if m p j c b = elim b [ true ↦ (Err Height, m) | false ↦ put_by j c (owned m p).0 (owned m p).1 ]

pub slot_put_is : (m : Memory) (p j c : ℕ) (hs : List ℕ) → Ordered m (p ∷ (c ∷ hs)) → j < 8 → slot_at m p j ≡ None → run_at m.nodes p ≡ 0 → Put m (slot_put m p j c).1 p j c hs (slot_put m p j c).0
unfolding put_by put_if
slot_put_is m p j c hs o small absent bare = test (ltb 31 tall) refl
  where
    tall : ℕ
    tall = tallest m.nodes (set (slots_at m.nodes p) j (Some c))

    go : tall ≤ 31 → (r : Result ℕ PoolFault) (q : Memory) → OwnedAs m p (c ∷ hs) r q → Put m (put_by j c r q).1 p j c hs (put_by j c r q).0
    go low (Err e) q h = (h.1, subst (λ (x : PoolFault). PutRefused m p j c x) (sym h.0) (omega (arith, low), h.2))
    go low (Ok i) q w =
        let slots : slots_at q.nodes i ≡ slots_at m.nodes p = ap (λ (x : Node). x.slots) w.node in
        subst (λ (ss : List (Option ℕ)). SlotPut m (reslotted q i (set ss j (Some c))) p j c hs i) (sym slots) (put_slot m p j c hs o small absent bare low q i w)

    test : (b : Bool) → ltb 31 tall ≡ b → Put m (put_if m p j c b).1 p j c hs (put_if m p j c b).0
    test true e = (refl, omega (arith, ltb-true 31 tall e))
    test false e = go (ltb-false 31 tall e) (owned m p).0 (owned m p).1 (owned_is m p (c ∷ hs) o bare)

-- ---- the code: r and q are what `own` gave
pub code_room : (m : Memory) (hs : List ℕ) → Ordered m hs → length hs ≤ 4098 → (k : ℕ) → count_at m.nodes k + 8 < 65536
code_room m hs o l k = omega (arith, count_bound m hs o k)

own_gave : (m : Memory) (p : ℕ) (hs : List ℕ) → Ordered m (p ∷ hs) → run_at m.nodes p ≡ 0 → (r : Result ℕ PoolFault) (q : Memory) → (r, q) ≡ owned m p → (i : ℕ) → r ≡ Ok i → Owned m q p hs i
own_gave m p hs o bare r q e i is =
    let a : OwnedAs m p hs r q = subst (λ (x : Result ℕ PoolFault × Memory). OwnedAs m p hs x.0 x.1) (sym e) (owned_is m p hs o bare) in
    subst (λ (x : Result ℕ PoolFault). OwnedAs m p hs x q) is a

owned_in : (m q : Memory) (p : ℕ) (hs : List ℕ) (i : ℕ) → Owned m q p hs i → i < length q.nodes
owned_in m q p hs i w = in_range q.nodes i (omega (arith, ap (λ (x : Node). x.count) w.node))

pub code_taken_err : (m : Memory) (p j : ℕ) (r : Result ℕ PoolFault) (q : Memory) → (r, q) ≡ owned m p → (x : PoolFault) → r ≡ Err x → slot_taken m p j ≡ (Err x, q)
unfolding taken_by
code_taken_err m p j r q e x is =
    ap (λ (o : Result ℕ PoolFault × Memory). taken_by m p j o.0 o.1) (sym e) ∙ ap (λ (s : Result ℕ PoolFault). taken_by m p j s q) is

pub taken_change : (m : Memory) (p j c : ℕ) → j < 8 → slot_at m p j ≡ Some c → (r : Result (ℕ × ℕ) PoolFault) (q : Memory) → (r, q) ≡ slot_taken m p j → (hs : List ℕ) → Ordered m (p ∷ hs) → Taken m q p j hs r
taken_change m p j c small present r q e hs o =
    subst (λ (x : Result (ℕ × ℕ) PoolFault × Memory). Taken m x.1 p j hs x.0) (sym e) (slot_taken_is m p j c hs o small present)

module _ (m : Memory) (p j c : ℕ) (hs : List ℕ) (o : Ordered m (p ∷ hs)) (small : j < 8) (present : slot_at m p j ≡ Some c)
    (r : Result ℕ PoolFault) (q : Memory) (e : (r, q) ≡ owned m p) (i : ℕ) (is : r ≡ Ok i) where
  take_own : Owned m q p hs i
  take_own = own_gave m p hs o (present_bare m p j c hs o small present) r q e i is

  take_slots : slots_at q.nodes i ≡ slots_at m.nodes p
  take_slots = ap (λ (x : Node). x.slots) take_own.node

  pub code_take_in : i < length q.nodes
  code_take_in = owned_in m q p hs i take_own

  pub code_take_named : (k : ℕ) → 0 < times k (names (set (slots_at q.nodes i) j None)) → k < length q.nodes
  code_take_named k h =
      let n : 0 < times k (names (set (slots_at m.nodes p) j None)) = subst (λ (ss : List (Option ℕ)). 0 < times k (names (set ss j None))) take_slots h in
      let u = taken_inside m p j c hs o small present q i take_own k n in
      omega (arith, in_range m.nodes k u.0, o.nodes_long, take_own.ordered.nodes_long)

  pub code_take_low : tallest q.nodes (set (slots_at q.nodes i) j None) ≤ 31
  code_take_low =
      let s = taken_settles m p j c hs o small present q i take_own in
      omega (arith, s.low, ap (λ (ss : List (Option ℕ)). tallest q.nodes (set ss j None)) take_slots)

  pub code_taken : (d h : ℕ) → slot_at m p j ≡ Some d → h ≡ tallest q.nodes (set (slots_at q.nodes i) j None)
      → (Ok (i, d), put_node q i (with_slots (node_at q i) (set (slots_at q.nodes i) j None) (h + 1))) ≡ slot_taken m p j
  unfolding taken_by
  code_taken d h v t =
      let high : h + 1 ≡ suc (tallest q.nodes (set (slots_at q.nodes i) j None)) = omega (arith, t) in
      let child : d ≡ unwrap_or (slot_at m p j) 0 = sym (ap (λ (s : Option ℕ). unwrap_or s 0) v) in
      let answer : ℕ → ℕ → Result (ℕ × ℕ) PoolFault × Memory = λ x y. (Ok (i, x), put_node q i (with_slots (node_at q i) (set (slots_at q.nodes i) j None) y)) in
      ap₂ (λ (x y : ℕ). answer x y) child high
      ∙ sym (ap (λ (o : Result ℕ PoolFault × Memory). taken_by m p j o.0 o.1) (sym e) ∙ ap (λ (s : Result ℕ PoolFault). taken_by m p j s q) is)

pub put_change : (m : Memory) (p j c : ℕ) → j < 8 → slot_at m p j ≡ None → run_at m.nodes p ≡ 0 → (r : Result ℕ PoolFault) (q : Memory) → (r, q) ≡ slot_put m p j c → (hs : List ℕ) → Ordered m (p ∷ (c ∷ hs)) → Put m q p j c hs r
put_change m p j c small absent bare r q e hs o =
    subst (λ (x : Result ℕ PoolFault × Memory). Put m x.1 p j c hs x.0) (sym e) (slot_put_is m p j c hs o small absent bare)

code_put_by : (m : Memory) (p j c : ℕ) → tallest m.nodes (set (slots_at m.nodes p) j (Some c)) ≤ 31 → (r : Result ℕ PoolFault) (q : Memory) → (r, q) ≡ owned m p → slot_put m p j c ≡ put_by j c r q
unfolding put_by put_if
code_put_by m p j c low r q e =
    ap (λ (b : Bool). put_if m p j c b) (le-ltb 31 (tallest m.nodes (set (slots_at m.nodes p) j (Some c))) low)
    ∙ ap (λ (o : Result ℕ PoolFault × Memory). put_by j c o.0 o.1) (sym e)

pub code_put_err : (m : Memory) (p j c : ℕ) → tallest m.nodes (set (slots_at m.nodes p) j (Some c)) ≤ 31 → (r : Result ℕ PoolFault) (q : Memory) → (r, q) ≡ owned m p → (x : PoolFault) → r ≡ Err x → slot_put m p j c ≡ (Err x, q)
unfolding put_by
code_put_err m p j c low r q e x is = code_put_by m p j c low r q e ∙ ap (λ (s : Result ℕ PoolFault). put_by j c s q) is

module _ (m : Memory) (p j c : ℕ) (hs : List ℕ) (o : Ordered m (p ∷ (c ∷ hs))) (small : j < 8) (absent : slot_at m p j ≡ None) (bare : run_at m.nodes p ≡ 0)
    (low : tallest m.nodes (set (slots_at m.nodes p) j (Some c)) ≤ 31) (r : Result ℕ PoolFault) (q : Memory) (e : (r, q) ≡ owned m p) (i : ℕ) (is : r ≡ Ok i) where
  put_own : Owned m q p (c ∷ hs) i
  put_own = own_gave m p (c ∷ hs) o bare r q e i is

  pub code_put_in : i < length q.nodes
  code_put_in = owned_in m q p (c ∷ hs) i put_own

  pub code_put : (h : ℕ) → h ≡ tallest m.nodes (set (slots_at m.nodes p) j (Some c))
      → (Ok i, put_node q i (with_slots (node_at q i) (set (slots_at m.nodes p) j (Some c)) (h + 1))) ≡ slot_put m p j c
  unfolding put_by
  code_put h t =
      let ss : List (Option ℕ) = set (slots_at m.nodes p) j (Some c) in
      let high : h + 1 ≡ suc (tallest q.nodes ss) = omega (arith, t, put_tall m p j c hs o small absent bare low q i put_own) in
      let slots : slots_at q.nodes i ≡ slots_at m.nodes p = ap (λ (x : Node). x.slots) put_own.node in
      let answer : Memory → Result ℕ PoolFault × Memory = λ x. (Ok i, x) in
      ap (λ (x : ℕ). answer (put_node q i (with_slots (node_at q i) ss x))) high
      ∙ ap (λ (x : List (Option ℕ)). answer (reslotted q i (set x j (Some c)))) (sym slots)
      ∙ sym (code_put_by m p j c low r q e ∙ ap (λ (s : Result ℕ PoolFault). put_by j c s q) is)
