-- What a change of share counts leaves: nodes but for their counts, the runs of those in use, and words that are 0.
use Rattle.std.proofs.Common.{◌≡◌, ℕ, ◌+◌, ◌-◌, ◌<◌, ◌≤◌, ◌⊎◌, List, ◌∷◌, ◌++◌, length, get_or, take, drop, replicate, sym, refl, ap, ◌∙◌, subst, ap₂, inl, inr, ⊎_elim, arith}
use Rattle.std.proofs.lemmas.List.{length-set, length-take, length-drop, length-append, length-replicate, length-take-le, get_or-take, get_or-drop, get_or_append_left, get_or-append_right, get_or-replicate, ext_get_or}
use Rattle.std.proofs.lemmas.Bool.{cases_lt}
use Rattle.pool.specs.declared.node.Node.{Node}
use Rattle.pool.specs.Memory.{Memory, blank, free_node, node_at, count_at, height_at, slots_at, start_at, run_at, with_count, part, overwritten}
use Rattle.pool.specs.Counts.{names, times, Counts, tallest, Heights, Falling, Reaches, here, step}
use Rattle.pool.specs.Order.{Within, Apart, Cleared, Ordered, SameAt, Keeps, Change}
use Rattle.pool.specs.Sharing.{recounted, retained, vacated}
use Rattle.pool.proofs.Counted.{names_used, names_use, named_used, set_cases, in_range, more_counts, tallest_same}

-- ---- words with others in the place of the n from s on
module _ (ws : List ℕ) (s n : ℕ) (xs : List ℕ) (h : s + n ≤ length ws) (l : length xs ≡ n) where
  front : length (take s ws) ≡ s
  front = length-take-le s ws (omega arith)

  pub overwritten_long : length (overwritten ws s n xs) ≡ length ws
  overwritten_long =
      omega (arith, length-append (take s ws) (xs ++ drop n (drop s ws)), front, length-append xs (drop n (drop s ws)), length-drop n (drop s ws), length-drop s ws)

  pub overwritten_before : (i : ℕ) → i < s → get_or (overwritten ws s n xs) i 0 ≡ get_or ws i 0
  overwritten_before i q =
      get_or_append_left (take s ws) (xs ++ drop n (drop s ws)) 0 i (omega (arith, front)) ∙ get_or-take s ws i 0 q

  overwritten_from : (i : ℕ) → s ≤ i → get_or (overwritten ws s n xs) i 0 ≡ get_or (xs ++ drop n (drop s ws)) (i - s) 0
  overwritten_from i q = get_or-append_right (take s ws) (xs ++ drop n (drop s ws)) s i 0 front q

  pub overwritten_in : (i : ℕ) → s ≤ i → i < s + n → get_or (overwritten ws s n xs) i 0 ≡ get_or xs (i - s) 0
  overwritten_in i q r = overwritten_from i q ∙ get_or_append_left xs (drop n (drop s ws)) 0 (i - s) (omega arith)

  pub overwritten_after : (i : ℕ) → s + n ≤ i → get_or (overwritten ws s n xs) i 0 ≡ get_or ws i 0
  overwritten_after i q =
      overwritten_from i (omega arith)
      ∙ get_or-append_right xs (drop n (drop s ws)) n (i - s) 0 l (omega arith)
      ∙ get_or-drop n (drop s ws) (i - s - n) 0
      ∙ get_or-drop s ws (n + (i - s - n)) 0
      ∙ ap (λ (j : ℕ). get_or ws j 0) (omega arith)

-- parts with the same words
pub part_same : (a b : List ℕ) (s r : ℕ) → length b ≡ length a → ((i : ℕ) → s ≤ i → i < s + r → get_or b i 0 ≡ get_or a i 0) → part b s r ≡ part a s r
part_same a b s r l e =
    let at : (ws : List ℕ) (i : ℕ) → i < r → get_or (take r (drop s ws)) i 0 ≡ get_or ws (s + i) 0
    = λ ws i h. get_or-take r (drop s ws) i 0 h ∙ get_or-drop s ws i 0 in
    ext_get_or 0 (part b s r) (part a s r)
    (omega (arith, length-take r (drop s b), length-take r (drop s a), length-drop s b, length-drop s a))
    (λ i h.
    let q : i < r = omega (arith, length-take r (drop s b)) in
    at b i q ∙ e (s + i) (omega arith) (omega arith) ∙ sym (at a i q))

-- a part apart from what was overwritten
pub part_apart : (ws : List ℕ) (s n : ℕ) (xs : List ℕ) → s + n ≤ length ws → length xs ≡ n → (t r : ℕ) → ((i : ℕ) → s ≤ i → i < s + n → t ≤ i → i < t + r → ⊥) → part (overwritten ws s n xs) t r ≡ part ws t r
part_apart ws s n xs h l t r ne =
    part_same ws (overwritten ws s n xs) t r (overwritten_long ws s n xs h l)
    (λ i p q.
    ⊎_elim
    (λ b. overwritten_before ws s n xs h l i b)
    (λ b. ⊎_elim (λ d. absurd (ne i b d p q)) (λ d. overwritten_after ws s n xs h l i d) (cases_lt i (s + n)))
    (cases_lt i s))

-- ---- a node as it was but for its count, in use or free as before; or free now
pub data KeptAt (x y : Node) : Type 0 where
  same : y ≡ with_count x y.count → (y.count ≡ 0 → x.count ≡ 0) → (x.count ≡ 0 → y.count ≡ 0) → KeptAt x y
  gone : y ≡ free_node → KeptAt x y

free_count : (y : Node) → y ≡ free_node → y.count ≡ 0
free_count y e = ap (λ (nd : Node). nd.count) e

pub kept_refl : (x : Node) → KeptAt x x
kept_refl x = same refl (λ e. e) (λ e. e)

pub kept_eq : (x y : Node) → y ≡ x → KeptAt x y
kept_eq x y e = subst (λ (z : Node). KeptAt x z) (sym e) (kept_refl x)

pub kept_trans : (x y z : Node) → KeptAt x y → KeptAt y z → KeptAt x z
kept_trans x y z p (gone e) = gone e
kept_trans x y z (same e u v) (same d s t) = same (d ∙ ap (λ (nd : Node). with_count nd z.count) e) (λ q. u (s q)) (λ q. t (v q))
kept_trans x y z (gone e) (same d s t) =
    gone (d ∙ ap₂ (λ (nd : Node) (c : ℕ). with_count nd c) e (t (free_count y e)))

pub kept_height : (x y : Node) → KeptAt x y → y.height ≤ x.height
kept_height x y (same e u v) = omega (arith, ap (λ (nd : Node). nd.height) e)
kept_height x y (gone e) = omega (arith, ap (λ (nd : Node). nd.height) e)

-- one in use was in use, and is as it was
pub kept_used : (x y : Node) → KeptAt x y → 0 < y.count → (0 < x.count) × (y ≡ with_count x y.count)
kept_used x y (same e u v) h = (⊎_elim (λ l. l) (λ l. absurd (omega (arith, v (omega arith)))) (cases_lt 0 x.count), e)
kept_used x y (gone e) h = absurd (omega (arith, free_count y e))

-- one with a run is as it was
pub kept_run : (x y : Node) → KeptAt x y → 0 < y.run → y ≡ with_count x y.count
kept_run x y (same e u v) h = e
kept_run x y (gone e) h = absurd (omega (arith, ap (λ (nd : Node). nd.run) e))

pub kept_end : (x y : Node) → KeptAt x y → y.start + y.run ≤ x.start + x.run
kept_end x y (same e u v) = omega (arith, ap (λ (nd : Node). nd.start) e, ap (λ (nd : Node). nd.run) e)
kept_end x y (gone e) = omega (arith, ap (λ (nd : Node). nd.start) e, ap (λ (nd : Node). nd.run) e)

abbrev pub Kept : List Node → List Node → Type 0
Kept a b = (k : ℕ) → KeptAt (get_or a k blank) (get_or b k blank)

pub kept_falling : (a b : List Node) → Kept a b → Falling a → Falling b
kept_falling a b p f k c h =
    let x : Node = get_or a k blank in
    let y : Node = get_or b k blank in
    let u = names_use c y h in
    let s = kept_used x y (p k) u in
    let e : times c (names y.slots) ≡ times c (names x.slots) = ap (λ (nd : Node). times c (names nd.slots)) s.1 in
    omega (arith, f k c (omega (arith, names_used c x s.0, names_used c y u, e)), kept_height (get_or a c blank) (get_or b c blank) (p c), ap (λ (nd : Node). nd.height) s.1)

-- ---- memory: the nodes so, the runs that are left as they were, and what no run has is 0
pub record Spared (a b : Memory) : Type 0 where
  pub nodes_long : length b.nodes ≡ length a.nodes
  pub words_long : length b.words ≡ length a.words
  pub kept : Kept a.nodes b.nodes
  pub runs : Apart a.nodes → (k i : ℕ) → start_at b.nodes k ≤ i → i < start_at b.nodes k + run_at b.nodes k → get_or b.words i 0 ≡ get_or a.words i 0
  pub cleared : Cleared a.nodes a.words → Cleared b.nodes b.words

pub spared_refl : (a : Memory) → Spared a a
spared_refl a =
    record { nodes_long = refl; words_long = refl; kept = λ k. kept_refl (node_at a k); runs = λ p k i l h. refl; cleared = λ p. p }

module _ (a b : Memory) (s : Spared a b) where
  pub spared_within : Within a.nodes a.words → Within b.nodes b.words
  spared_within w k = omega (arith, w k, kept_end (node_at a k) (node_at b k) (s.kept k), s.words_long)

  spared_node : (k : ℕ) → 0 < run_at b.nodes k → (start_at b.nodes k ≡ start_at a.nodes k) × (run_at b.nodes k ≡ run_at a.nodes k)
  spared_node k h =
      let e = kept_run (node_at a k) (node_at b k) (s.kept k) h in
      (ap (λ (nd : Node). nd.start) e, ap (λ (nd : Node). nd.run) e)

  pub spared_apart : Apart a.nodes → Apart b.nodes
  spared_apart p j k ne rj rk l =
      let x = spared_node j rj in
      let y = spared_node k rk in
      omega (arith, p j k ne (omega (arith, x)) (omega (arith, y)) (omega (arith, x, y)), x, y)

  pub spared_trans : (c : Memory) → Spared b c → Spared a c
  spared_trans c t =
      record {
        nodes_long = t.nodes_long ∙ s.nodes_long;
        words_long = t.words_long ∙ s.words_long;
        kept = λ k. kept_trans (node_at a k) (node_at b k) (node_at c k) (s.kept k) (t.kept k);
        runs = λ p k i l h.
            let e = kept_run (node_at b k) (node_at c k) (t.kept k) (omega arith) in
            let q = ap (λ (nd : Node). nd.start) e in
            let r = ap (λ (nd : Node). nd.run) e in
            t.runs (spared_apart p) k i l h ∙ s.runs p k i (omega (arith, q)) (omega (arith, q, r));
        cleared = λ p. t.cleared (s.cleared p);
      }

  -- one in use is as it was, and so is its run
  pub spared_same : Apart a.nodes → (k : ℕ) → 0 < count_at b.nodes k → SameAt a b k
  spared_same p k u =
      let e = (kept_used (node_at a k) (node_at b k) (s.kept k) u).1 in
      let q : start_at b.nodes k ≡ start_at a.nodes k = ap (λ (nd : Node). nd.start) e in
      let r : run_at b.nodes k ≡ run_at a.nodes k = ap (λ (nd : Node). nd.run) e in
      record {
        same_node = e;
        same_run =
            part_same a.words b.words (start_at b.nodes k) (run_at b.nodes k) s.words_long (s.runs p k)
            ∙ ap₂ (λ (x y : ℕ). part a.words x y) q r;
      }

  -- what the holders reach is in use
  module _ (hs hs' : List ℕ) (counts : Counts b.nodes hs') (more : (k : ℕ) → 0 < times k hs → 0 < times k hs') where
    still_used : (h k : ℕ) → 0 < times h hs → Reaches a.nodes h k → 0 < count_at b.nodes k
    still_used h k q here = omega (arith, counts h, more h q)
    still_used h k q (step {b = j} r c i) =
        let u = still_used h j q r in
        let e = (kept_used (node_at a j) (node_at b j) (s.kept j) u).1 in
        named_used b.nodes hs' counts j c u (subst (λ (n : ℕ). 0 < n) (sym (ap (λ (nd : Node). times c (names nd.slots)) e)) i)

    pub spared_keeps : Apart a.nodes → Keeps a b hs
    spared_keeps p k h = spared_same p k (still_used h.0 k h.1 h.2)

  -- in order, where the counts are
  spared_heights : (hs : List ℕ) → Counts b.nodes hs → Heights a.nodes → Heights b.nodes
  spared_heights hs counts heights k u =
      let e = kept_used (node_at a k) (node_at b k) (s.kept k) u in
      let h : height_at b.nodes k ≡ height_at a.nodes k = ap (λ (nd : Node). nd.height) e.1 in
      let ss : tallest b.nodes (slots_at b.nodes k) ≡ tallest b.nodes (slots_at a.nodes k) = ap (λ (nd : Node). tallest b.nodes nd.slots) e.1 in
      let t = tallest_same a.nodes b.nodes (slots_at a.nodes k)
      (λ c i.
      let v = named_used b.nodes hs counts k c u (subst (λ (n : ℕ). 0 < n) (sym (ap (λ (nd : Node). times c (names nd.slots)) e.1)) i) in
      ap (λ (nd : Node). nd.height) (kept_used (node_at a c) (node_at b c) (s.kept c) v).1) in
      omega (arith, heights k e.0, h, ss, t)

  eight_at : (k : ℕ) → KeptAt (node_at a k) (node_at b k) → length (slots_at a.nodes k) ≡ 8 → length (slots_at b.nodes k) ≡ 8
  eight_at k (same e u v) l = ap (λ (nd : Node). length nd.slots) e ∙ l
  eight_at k (gone e) l = ap (λ (nd : Node). length nd.slots) e

  freed_at : (k : ℕ) → KeptAt (node_at a k) (node_at b k) → (count_at a.nodes k ≡ 0 → node_at a k ≡ free_node) → count_at b.nodes k ≡ 0 → node_at b k ≡ free_node
  freed_at k (same e u v) f z = e ∙ ap₂ (λ (nd : Node) (c : ℕ). with_count nd c) (f (u z)) z
  freed_at k (gone e) f z = e

  pub spared_ordered : (hs hs' : List ℕ) → Ordered a hs → Counts b.nodes hs' → Ordered b hs'
  spared_ordered hs hs' o counts =
      record {
        nodes_long = s.nodes_long ∙ o.nodes_long;
        words_long = s.words_long ∙ o.words_long;
        counts = counts;
        heights = spared_heights hs' counts o.heights;
        low = λ k. omega (arith, o.low k, kept_height (node_at a k) (node_at b k) (s.kept k));
        eight = λ k l. eight_at k (s.kept k) (o.eight k (omega (arith, s.nodes_long)));
        within = spared_within o.within;
        apart = spared_apart o.apart;
        slotless = λ k c r.
            let e = kept_run (node_at a k) (node_at b k) (s.kept k) r in
            ap (λ (nd : Node). times c (names nd.slots)) e ∙ o.slotless k c (omega (arith, spared_node k r));
        freed = λ k l z. freed_at k (s.kept k) (o.freed k (omega (arith, s.nodes_long))) z;
        cleared = s.cleared o.cleared;
      }

-- ---- another count, where neither is 0
pub recount_spared : (m : Memory) (n c : ℕ) → 0 < count_at m.nodes n → 0 < c → Spared m (recounted m n c)
recount_spared m n c u v =
    let nd : Node = with_count (node_at m n) c in
    let l = in_range m.nodes n u in
    let q : Memory = recounted m n c in
    let at : (k : ℕ) → (node_at q k ≡ with_count (node_at m k) (count_at q.nodes k)) × KeptAt (node_at m k) (node_at q k)
    = λ k.
    ⊎_elim
    (λ p.
    let e : node_at q k ≡ with_count (node_at m k) c = p.1 ∙ ap (λ (j : ℕ). with_count (node_at m j) c) (sym p.0) in
    let d : count_at q.nodes k ≡ c = ap (λ (x : Node). x.count) e in
    let w : count_at m.nodes k ≡ count_at m.nodes n = ap (λ (j : ℕ). count_at m.nodes j) p.0 in
    let f : node_at q k ≡ with_count (node_at m k) (count_at q.nodes k) = e ∙ ap (λ (j : ℕ). with_count (node_at m k) j) (sym d) in
    (f, same f (λ z. absurd (omega (arith, z, d))) (λ z. absurd (omega (arith, z, w)))))
    (λ p.
    let f : node_at q k ≡ with_count (node_at m k) (count_at q.nodes k) = p.1 ∙ ap (λ (j : ℕ). with_count (node_at m k) j) (sym (ap (λ (x : Node). x.count) p.1)) in
    (f, kept_eq (node_at m k) (node_at q k) p.1))
    (set_cases m.nodes n nd l k) in
    record {
      nodes_long = length-set m.nodes n nd;
      words_long = refl;
      kept = λ k. (at k).1;
      runs = λ p k i a b. refl;
      cleared = λ p i none.
          p i (λ k a b.
          none k
          (omega (arith, ap (λ (x : Node). x.start) (at k).0))
          (omega (arith, ap (λ (x : Node). x.start) (at k).0, ap (λ (x : Node). x.run) (at k).0)));
    }

pub retained_change : (m : Memory) (n : ℕ) (hs : List ℕ) → Ordered m hs → 0 < count_at m.nodes n → Change m (retained m n) (n ∷ hs) hs
retained_change m n hs o u =
    let s = recount_spared m n (count_at m.nodes n + 1) u (omega arith) in
    let counts = more_counts m.nodes n hs u o.counts in
    record {
      ordered = spared_ordered m (retained m n) s hs (n ∷ hs) o counts;
      keeps = spared_keeps m (retained m n) s hs (n ∷ hs) counts (λ k h. omega arith) o.apart;
    }

-- ---- a node free, and its words 0
module _ (m : Memory) (n : ℕ) (l : n < length m.nodes) (w : start_at m.nodes n + run_at m.nodes n ≤ length m.words) where
  zeros_long : length {A = ℕ} (replicate (run_at m.nodes n) 0) ≡ run_at m.nodes n
  zeros_long = length-replicate (run_at m.nodes n) 0

  pub vacated_before : (i : ℕ) → i < start_at m.nodes n → get_or (vacated m n).words i 0 ≡ get_or m.words i 0
  vacated_before = overwritten_before m.words (start_at m.nodes n) (run_at m.nodes n) (replicate (run_at m.nodes n) 0) w zeros_long

  pub vacated_after : (i : ℕ) → start_at m.nodes n + run_at m.nodes n ≤ i → get_or (vacated m n).words i 0 ≡ get_or m.words i 0
  vacated_after = overwritten_after m.words (start_at m.nodes n) (run_at m.nodes n) (replicate (run_at m.nodes n) 0) w zeros_long

  pub vacated_in : (i : ℕ) → start_at m.nodes n ≤ i → i < start_at m.nodes n + run_at m.nodes n → get_or (vacated m n).words i 0 ≡ 0
  vacated_in i p q =
      overwritten_in m.words (start_at m.nodes n) (run_at m.nodes n) (replicate (run_at m.nodes n) 0) w zeros_long i p q
      ∙ get_or-replicate (run_at m.nodes n) (i - start_at m.nodes n) 0 0 (omega arith)

  -- a run of another node
  vacated_run : Apart m.nodes → (k i : ℕ) → (k ≡ n → ⊥) → start_at m.nodes k ≤ i → i < start_at m.nodes k + run_at m.nodes k → get_or (vacated m n).words i 0 ≡ get_or m.words i 0
  vacated_run p k i ne a b =
      ⊎_elim
      (λ c. vacated_before i c)
      (λ c.
      ⊎_elim
      (λ d.
      absurd
      (⊎_elim
      (λ e. omega (arith, p k n ne (omega arith) (omega arith) (omega arith)))
      (λ e. omega (arith, p n k (λ q. ne (sym q)) (omega arith) (omega arith) e))
      (cases_lt (start_at m.nodes k) (start_at m.nodes n))))
      (λ d. vacated_after i d)
      (cases_lt i (start_at m.nodes n + run_at m.nodes n)))
      (cases_lt i (start_at m.nodes n))

  -- a word that no run has now
  vacated_cleared : Cleared m.nodes m.words → Cleared (vacated m n).nodes (vacated m n).words
  vacated_cleared p i none =
      let out : (i < start_at m.nodes n) ⊎ (start_at m.nodes n + run_at m.nodes n ≤ i) → get_or m.words i 0 ≡ 0
      = λ apart. p i (λ k a b.
      ⊎_elim
      (λ q.
      let s = ap (λ (j : ℕ). start_at m.nodes j) q.0 in
      let r = ap (λ (j : ℕ). run_at m.nodes j) q.0 in
      ⊎_elim (λ c. omega (arith, c, s)) (λ c. omega (arith, c, s, r)) apart)
      (λ q.
      let s = ap (λ (x : Node). x.start) q.1 in
      let r = ap (λ (x : Node). x.run) q.1 in
      none k (omega (arith, s)) (omega (arith, s, r)))
      (set_cases m.nodes n free_node l k)) in
      ⊎_elim
      (λ c. vacated_before i c ∙ out (inl c))
      (λ c. ⊎_elim (λ d. vacated_in i c d) (λ d. vacated_after i d ∙ out (inr d)) (cases_lt i (start_at m.nodes n + run_at m.nodes n)))
      (cases_lt i (start_at m.nodes n))

  pub vacate_spared : Spared m (vacated m n)
  vacate_spared =
      record {
        nodes_long = length-set m.nodes n free_node;
        words_long = overwritten_long m.words (start_at m.nodes n) (run_at m.nodes n) (replicate (run_at m.nodes n) 0) w zeros_long;
        kept = λ k. ⊎_elim (λ q. gone q.1) (λ q. kept_eq (node_at m k) (node_at (vacated m n) k) q.1) (set_cases m.nodes n free_node l k);
        runs = λ p k i a b.
            ⊎_elim
            (λ q. absurd (omega (arith, ap (λ (x : Node). x.start) q.1, ap (λ (x : Node). x.run) q.1)))
            (λ q.
            let s = ap (λ (x : Node). x.start) q.1 in
            let r = ap (λ (x : Node). x.run) q.1 in
            vacated_run p k i q.0 (omega (arith, s)) (omega (arith, s, r)))
            (set_cases m.nodes n free_node l k);
        cleared = vacated_cleared;
      }
