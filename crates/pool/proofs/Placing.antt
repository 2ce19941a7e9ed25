-- A free node and free words take a node with a run.
use Rattle.std.proofs.Common.{◌≡◌, ℕ, ◌+◌, ◌<◌, ◌≤◌, ◌⊎◌, List, ◌∷◌, ◌++◌, length, get_or, take, drop, set, Option, sym, ap, ◌∙◌, ap₂, ⊎_elim, arith}
use Rattle.std.proofs.lemmas.List.{length-set, length-take-le, take-append-drop, take_at, drop_at, get_or-set_same, get_or-set_other}
use Rattle.std.proofs.lemmas.Bool.{cases_lt}
use Rattle.pool.specs.declared.node.Node.{Node}
use Rattle.pool.specs.Memory.{Memory, blank, no_slots, count_at, slots_at, start_at, run_at, with_count, part, overwritten}
use Rattle.pool.specs.Counts.{names, times, Counts, Heights, tallest}
use Rattle.pool.specs.Order.{Low, Eight, Within, Apart, Slotless, Freed, Cleared, Ordered, Keeps, Change}
use Rattle.pool.specs.Finding.{Room}
use Rattle.pool.proofs.Counted.{hit_same, hit_other, named_set, named_at, names_used, names_free, reached_used, set_cases, tallest_same}
use Rattle.pool.proofs.Spared.{overwritten_long, overwritten_before, overwritten_after, part_apart}

-- ---- words with others in the place of some
module _ (ws : List ℕ) (s n : ℕ) (xs : List ℕ) (fits : s + n ≤ length ws) (whole : length xs ≡ n) where
  front : length (take s ws) ≡ s
  front = length-take-le s ws (omega arith)

  pub over_long : length (overwritten ws s n xs) ≡ length ws
  over_long = overwritten_long ws s n xs fits whole

  pub over_part : part (overwritten ws s n xs) s n ≡ xs
  over_part = ap (λ (l : List ℕ). take n l) (drop_at (take s ws) (xs ++ drop n (drop s ws)) s front) ∙ take_at xs (drop n (drop s ws)) n whole

  pub over_over : (ys : List ℕ) → overwritten (overwritten ws s n xs) s n ys ≡ overwritten ws s n ys
  over_over ys =
      let a : take s (overwritten ws s n xs) ≡ take s ws = take_at (take s ws) (xs ++ drop n (drop s ws)) s front in
      let b : drop n (drop s (overwritten ws s n xs)) ≡ drop n (drop s ws)
      = ap (λ (l : List ℕ). drop n l) (drop_at (take s ws) (xs ++ drop n (drop s ws)) s front) ∙ drop_at xs (drop n (drop s ws)) n whole in
      ap₂ (λ (l r : List ℕ). l ++ (ys ++ r)) a b

  pub over_other : (k : ℕ) → (s ≤ k → k < s + n → ⊥) → get_or (overwritten ws s n xs) k 0 ≡ get_or ws k 0
  over_other k out =
      ⊎_elim
      (λ a. overwritten_before ws s n xs fits whole k a)
      (λ a. ⊎_elim (λ b. absurd (out a b)) (λ b. overwritten_after ws s n xs fits whole k b) (cases_lt k (s + n)))
      (cases_lt k s)

-- the same words in their own place
pub over_same : (ws : List ℕ) (s n : ℕ) → overwritten ws s n (part ws s n) ≡ ws
over_same ws s n = ap (λ (l : List ℕ). take s ws ++ l) (take-append-drop n (drop s ws)) ∙ take-append-drop s ws

-- slots that do not name i are as high as they were
as_tall : (ns : List Node) (i : ℕ) (nd : Node) (ss : List (Option ℕ)) → times i (names ss) ≡ 0 → tallest (set ns i nd) ss ≡ tallest ns ss
as_tall ns i nd ss none =
    tallest_same ns (set ns i nd) ss
    (λ c h. ap (λ (x : Node). x.height) (get_or-set_other ns i c nd blank (λ e. omega (arith, h, none, ap (λ (j : ℕ). times j (names ss)) e))))

abbrev pub placed : Memory → ℕ → ℕ → ℕ → Node → List ℕ → Memory
placed m i s w nd xs = record { nodes = set m.nodes i nd; words = overwritten m.words s w xs }

module _ (m : Memory) (hs : List ℕ) (i s w : ℕ) (nd : Node) (xs : List ℕ)
    (o : Ordered m hs) (inside : i < length m.nodes) (free : count_at m.nodes i ≡ 0) (room : Room m w s)
    (one : nd.count ≡ 1) (low : nd.height ≡ 1) (bare : nd.slots ≡ no_slots) (at : nd.start ≡ s) (long : nd.run ≡ w) (whole : length xs ≡ w) where
  at_place : (k : ℕ) → ((k ≡ i) × (get_or (set m.nodes i nd) k blank ≡ nd)) ⊎ ((k ≡ i → ⊥) × (get_or (set m.nodes i nd) k blank ≡ get_or m.nodes k blank))
  at_place = set_cases m.nodes i nd inside

  bare_names : (k : ℕ) → times k (names nd.slots) ≡ 0
  bare_names k = ap (λ (ss : List (Option ℕ)). times k (names ss)) bare

  old_run : run_at m.nodes i ≡ 0
  old_run = ap (λ (x : Node). x.run) (o.freed i inside free)

  placed_counts : Counts (set m.nodes i nd) (i ∷ hs)
  placed_counts k =
      let a = named_set k m.nodes i nd inside in
      let b = names_free k (get_or m.nodes i blank) free in
      let c = names_used k nd (omega arith) ∙ bare_names k in
      let d = o.counts k in
      ⊎_elim
      (λ q. omega (arith, a, b, c, d, ap (λ (x : Node). x.count) q.1, ap (λ (j : ℕ). count_at m.nodes j) q.0, hit_same i k (sym q.0)))
      (λ q. omega (arith, a, b, c, d, ap (λ (x : Node). x.count) q.1, hit_other i k (λ e. q.0 (sym e))))
      (at_place k)

  -- nothing in use names a free node
  not_named : (k : ℕ) → 0 < count_at m.nodes k → times i (names (slots_at m.nodes k)) ≡ 0
  not_named k u = omega (arith, o.counts i, named_at i m.nodes k, names_used i (get_or m.nodes k blank) u)

  placed_heights : Heights (set m.nodes i nd)
  placed_heights k u =
      ⊎_elim
      (λ q.
      let a : tallest (set m.nodes i nd) (slots_at (set m.nodes i nd) k) ≡ 0
      = ap (λ (x : Node). tallest (set m.nodes i nd) x.slots) q.1 ∙ ap (λ (ss : List (Option ℕ)). tallest (set m.nodes i nd) ss) bare in
      omega (arith, a, ap (λ (x : Node). x.height) q.1))
      (λ q.
      let v : 0 < count_at m.nodes k = omega (arith, u, ap (λ (x : Node). x.count) q.1) in
      let a : tallest (set m.nodes i nd) (slots_at (set m.nodes i nd) k) ≡ tallest m.nodes (slots_at m.nodes k)
      = ap (λ (x : Node). tallest (set m.nodes i nd) x.slots) q.1 ∙ as_tall m.nodes i nd (slots_at m.nodes k) (not_named k v) in
      omega (arith, a, ap (λ (x : Node). x.height) q.1, o.heights k v))
      (at_place k)

  placed_low : Low (set m.nodes i nd)
  placed_low k =
      ⊎_elim (λ q. omega (arith, ap (λ (x : Node). x.height) q.1)) (λ q. omega (arith, ap (λ (x : Node). x.height) q.1, o.low k)) (at_place k)

  placed_eight : Eight (set m.nodes i nd)
  placed_eight k l =
      ⊎_elim
      (λ q. ap (λ (x : Node). length x.slots) q.1 ∙ ap (λ (ss : List (Option ℕ)). length ss) bare)
      (λ q. ap (λ (x : Node). length x.slots) q.1 ∙ o.eight k (omega (arith, l, length-set m.nodes i nd)))
      (at_place k)

  new_long : length (overwritten m.words s w xs) ≡ length m.words
  new_long = over_long m.words s w xs room.inside whole

  placed_within : Within (set m.nodes i nd) (overwritten m.words s w xs)
  placed_within k =
      ⊎_elim
      (λ q. omega (arith, new_long, room.inside, ap (λ (x : Node). x.start) q.1, ap (λ (x : Node). x.run) q.1))
      (λ q. omega (arith, new_long, o.within k, ap (λ (x : Node). x.start) q.1, ap (λ (x : Node). x.run) q.1))
      (at_place k)

  -- the run that is placed lies apart from every other
  above_new : (k : ℕ) → 0 < run_at m.nodes k → s ≤ start_at m.nodes k → s + w ≤ start_at m.nodes k
  above_new k r l =
      ⊎_elim (λ c. absurd (room.clear k (start_at m.nodes k) l c (omega arith) (omega arith))) (λ c. c) (cases_lt (start_at m.nodes k) (s + w))

  below_new : (k : ℕ) → 0 < w → start_at m.nodes k ≤ s → start_at m.nodes k + run_at m.nodes k ≤ s
  below_new k r l =
      ⊎_elim (λ c. absurd (room.clear k s (omega arith) (omega arith) l c)) (λ c. c) (cases_lt s (start_at m.nodes k + run_at m.nodes k))

  placed_apart : Apart (set m.nodes i nd)
  placed_apart j k ne a b l =
      ⊎_elim
      (λ p.
      let pr = ap (λ (x : Node). x.run) p.1 in
      let ps = ap (λ (x : Node). x.start) p.1 in
      ⊎_elim
      (λ q. absurd (ne (p.0 ∙ sym q.0)))
      (λ q.
      let qr = ap (λ (x : Node). x.run) q.1 in
      let qs = ap (λ (x : Node). x.start) q.1 in
      omega (arith, above_new k (omega arith) (omega arith)))
      (at_place k))
      (λ p.
      let pr = ap (λ (x : Node). x.run) p.1 in
      let ps = ap (λ (x : Node). x.start) p.1 in
      ⊎_elim
      (λ q.
      let qr = ap (λ (x : Node). x.run) q.1 in
      let qs = ap (λ (x : Node). x.start) q.1 in
      omega (arith, below_new j (omega arith) (omega arith)))
      (λ q.
      let qr = ap (λ (x : Node). x.run) q.1 in
      let qs = ap (λ (x : Node). x.start) q.1 in
      omega (arith, o.apart j k ne (omega arith) (omega arith) (omega arith)))
      (at_place k))
      (at_place j)

  placed_slotless : Slotless (set m.nodes i nd)
  placed_slotless k c r =
      ⊎_elim
      (λ q. ap (λ (x : Node). times c (names x.slots)) q.1 ∙ bare_names c)
      (λ q. ap (λ (x : Node). times c (names x.slots)) q.1 ∙ o.slotless k c (omega (arith, r, ap (λ (x : Node). x.run) q.1)))
      (at_place k)

  placed_freed : Freed (set m.nodes i nd)
  placed_freed k l z =
      ⊎_elim
      (λ q. absurd (omega (arith, z, ap (λ (x : Node). x.count) q.1)))
      (λ q. q.1 ∙ o.freed k (omega (arith, l, length-set m.nodes i nd)) (omega (arith, z, ap (λ (x : Node). x.count) q.1)))
      (at_place k)

  placed_cleared : Cleared (set m.nodes i nd) (overwritten m.words s w xs)
  placed_cleared x none =
      let here_is = get_or-set_same m.nodes i nd blank inside in
      let hr = ap (λ (y : Node). y.run) here_is in
      let hst = ap (λ (y : Node). y.start) here_is in
      over_other m.words s w xs room.inside whole x (λ a b. none i (omega arith) (omega arith))
      ∙ o.cleared x
      (λ k a b.
      ⊎_elim
      (λ q. let r = ap (λ (j : ℕ). run_at m.nodes j) q.0 ∙ old_run in omega arith)
      (λ q.
      let qr = ap (λ (y : Node). y.run) q.1 in
      let qs = ap (λ (y : Node). y.start) q.1 in
      none k (omega arith) (omega arith))
      (at_place k))

  placed_keeps : Keeps m (placed m i s w nd xs) hs
  placed_keeps k h =
      let u = reached_used m.nodes hs o.counts h.0 k h.1 h.2 in
      ⊎_elim
      (λ q. absurd (omega (arith, u, free, ap (λ (j : ℕ). count_at m.nodes j) q.0)))
      (λ q. record {
        same_node = q.1 ∙ ap (λ (c : ℕ). with_count (get_or m.nodes k blank) c) (sym (ap (λ (x : Node). x.count) q.1));
        same_run =
            ap (λ (x : Node). part (overwritten m.words s w xs) x.start x.run) q.1
            ∙ part_apart m.words s w xs room.inside whole (start_at m.nodes k) (run_at m.nodes k) (λ j a b c d. room.clear k j a b c d);
      })
      (at_place k)

  pub placed_change : Change m (placed m i s w nd xs) (i ∷ hs) hs
  placed_change =
      record {
        ordered = record {
          nodes_long = length-set m.nodes i nd ∙ o.nodes_long;
          words_long = new_long ∙ o.words_long;
          counts = placed_counts;
          heights = placed_heights;
          low = placed_low;
          eight = placed_eight;
          within = placed_within;
          apart = placed_apart;
          slotless = placed_slotless;
          freed = placed_freed;
          cleared = placed_cleared;
        };
        keeps = placed_keeps;
      }
