-- The lowest free node, and the lowest run of unused words.
use Rattle.std.proofs.Common.{◌≡◌, ℕ, zero, suc, ◌+◌, ◌-◌, ◌<◌, ◌≤◌, min, max, Bool, true, false, eqb, List, [], ◌∷◌, length, Some, None, Option, sym, refl, ap, ◌∙◌, subst, ap₂, ⊎_elim, arith}
use Rattle.std.proofs.lemmas.Bool.{cases_Bool, cases_lt, eqb-true, eqb-false, lt-ltb, le-ltb, ltb-true, true≢false}
use Rattle.pool.specs.declared.node.Node.{Node}
use Rattle.pool.specs.Memory.{Memory, count_at, start_at, run_at}
use Rattle.pool.specs.Finding.{lowest_free, free_nodes, meets, unused, lowest_run, find_run, Room, Lowest, LowestNode}

-- ---- nodes
-- the same of a list of which the first is number b
NodeFrom : List Node → ℕ → Option ℕ → Type 0
NodeFrom ns b None = (k : ℕ) → k < length ns → 0 < count_at ns k
NodeFrom ns b (Some i) = (b ≤ i) × (i - b < length ns) × (count_at ns (i - b) ≡ 0) × ((k : ℕ) → k < i - b → 0 < count_at ns k)

node_from : (ns : List Node) (b : ℕ) → NodeFrom ns b (lowest_free ns b)
unfolding NodeFrom
node_from [] b = λ k h. absurd (omega arith)
node_from (nd ∷ ns) b = go (eqb nd.count 0) refl (lowest_free ns (b + 1)) (node_from ns (b + 1))
  where
    next : (o : Option ℕ) → (0 < nd.count) → NodeFrom ns (b + 1) o → NodeFrom (nd ∷ ns) b o
    next None u h = λ k l. elim k as (λ (j : ℕ). j < length (nd ∷ ns) → 0 < count_at (nd ∷ ns) j) [ zero ↦ λ m. u | suc j ↦ λ m. h j (omega arith) ] l
    next (Some i) u h =
        let e : i - b ≡ suc (i - (b + 1)) = omega arith in (
          omega arith,
          omega arith,
          ap (λ (j : ℕ). count_at (nd ∷ ns) j) e ∙ h.2,
          λ k l. elim k as (λ (j : ℕ). j < i - b → 0 < count_at (nd ∷ ns) j) [ zero ↦ λ m. u | suc j ↦ λ m. h.3 j (omega arith) ] l,
        )

    go : (t : Bool) → eqb nd.count 0 ≡ t → (o : Option ℕ) → NodeFrom ns (b + 1) o → NodeFrom (nd ∷ ns) b (elim t [ true ↦ Some b | false ↦ o ])
    go true e o h =
        let z : b - b ≡ 0 = omega arith in
        (omega arith, omega arith, ap (λ (j : ℕ). count_at (nd ∷ ns) j) z ∙ eqb-true nd.count 0 e, λ k l. absurd (omega arith))
    go false e o h = next o (let q = eqb-false nd.count 0 e in omega arith) h

pub lowest_free_is : (ns : List Node) → LowestNode ns (lowest_free ns 0)
unfolding NodeFrom
lowest_free_is ns = go (lowest_free ns 0) (node_from ns 0)
  where
    go : (o : Option ℕ) → NodeFrom ns 0 o → LowestNode ns o
    go None h = h
    go (Some i) h =
        let z : i - 0 ≡ i = omega arith in
        (omega arith, ap (λ (j : ℕ). count_at ns j) (sym z) ∙ h.2, λ k l. h.3 k (omega arith))

-- only one answer is the lowest
pub lowest_one : (ns : List Node) (a b : Option ℕ) → LowestNode ns a → LowestNode ns b → a ≡ b
lowest_one ns None None p q = refl
lowest_one ns None (Some j) p q = absurd (omega (arith, p j q.0, q.1))
lowest_one ns (Some i) None p q = absurd (omega (arith, q i p.0, p.1))
lowest_one ns (Some i) (Some j) p q = ap (λ (k : ℕ). Some k) (grind (arith, p.1, q.1, p.2 j, q.2 i))

-- n nodes are not in use, where the search for one gives this
Left : ℕ → Option ℕ → Type 0
Left n None = n ≡ 0
Left n (Some i) = 0 < n

left_from : (ns : List Node) (b : ℕ) → Left (free_nodes ns) (lowest_free ns b)
unfolding Left
left_from [] b = refl
left_from (nd ∷ ns) b = go (eqb nd.count 0) (lowest_free ns (b + 1)) (left_from ns (b + 1))
  where
    go : (t : Bool) (o : Option ℕ) → Left (free_nodes ns) o → Left (elim t [ true ↦ 1 + free_nodes ns | false ↦ free_nodes ns ]) (elim t [ true ↦ Some b | false ↦ o ])
    go true o h = omega arith
    go false o h = h

pub free_none : (ns : List Node) → lowest_free ns 0 ≡ None → free_nodes ns ≡ 0
unfolding Left
free_none ns e = subst (λ (o : Option ℕ). Left (free_nodes ns) o) e (left_from ns 0)

pub free_some : (ns : List Node) (i : ℕ) → lowest_free ns 0 ≡ Some i → 0 < free_nodes ns
unfolding Left
free_some ns i e = subst (λ (o : Option ℕ). Left (free_nodes ns) o) e (left_from ns 0)

-- ---- runs
-- one of the n words from `at` on is in the run
abbrev pub Met : ℕ → ℕ → ℕ → ℕ → Type 0
Met start run at n = (0 < n) × (0 < run) × (at < start + run) × (start < at + n)

met : (nd : Node) (at n : ℕ) → Met nd.start nd.run at n → meets nd at n ≡ true
met nd at n h = lt-ltb (max at nd.start) (min (at + n) (nd.start + nd.run)) (omega arith)

met_parts : (nd : Node) (at n : ℕ) → meets nd at n ≡ true → Met nd.start nd.run at n
met_parts nd at n e =
    let l = ltb-true (max at nd.start) (min (at + n) (nd.start + nd.run)) e in
    (omega arith, omega arith, omega arith, omega arith)

-- the test of the nodes that follow one, by the test of that one
after : List Node → ℕ → ℕ → Bool → Bool
after ns at n b = elim b [ true ↦ false | false ↦ unused ns at n ]

-- no run meets the n words
pub unused_clear : (ns : List Node) (at n : ℕ) → ((k : ℕ) → k < length ns → min (at + n) (start_at ns k + run_at ns k) ≤ max at (start_at ns k)) → unused ns at n ≡ true
unfolding after
unused_clear [] at n h = refl
unused_clear (nd ∷ ns) at n h =
    ap (after ns at n) (le-ltb (max at nd.start) (min (at + n) (nd.start + nd.run)) (h 0 (omega arith)))
    ∙ unused_clear ns at n (λ k l. h (suc k) (omega arith))

-- a run that meets the n words
pub used_at : (ns : List Node) (at n k : ℕ) → Met (start_at ns k) (run_at ns k) at n → unused ns at n ≡ false
unfolding after
used_at [] at n k h = absurd (omega arith)
used_at (nd ∷ ns) at n zero h = ap (after ns at n) (met nd at n h)
used_at (nd ∷ ns) at n (suc k) h =
    ⊎_elim (λ e. ap (after ns at n) e) (λ e. ap (after ns at n) e ∙ used_at ns at n k h) (cases_Bool (meets nd at n))

pub used_by : (ns : List Node) (at n : ℕ) → unused ns at n ≡ false → (k : ℕ) × Met (start_at ns k) (run_at ns k) at n
unfolding after
used_by [] at n e = absurd (true≢false e)
used_by (nd ∷ ns) at n e =
    ⊎_elim
    (λ t. (0, met_parts nd at n t))
    (λ t. let r = used_by ns at n (sym (ap (after ns at n) t) ∙ e) in (suc r.0, r.1))
    (cases_Bool (meets nd at n))

-- the search from `at` on, by the test there
tried : ℕ → List Node → ℕ → ℕ → Bool → Option ℕ
tried f ns at n b = elim b [ true ↦ Some at | false ↦ lowest_run f ns (at + 1) n ]

again : (f g : ℕ) (ns : List Node) (s t n : ℕ) → f ≡ g → s ≡ t → lowest_run f ns s n ≡ lowest_run g ns t n
again f g ns s t n a b = ap₂ (λ (h u : ℕ). lowest_run h ns u n) a b

-- starts that are not free are passed over
lowest_skip : (d f : ℕ) (ns : List Node) (at n : ℕ) → ((t : ℕ) → at ≤ t → t < at + d → unused ns t n ≡ false) → lowest_run f ns at n ≡ lowest_run (f - d) ns (at + d) n
unfolding tried
lowest_skip zero f ns at n h = again f (f - 0) ns at (at + 0) n (omega arith) (omega arith)
lowest_skip (suc d) zero ns at n h = again 0 (0 - suc d) ns (at + suc d) (at + suc d) n (omega arith) refl
lowest_skip (suc d) (suc f) ns at n h =
    ap (tried f ns at n) (h at (omega arith) (omega arith))
    ∙ lowest_skip d f ns (at + 1) n (λ t a b. h t (omega arith) (omega arith))
    ∙ again (f - d) (suc f - suc d) ns (at + 1 + d) (at + suc d) n (omega arith) (omega arith)

-- what is left of the search for n words, from `at` on
abbrev pub run_from : Memory → ℕ → ℕ → Option ℕ
run_from m n at = lowest_run (suc (length m.words) - n - at) m.nodes at n

pub run_begins : (m : Memory) (n : ℕ) → find_run m n ≡ run_from m n 0
unfolding find_run
run_begins m n = again (suc (length m.words) - n) (suc (length m.words) - n - 0) m.nodes 0 0 n (omega arith) refl

pub run_here : (m : Memory) (n at : ℕ) → at + n ≤ length m.words → unused m.nodes at n ≡ true → run_from m n at ≡ Some at
unfolding tried
run_here m n at h e =
    let z : suc (length m.words) - n - at ≡ suc (length m.words - n - at) = omega arith in
    ap (λ (f : ℕ). lowest_run f m.nodes at n) z ∙ ap (tried (length m.words - n - at) m.nodes at n) e

pub run_past : (m : Memory) (n at : ℕ) → length m.words < at + n → run_from m n at ≡ None
run_past m n at h =
    let z : suc (length m.words) - n - at ≡ 0 = omega arith in
    ap (λ (f : ℕ). lowest_run f m.nodes at n) z

-- where a run meets the n words, no start up to its end is free
pub run_skips : (m : Memory) (n at k e : ℕ) → at < e → 0 < n → start_at m.nodes k < at + n → 0 < run_at m.nodes k → e ≡ start_at m.nodes k + run_at m.nodes k → run_from m n at ≡ run_from m n e
run_skips m n at k e a p b q c =
    lowest_skip (e - at) (suc (length m.words) - n - at) m.nodes at n (λ t l u. used_at m.nodes t n k (p, q, omega arith, omega arith))
    ∙ again (suc (length m.words) - n - at - (e - at)) (suc (length m.words) - n - e) m.nodes (at + (e - at)) e n (omega arith) (omega arith)

-- a run of no words is always there
pub find_none : (m : Memory) → find_run m 0 ≡ Some 0
find_none m = run_begins m 0 ∙ run_here m 0 0 (omega arith) (unused_clear m.nodes 0 0 (λ k l. omega arith))

RunFrom : List Node → ℕ → ℕ → ℕ → Option ℕ → Type 0
RunFrom ns f at n None = (t : ℕ) → at ≤ t → t < at + f → unused ns t n ≡ false
RunFrom ns f at n (Some s) = (at ≤ s) × (s < at + f) × (unused ns s n ≡ true) × ((t : ℕ) → at ≤ t → t < s → unused ns t n ≡ false)

runs_from : (f : ℕ) (ns : List Node) (at n : ℕ) → RunFrom ns f at n (lowest_run f ns at n)
unfolding RunFrom
runs_from zero ns at n = λ t a b. absurd (omega arith)
runs_from (suc f) ns at n = go (unused ns at n) refl (lowest_run f ns (at + 1) n) (runs_from f ns (at + 1) n)
  where
    at_first : (t : ℕ) → unused ns at n ≡ false → at ≤ t → t < at + 1 → unused ns t n ≡ false
    at_first t e a b = ap (λ (j : ℕ). unused ns j n) (let z : t ≡ at = omega arith in z) ∙ e

    go : (b : Bool) → unused ns at n ≡ b → (o : Option ℕ) → RunFrom ns f (at + 1) n o → RunFrom ns (suc f) at n (elim b [ true ↦ Some at | false ↦ o ])
    go true e o h = (omega arith, omega arith, e, λ t a b. absurd (omega arith))
    go false e None h = λ t a b. ⊎_elim (λ l. at_first t e a l) (λ l. h t l (omega arith)) (cases_lt t (at + 1))
    go false e (Some s) h =
        (omega arith, omega arith, h.2, λ t a b. ⊎_elim (λ l. at_first t e a l) (λ l. h.3 t l b) (cases_lt t (at + 1)))

find_run_from : (m : Memory) (n : ℕ) → RunFrom m.nodes (suc (length m.words) - n) 0 n (find_run m n)
unfolding find_run
find_run_from m n = runs_from (suc (length m.words) - n) m.nodes 0 n

room_of : (m : Memory) (n s : ℕ) → s + n ≤ length m.words → unused m.nodes s n ≡ true → Room m n s
room_of m n s h e =
    record { inside = h; clear = λ k i a b c d. true≢false (sym e ∙ used_at m.nodes s n k (omega arith, omega arith, omega arith, omega arith)) }

-- what is found has room, whatever the nodes are
pub found_room : (m : Memory) (n s : ℕ) → find_run m n ≡ Some s → Room m n s
unfolding RunFrom
found_room m n s e =
    let h = subst (λ (o : Option ℕ). RunFrom m.nodes (suc (length m.words) - n) 0 n o) e (find_run_from m n) in
    room_of m n s (omega arith) h.2

no_room : (m : Memory) (n s : ℕ) → unused m.nodes s n ≡ false → Room m n s → ⊥
no_room m n s e room =
    let u = used_by m.nodes s n e in
    let h = u.1 in
    room.clear u.0 (max s (start_at m.nodes u.0)) (omega arith) (omega arith) (omega arith) (omega arith)

pub find_run_is : (m : Memory) (n : ℕ) → Lowest m n (find_run m n)
unfolding RunFrom
find_run_is m n = go (find_run m n) (find_run_from m n)
  where
    go : (o : Option ℕ) → RunFrom m.nodes (suc (length m.words) - n) 0 n o → Lowest m n o
    go None h = λ s r. let i = r.inside in no_room m n s (h s (omega arith) (omega arith)) r
    go (Some s) h = (room_of m n s (omega arith) h.2, λ t l r. no_room m n t (h.3 t (omega arith) l) r)

pub run_lowest : (m : Memory) (n : ℕ) (o : Option ℕ) → find_run m n ≡ o → Lowest m n o
run_lowest m n o e = subst (λ (r : Option ℕ). Lowest m n r) e (find_run_is m n)
