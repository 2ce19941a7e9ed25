-- What answers of steps rest on: when a step is refused, and a step that leaves the memory as it was.
use Rattle.std.proofs.Common.{◌≡◌, ℕ, zero, suc, ◌+◌, ◌<◌, ◌≤◌, ◌⊎◌, inl, inr, Bool, true, false, not, ◌&&◌, eqb, List, [], ◌∷◌, Some, None, Option, length, sym, refl, ap, subst, ⊎_elim, arith}
use Rattle.std.proofs.lemmas.Bool.{le-ltb, lt-ltb, ne_eqb, cases_lt}
use Rattle.std.proofs.lemmas.List.{get_or_past}
use Rattle.rows.specs.declared.row.Row.{Row}
use Rattle.rows.specs.Kind.{Kinds}
use Rattle.pool.specs.declared.node.Node.{Node}
use Rattle.pool.specs.declared.node.PoolFault.TheVariants.{Nodes, Words}
use Rattle.pool.specs.Memory.{Memory, blank, no_slots, node_at, count_at, slots_at, run_at}
use Rattle.pool.specs.Counts.{names, times, Reaches, here, step}
use Rattle.pool.specs.Order.{Ordered, Keeps}
use Rattle.pool.specs.Finding.{find_run, free_nodes}
use Rattle.pool.proofs.Counted.{heights_falling}
use Rattle.pool.proofs.Found.{find_none}
use Rattle.pool.proofs.Reached.{counts_exact}
use Rattle.encodings.specs.declared.step.StepFault.{StepFault}
use Rattle.encodings.specs.declared.step.StepFault.TheVariants.{Pool, NoRows}
use Rattle.encodings.specs.Meaning.{Encodings}
use Rattle.encodings.specs.Rows.{slots_of, WholeAt}
use Rattle.encodings.specs.Step.{Need, all_flat, refusal, Steppable, fresh, InNeed, DoneGap, Finishes}
use Rattle.encodings.specs.Flattening.{no_need}
use Rattle.encodings.proofs.Wholes.{whole_gapless, all_whole}

-- the last refusal of all: every child is Flat, and there are no rows
abbrev pub rowless : Memory → ℕ → Option (List Row) → Option StepFault
rowless m i rest = elim (all_flat m (slots_of (node_at m i))) [ true ↦ elim rest [ None ↦ Some NoRows | Some r ↦ None ] | false ↦ None ]

-- with rows there is no such refusal
pub rowless_none : (m : Memory) (i : ℕ) (rs : List Row) → rowless m i (Some rs) ≡ None
rowless_none m i rs = go (all_flat m (slots_of (node_at m i)))
  where
    go : (t : Bool) → elim t as (λ _. Option StepFault) [ true ↦ None | false ↦ None ] ≡ None
    go true = refl
    go false = refl

-- too few free nodes, or no such run of words
pub refusal_nodes : (n : Need) (m : Memory) (i : ℕ) (rest : Option (List Row)) → n.height ≤ 32 → free_nodes m.nodes < n.nodes → refusal n m i rest ≡ Some (Pool Nodes)
refusal_nodes n m i rest low many = rw (le-ltb 32 n.height low, lt-ltb (free_nodes m.nodes) n.nodes many, refusal) refl

pub refusal_words : (n : Need) (m : Memory) (i : ℕ) (rest : Option (List Row)) → n.height ≤ 32 → n.nodes ≤ free_nodes m.nodes → find_run m n.words ≡ None → refusal n m i rest ≡ Some (Pool Words)
refusal_words n m i rest low few none = rw (le-ltb 32 n.height low, le-ltb (free_nodes m.nodes) n.nodes few, none, refusal) refl

-- a step whose need is met is refused for want of rows alone
pub refusal_last : (n : Need) (m : Memory) (i s : ℕ) (rest : Option (List Row)) → n.height ≤ 32 → n.nodes ≤ free_nodes m.nodes → find_run m n.words ≡ Some s → refusal n m i rest ≡ rowless m i rest
refusal_last n m i s rest low few found = rw (le-ltb 32 n.height low, le-ltb (free_nodes m.nodes) n.nodes few, found, refusal) refl

-- and so is a step that needs nothing
pub unchanged_step : (m : Memory) (hs : List ℕ) (i : ℕ) (rest : Option (List Row)) → Ordered m hs → refusal (no_need m i) m i rest ≡ rowless m i rest
unchanged_step m hs i rest ordered = refusal_last (no_need m i) m i 0 rest (ordered.low i) (omega arith) (find_none m)

-- ---- what is in use, before and after
-- a node with a run is in use
pub run_used : (m : Memory) (hs : List ℕ) → Ordered m hs → (k : ℕ) → 0 < run_at m.nodes k → 0 < count_at m.nodes k
run_used m hs o k h =
    ⊎_elim
    (λ inside. ⊎_elim (λ u. u) (λ z. absurd (omega (arith, ap (λ (x : Node). x.run) (o.freed k inside (omega arith))))) (cases_lt 0 (count_at m.nodes k)))
    (λ past. absurd (omega (arith, ap (λ (x : Node). x.run) (get_or_past m.nodes k blank past))))
    (cases_lt k (length m.nodes))

-- the order of the holders does not matter
pub ordered_like : (m : Memory) (hs gs : List ℕ) → ((k : ℕ) → times k hs ≡ times k gs) → Ordered m hs → Ordered m gs
ordered_like m hs gs e o =
    record {
      nodes_long = o.nodes_long;
      words_long = o.words_long;
      counts = λ k. omega (arith, o.counts k, e k);
      heights = o.heights;
      low = o.low;
      eight = o.eight;
      within = o.within;
      apart = o.apart;
      slotless = o.slotless;
      freed = o.freed;
      cleared = o.cleared;
    }

-- a node without slots reaches only itself
pub alone : (m : Memory) (i k : ℕ) → (node_at m i).slots ≡ no_slots → Reaches m.nodes i k → k ≡ i
alone m i k e here = refl
alone m i k e (step {b} r c h) =
    let none : 0 < times c (names no_slots) = subst (λ (ss : List (Option ℕ)). 0 < times c (names ss)) e (subst (λ (x : ℕ). 0 < times c (names (slots_at m.nodes x))) (alone m i b e r) h) in
    absurd (omega arith)

-- what holders reach before a change they reach after it, and the other way round
module _ (m q : Memory) (hs : List ℕ) (keeps : Keeps m q hs) where
  pub reaches_there : (a k : ℕ) → 0 < times a hs → Reaches m.nodes a k → Reaches q.nodes a k
  reaches_there a k h here = here
  reaches_there a k h (step {b} r c n) =
      step (reaches_there a b h r) c (subst (λ (x : Node). 0 < times c (names x.slots)) (sym (keeps b (a, h, r)).same_node) n)

  pub reaches_back : (a k : ℕ) → 0 < times a hs → Reaches q.nodes a k → Reaches m.nodes a k
  reaches_back a k h here = here
  reaches_back a k h (step {b} r c n) =
      let back = reaches_back a b h r in
      step back c (subst (λ (x : Node). 0 < times c (names x.slots)) (keeps b (a, h, back)).same_node n)

-- a node is not fresh unless it is in use now and was not
pub not_fresh : (a b : ℕ) → (a ≡ 0 → 0 < b → ⊥) → (eqb a 0 && not (eqb b 0)) ≡ false
not_fresh zero zero e = refl
not_fresh zero (suc b) e = absurd (e refl (omega arith))
not_fresh (suc a) b e = ap (λ (t : Bool). t && not (eqb b 0)) (ne_eqb (suc a) 0 (λ z. omega (arith, z)))

-- nothing is fresh where all that is in use was in use
pub fresh_none : (ns qs : List Node) → ((k : ℕ) → count_at ns k ≡ 0 → 0 < count_at qs k → ⊥) → fresh ns qs ≡ 0
fresh_none [] qs e = refl
fresh_none (x ∷ xs) [] e = refl
fresh_none (x ∷ xs) (y ∷ ys) e = rw (not_fresh x.count y.count (e 0), fresh) (fresh_none xs ys (λ k. e (suc k)))

unmade : (m : Memory) (i : ℕ) → InNeed (no_need m i) m m i
unmade m i =
    record {
      nodes = omega (arith, fresh_none m.nodes m.nodes (λ k z u. omega arith));
      words = λ k h. inl (record { same_start = refl; same_run = refl });
      one_run = λ k l ne h p. inl (record { same_start = refl; same_run = refl });
      height = omega arith;
    }

-- an array that is done with itself: it was done slot by slot, or it is whole
pub done_itself : (ks : Kinds) (es own : Encodings) (m : Memory) (hs : List ℕ) (i : ℕ) → Steppable ks es own m hs i → DoneGap ks es m i ⊎ WholeAt ks es m i → Finishes ks es (no_need m i) m hs i i m
done_itself ks es own m hs i st way =
    let o : Ordered m (i ∷ hs) = st.ordered in
    record {
      change = record { ordered = o; keeps = λ k h. record { same_node = refl; same_run = refl } };
      nothing_left = counts_exact m.nodes (i ∷ hs) o.counts (heights_falling m.nodes (i ∷ hs) o.counts o.heights);
      in_need = unmade m i;
      done =
          ⊎_elim
          (λ gap. inl gap)
          (λ whole. inr (record {
            whole = whole_gapless ks es m (i ∷ hs) o i whole;
            all_whole = all_whole ks es m (i ∷ hs) o i whole st.children;
            same_kind = refl;
            same_len = refl;
            carries = λ xs e. e;
          }))
          way;
    }

-- one node alone is fresh where all that is in use and was not is one node
pub fresh_one : (ns qs : List Node) (j : ℕ) → ((k : ℕ) → count_at ns k ≡ 0 → 0 < count_at qs k → k ≡ j) → fresh ns qs ≤ 1
fresh_one [] qs j e = omega arith
fresh_one (x ∷ xs) [] j e = omega arith
fresh_one (x ∷ xs) (y ∷ ys) zero e = go (eqb x.count 0 && not (eqb y.count 0)) (fresh_none xs ys (λ k z u. let q = e (suc k) z u in omega arith))
  where
    go : (b : Bool) → fresh xs ys ≡ 0 → elim b as (λ _. ℕ) [ true ↦ 1 + fresh xs ys | false ↦ fresh xs ys ] ≤ 1
    go true z = omega arith
    go false z = omega arith
fresh_one (x ∷ xs) (y ∷ ys) (suc j) e =
    rw (not_fresh x.count y.count (λ z u. let q = e 0 z u in omega arith), fresh)
    (fresh_one xs ys j (λ k z u. let q = e (suc k) z u in omega arith))
