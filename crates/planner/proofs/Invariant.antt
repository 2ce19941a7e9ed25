-- A planner's ghost fields say that its pool is in order.
use Rattle.std.proofs.Common.{◌≡◌, ℕ, true, List, [], ◌∷◌, length, replicate, Some, None, Option, refl, ap, ◌∙◌, arith}
use Rattle.std.proofs.lemmas.Bool.{and_parts, eqb-true}
use Rattle.pool.specs.declared.node.Node.{Node}
use Rattle.pool.specs.Memory.{Memory, no_slots, free_node}
use Rattle.pool.specs.Counts.{names, Counts, Heights}
use Rattle.pool.specs.Order.{Low, Eight, Within, Apart, Slotless, Freed, Cleared, Ordered}
use Rattle.planner.specs.declared.planner.Planner.{Planner}
use Rattle.planner.specs.Seen.{state_of}
use Rattle.planner.specs.Invariant.{Disjoint, absent, vacant, Vacant}

absent_slots : (ss : List (Option ℕ)) → absent ss ≡ true → ss ≡ replicate (length ss) None
absent_slots [] e = refl
absent_slots (None ∷ ss) e = ap (λ (l : List (Option ℕ)). None ∷ l) (absent_slots ss e)
absent_slots (Some c ∷ ss) e = let z : ◌≡◌ {A = ℕ} 0 1 = cc in absurd (omega arith)

-- a node from its fields
abbrev node : ℕ → ℕ → ℕ → ℕ → ℕ → List (Option ℕ) → ℕ → ℕ → ℕ → ℕ → Node
node e k l p a ss h c s r = record { encoding = e; kind = k; len = l; parameter = p; arity = a; slots = ss; height = h; count = c; start = s; run = r }

vacant_free : (nd : Node) → vacant nd ≡ true → nd.count ≡ 0 → length nd.slots ≡ 8 → nd ≡ free_node
vacant_free nd v count long =
    let p1 = and_parts _ _ v in
    let p2 = and_parts _ _ p1.1 in
    let p3 = and_parts _ _ p2.1 in
    let p4 = and_parts _ _ p3.1 in
    let p5 = and_parts _ _ p4.1 in
    let p6 = and_parts _ _ p5.1 in
    let p7 = and_parts _ _ p6.1 in
    let p8 = and_parts _ _ p7.1 in
    let slots : nd.slots ≡ no_slots = absent_slots nd.slots p8.1 ∙ ap (λ (n : ℕ). replicate n None) long in
    ap (λ (x : ℕ). node x nd.kind nd.len nd.parameter nd.arity nd.slots nd.height nd.count nd.start nd.run) (eqb-true _ _ p1.0)
    ∙ ap (λ (x : ℕ). node 0 x nd.len nd.parameter nd.arity nd.slots nd.height nd.count nd.start nd.run) (eqb-true _ _ p2.0)
    ∙ ap (λ (x : ℕ). node 0 0 x nd.parameter nd.arity nd.slots nd.height nd.count nd.start nd.run) (eqb-true _ _ p3.0)
    ∙ ap (λ (x : ℕ). node 0 0 0 x nd.arity nd.slots nd.height nd.count nd.start nd.run) (eqb-true _ _ p4.0)
    ∙ ap (λ (x : ℕ). node 0 0 0 0 x nd.slots nd.height nd.count nd.start nd.run) (eqb-true _ _ p5.0)
    ∙ ap (λ (ss : List (Option ℕ)). node 0 0 0 0 0 ss nd.height nd.count nd.start nd.run) slots
    ∙ ap (λ (x : ℕ). node 0 0 0 0 0 no_slots x nd.count nd.start nd.run) (eqb-true _ _ p6.0)
    ∙ ap (λ (x : ℕ). node 0 0 0 0 0 no_slots 0 x nd.start nd.run) count
    ∙ ap (λ (x : ℕ). node 0 0 0 0 0 no_slots 0 0 x nd.run) (eqb-true _ _ p7.0)
    ∙ ap (λ (x : ℕ). node 0 0 0 0 0 no_slots 0 0 0 x) (eqb-true _ _ p8.0)

pub freed_of : (ns : List Node) → Eight ns → Vacant ns → Freed ns
freed_of ns eight v k h e = vacant_free _ (v k (h, e)) e (eight k h)

pub vacant_of : (ns : List Node) → Freed ns → Vacant ns
vacant_of ns f k h = ap (λ (nd : Node). vacant nd) (f k h.0 h.1)

pub apart_of : (ns : List Node) → Disjoint ns → Apart ns
apart_of ns d j k ne a b l = d j k (ne, a, b, l)

pub disjoint_of : (ns : List Node) → Apart ns → Disjoint ns
disjoint_of ns a j k h = a j k h.0 h.1 h.2 h.3

-- the pool of a planner is in order under its roots
pub ordered_of : {K E B M : Type 0} (p : Planner K E B M) → Ordered (state_of p).memory (names p.roots)
ordered_of p =
    record {
      nodes_long = p.nodes_long;
      words_long = p.words_long;
      counts = p.counts;
      heights = p.heights;
      low = p.low;
      eight = p.eight;
      within = p.within;
      apart = apart_of p.pool.nodes.now p.apart;
      slotless = p.slotless;
      freed = freed_of p.pool.nodes.now p.eight p.freed;
      cleared = p.cleared;
    }

-- what a planner's ghost fields say, by name
abbrev pub Ghosts : Memory → List (Option ℕ) → Type 0
Ghosts m rs = record {
  roots_long : length rs ≡ 32;
  nodes_long : length m.nodes ≡ 256;
  words_long : length m.words ≡ 8192;
  counts : Counts m.nodes (names rs);
  heights : Heights m.nodes;
  low : Low m.nodes;
  eight : Eight m.nodes;
  within : Within m.nodes m.words;
  apart : Disjoint m.nodes;
  slotless : Slotless m.nodes;
  freed : Vacant m.nodes;
  cleared : Cleared m.nodes m.words;
}

pub ghosts_of : (m : Memory) (rs : List (Option ℕ)) → length rs ≡ 32 → Ordered m (names rs) → Ghosts m rs
ghosts_of m rs long o =
    record {
      roots_long = long;
      nodes_long = o.nodes_long;
      words_long = o.words_long;
      counts = o.counts;
      heights = o.heights;
      low = o.low;
      eight = o.eight;
      within = o.within;
      apart = disjoint_of m.nodes o.apart;
      slotless = o.slotless;
      freed = vacant_of m.nodes o.freed;
      cleared = o.cleared;
    }
