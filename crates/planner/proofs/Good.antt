-- A state in order, and what a call owes it.
use Rattle.std.proofs.Common.{◌≡◌, ℕ, ◌<◌, ◌≢◌, List, ◌∷◌, length, set, Some, None, Ok, Err, Option, Result, sym, refl, ap, ◌∙◌, subst, ⊎_elim, arith}
use Rattle.std.proofs.lemmas.List.{get_or-set_same, get_or-set_other, length-set}
use Rattle.std.proofs.lemmas.Bool.{cases_eq}
use Rattle.rows.specs.declared.row.Row.{Row}
use Rattle.rows.specs.Kind.{Kinds}
use Rattle.pool.specs.declared.node.PoolFault.{PoolFault}
use Rattle.pool.specs.Memory.{Memory, count_at}
use Rattle.pool.specs.Counts.{names, times, Reaches, here, Held}
use Rattle.pool.specs.Order.{Ordered, Keeps, Change}
use Rattle.pool.proofs.Counted.{heights_falling, held_used}
use Rattle.pool.proofs.Reached.{counts_exact}
use Rattle.encodings.specs.Meaning.{Encodings}
use Rattle.encodings.specs.Rows.{rows_of, WholeAt, AllWhole}
use Rattle.planner.specs.declared.call.Refusal.{Refusal}
use Rattle.planner.specs.declared.call.Refusal.TheVariants.{Pool}
use Rattle.planner.specs.Calls.{Told, make, assemble, share, release, read, Said, done, rows, refused}
use Rattle.planner.specs.Called.{State, root_at, with_root, placed}
use Rattle.planner.specs.Law.{rows_under, Makes, Shares, Reads, Unchanged, Spares, Others}
use Rattle.encodings.proofs.Answering.{ordered_like}
use Rattle.planner.proofs.Holders.{names_at, names_filled, held_other}
use Rattle.planner.proofs.Holding.{kept_whole}

-- A state in order: the pool under its roots, and every array whole.
pub record Good (ks : Kinds) (es : Encodings) (s : State) : Type 0 where
  pub roots_long : length s.roots ≡ 32
  pub ordered : Ordered s.memory (names s.roots)
  pub whole : (k : ℕ) → 0 < count_at s.memory.nodes k → WholeAt ks es s.memory k

-- what an accepted call leaves under its own root; any other call leaves the state as it was
abbrev pub Effect : State → Told → Said → State → Type 0
Effect s (make root kind n bytes) done t = (root < 32) × ((k : ℕ) × (root_at t root ≡ Some k))
Effect s (make root kind n bytes) (rows a b c d) t = ⊥
Effect s (make root kind n bytes) (refused e) t = t ≡ s
Effect s (assemble root f rs) done t = (root < 32) × ((k : ℕ) × (root_at t root ≡ Some k))
Effect s (assemble root f rs) (rows a b c d) t = ⊥
Effect s (assemble root f rs) (refused e) t = t ≡ s
Effect s (share to from) done t = (to < 32) × (from < 32) × ((k : ℕ) × (root_at t to ≡ Some k) × (root_at s from ≡ Some k))
Effect s (share to from) (rows a b c d) t = ⊥
Effect s (share to from) (refused e) t = t ≡ s
Effect s (release root) done t = (root < 32) × (root_at t root ≡ None)
Effect s (release root) (rows a b c d) t = ⊥
Effect s (release root) (refused e) t = t ≡ s
Effect s (read root) done t = ⊥
Effect s (read root) (rows a b c d) t = t ≡ s
Effect s (read root) (refused e) t = t ≡ s

pub record Step (ks : Kinds) (es : Encodings) (s : State) (c : Told) (a : Said) (t : State) : Type 0 where
  pub good : Good ks es t
  pub effect : Effect s c a t
  pub makes : Makes ks es s c a t
  pub shares : Shares ks es s c a t
  pub reads : Reads ks es s c a t
  pub unchanged : Unchanged s a t
  pub others : Others s c t

-- the rows under a root are those of the node that it holds
pub rows_held : (ks : Kinds) (es : Encodings) (s : State) (r k : ℕ) → root_at s r ≡ Some k → rows_under ks es s r ≡ rows_of ks es s.memory k
rows_held ks es s r k e = ap (λ (o : Option ℕ). elim o as (λ _. Option (List Row)) [ None ↦ None | Some j ↦ rows_of ks es s.memory j ]) e

-- the same state spares every root
pub same_spares : (s : State) (r : ℕ) → Spares s s r
same_spares s r = record { same_root = refl; same_array = λ k j e h. record { same_node = refl; same_run = refl } }

-- the array under another root, where all that the roots hold is kept
pub spared : (s : State) (q : Memory) (own r : ℕ) (o : Option ℕ) (hs : List ℕ) → Keeps s.memory q hs → ((k : ℕ) → root_at s r ≡ Some k → 0 < times k hs) → (r ≡ own → ⊥) → Spares s (with_root s q own o) r
spared s q own r o hs keeps holds ne =
    record {
      same_root = get_or-set_other s.roots own r o None ne;
      same_array = λ k j e h. keeps j (k, holds k e, h);
    }

-- what is so where an empty root has taken the array i of the memory q
pub record Rooted (ks : Kinds) (es : Encodings) (s : State) (root i : ℕ) (q : Memory) : Type 0 where
  pub good : Good ks es (with_root s q root (Some i))
  pub there : root_at (with_root s q root (Some i)) root ≡ Some i
  pub rows : rows_under ks es (with_root s q root (Some i)) root ≡ rows_of ks es q i
  pub others : (r : ℕ) → (r ≢ root) → Spares s (with_root s q root (Some i)) r

module _ (ks : Kinds) (es : Encodings) (s : State) (good : Good ks es s) where
  abbrev m : Memory
  m = s.memory

  abbrev hs : List ℕ
  hs = names s.roots

  -- a refusal leaves the state as it was
  pub refused_step : (c : Told) (e : Refusal) → Step ks es s c (refused e) s
  refused_step (make root kind n bytes) e = record { good = good; effect = refl; makes = tt; shares = tt; reads = tt; unchanged = refl; others = λ r h. same_spares s r }
  refused_step (assemble root f rs) e = record { good = good; effect = refl; makes = tt; shares = tt; reads = tt; unchanged = refl; others = λ r h. same_spares s r }
  refused_step (share to from) e = record { good = good; effect = refl; makes = tt; shares = tt; reads = tt; unchanged = refl; others = λ r h. same_spares s r }
  refused_step (release root) e = record { good = good; effect = refl; makes = tt; shares = tt; reads = tt; unchanged = refl; others = λ r h. same_spares s r }
  refused_step (read root) e = record { good = good; effect = refl; makes = tt; shares = tt; reads = tt; unchanged = refl; others = λ r h. same_spares s r }

  -- what a root holds is in use
  pub root_held : (r k : ℕ) → root_at s r ≡ Some k → Held m.nodes hs k
  root_held r k e = (k, names_at k s.roots r e, here)

  pub held_whole : (k : ℕ) → Held m.nodes hs k → WholeAt ks es m k
  held_whole k h = good.whole k (held_used m.nodes hs k good.ordered.counts h)

  -- what a root holds is whole after a change that keeps it
  pub below_whole : (q : Memory) → Keeps m q hs → (k : ℕ) → 0 < times k hs → AllWhole ks es q k
  below_whole q keeps k h j r = kept_whole m q hs keeps ks es held_whole j (k, h, r)

  -- what the building or insertion of an array owes, accepted or refused
  pub placed_step : (c : Told) (root : ℕ) (P : Result ℕ PoolFault → Memory → Type 0)
      → ((i : ℕ) (q : Memory) → P (Ok i) q → Step ks es s c done (with_root s q root (Some i)))
      → ((e : PoolFault) (q : Memory) → P (Err e) q → q ≡ m)
      → (b : Result ℕ PoolFault × Memory) → P b.0 b.1 → Step ks es s c (placed s root b).0 (placed s root b).1
  placed_step c root P step kept (Ok i, q) p = step i q p
  placed_step c root P step kept (Err e, q) p =
      let is : record { memory = q; roots = s.roots } ≡ s = ap (λ (x : Memory). record { memory = x; roots = s.roots }) (kept e q p) in
      subst (λ (t : State). Step ks es s c (refused (Pool e)) t) (sym is) (refused_step c (Pool e))

  -- an empty root takes a whole array that has one holder more
  pub rooted : (root i : ℕ) (q : Memory) → root < 32 → root_at s root ≡ None → Change m q (i ∷ hs) hs → AllWhole ks es q i → Rooted ks es s root i q
  rooted root i q low empty change whole =
      let inside : root < length s.roots = omega (arith, low, good.roots_long) in
      let there : root_at (with_root s q root (Some i)) root ≡ Some i = get_or-set_same s.roots root (Some i) None inside in
      let order : Ordered q (i ∷ hs) = change.ordered in
      let exact = counts_exact q.nodes (i ∷ hs) order.counts (heights_falling q.nodes (i ∷ hs) order.counts order.heights) in
      let by_holder : (a k : ℕ) → 0 < times a (i ∷ hs) → Reaches q.nodes a k → WholeAt ks es q k
      = λ a k h r. ⊎_elim
      (λ (e : a ≡ i). whole k (subst (λ (x : ℕ). Reaches q.nodes x k) e r))
      (λ (ne : a ≡ i → ⊥). below_whole q change.keeps a (held_other a i hs ne h) k r)
      (cases_eq a i) in
      record {
        good = record {
          roots_long = length-set s.roots root (Some i) ∙ good.roots_long;
          ordered = ordered_like q (i ∷ hs) (names (set s.roots root (Some i))) (λ x. names_filled x i s.roots root inside empty) order;
          whole = λ k u. let h = (exact k).0 u in by_holder h.0 k h.1 h.2;
        };
        there = there;
        rows = rows_held ks es (with_root s q root (Some i)) root i there;
        others = λ r ne. spared s q root r (Some i) hs change.keeps (λ k e. names_at k s.roots r e) ne;
      }
