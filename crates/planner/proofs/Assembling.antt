-- What an array of given fields does to a state in order.
use Rattle.std.proofs.Common.{◌≡◌, ℕ, zero, suc, ◌-◌, ◌<◌, ◌≤◌, ◌≢◌, Bool, true, false, ◌&&◌, not, eqb, leb, ltb, List, [], ◌∷◌, ◌++◌, length, take, drop, replicate, Some, None, Ok, Option, Result, sym, refl, ap, ◌∙◌, subst, arith}
use Rattle.std.proofs.lemmas.List.{length-append, length-map, length-replicate}
use Rattle.std.proofs.lemmas.Bool.{ltb-true, leb-true, eqb-true, eq-eqb, and_parts}
use Rattle.rows.specs.Kind.{Kinds}
use Rattle.pool.specs.declared.node.Node.{Node}
use Rattle.pool.specs.Memory.{Memory, node_at, count_at}
use Rattle.pool.specs.Counts.{names, times, here}
use Rattle.pool.specs.Order.{Ordered}
use Rattle.pool.specs.Inserting.{inserted, InsertedAt, Inserted}
use Rattle.pool.proofs.Counted.{held_used}
use Rattle.pool.proofs.Inserting.{inserted_is}
use Rattle.encodings.specs.declared.fields.Fields.{Fields}
use Rattle.encodings.specs.declared.fields.Shape.{Shape}
use Rattle.encodings.specs.Meaning.{Encodings, LawfulEncodings, slots_fit, present}
use Rattle.encodings.specs.Rows.{fields_of, shape_of, slots_of, gathered, given, shapes_of, SlotsFit, rows_of, WholeAt, AllWhole}
use Rattle.encodings.proofs.Keeping.{rows_kept}
use Rattle.encodings.proofs.Wholes.{all_whole, whole_rows}
use Rattle.planner.specs.declared.call.Refusal.{Refusal}
use Rattle.planner.specs.Calls.{Told, assemble, Said, done, refused}
use Rattle.planner.specs.Called.{State, root_at, with_root, placed, has_room, counted, child_roots, roots_exist, nodes_under, padded, fields_known, shapes, slots_for, node_of, assembled}
use Rattle.planner.specs.Law.{rows_under, rows_under_each}
use Rattle.planner.proofs.Ways.{result_both, true_ok, some_ok, none_ok}
use Rattle.planner.proofs.Gathering.{names_present, gathered_long, gathered_each, gathered_under, gathered_from}
use Rattle.planner.proofs.Holders.{names_at}
use Rattle.planner.proofs.Holding.{held_kept}
use Rattle.planner.proofs.Good.{Good, Step, rows_held, refused_step, root_held, below_whole, placed_step, rooted}

-- ---- the eight slots of a new array
names_none : (n : ℕ) → names (replicate n None) ≡ []
names_none zero = refl
names_none (suc n) = names_none n

names_padded : (cs : List ℕ) (n : ℕ) → names (present cs ++ replicate n None) ≡ cs
names_padded [] n = names_none n
names_padded (c ∷ cs) n = ap (λ (l : List ℕ). c ∷ l) (names_padded cs n)

take_padded : (cs : List ℕ) (n : ℕ) → take (length cs) (present cs ++ replicate n None) ≡ present cs
take_padded [] n = refl
take_padded (c ∷ cs) n = ap (λ (l : List (Option ℕ)). Some c ∷ l) (take_padded cs n)

drop_padded : (cs : List ℕ) (n : ℕ) → drop (length cs) (present cs ++ replicate n None) ≡ replicate n None
drop_padded [] n = refl
drop_padded (c ∷ cs) n = drop_padded cs n

padded_long : (cs : List ℕ) → length cs ≤ 8 → length (padded cs) ≡ 8
padded_long cs few =
    length-append (present cs) (replicate (8 - length cs) None)
    ∙ omega (arith, few, length-map cs (λ (c : ℕ). Some c), length-replicate {A = Option ℕ} (8 - length cs) None)

-- ---- fields and roots that pass the checks
-- fields of an encoding of the set that is not Flat
pub record Known (es : Encodings) (f : Fields) : Type 0 where
  pub has : es.has f.encoding ≡ true
  pub not_flat : f.encoding ≢ 1
  pub fields : es.fields_fit f ≡ true
  pub room : has_room f ≡ true

pub known_is : (ks : Kinds) (es : Encodings) → LawfulEncodings ks es → (f : Fields) → fields_known es f ≡ true → Known es f
known_is ks es law f e =
    let known = and_parts (es.has f.encoding) (not (eqb f.encoding 1) && es.fields_fit f) e in
    let other = and_parts (not (eqb f.encoding 1)) (es.fields_fit f) known.1 in
    let ranged = and_parts (ks.has f.kind) (leb f.len 1024 && leb f.arity 8) (law.ranged f known.0 other.1) in
    record {
      has = known.0;
      not_flat = λ h. not_both (sym (ap not (eq-eqb f.encoding 1 h)) ∙ other.0);
      fields = other.1;
      room = (and_parts (leb f.len 1024) (leb f.arity 8) ranged.1).1;
    }
  where
    not_both : false ≡ true → ⊥
    not_both h = let z : ◌≡◌ {A = ℕ} 0 1 = cc in omega arith

module _ (f : Fields) (rs : List ℕ) (room : has_room f ≡ true) where
  pub roots_all : child_roots f rs ≡ rs
  roots_all = ap (λ (b : Bool). elim b as (λ _. List ℕ) [ true ↦ rs | false ↦ [] ]) room

  pub counted_as : counted f rs ≡ true → length rs ≡ f.arity
  counted_as e =
      eqb-true (length rs) f.arity (sym (ap (λ (b : Bool). elim b as (λ _. Bool) [ true ↦ eqb (length rs) f.arity | false ↦ true ]) room) ∙ e)

-- What is known of slots where no check refuses.
pub record Chosen (es : Encodings) (s : State) (root : ℕ) (f : Fields) (rs : List ℕ) (ss : List (Option ℕ)) : Type 0 where
  pub low : root < 32
  pub empty : root_at s root ≡ None
  pub known : Known es f
  pub nodes : List ℕ
  pub under : nodes_under s rs ≡ Some nodes
  pub long : length nodes ≡ f.arity
  pub fit : slots_fit es f (shapes s.memory nodes) ≡ true
  pub is : ss ≡ padded nodes

pub chosen : (ks : Kinds) (es : Encodings) → LawfulEncodings ks es → (s : State) (root : ℕ) (f : Fields) (rs : List ℕ) (ss : List (Option ℕ)) → slots_for es s root f rs ≡ Ok ss → Chosen es s root f rs ss
chosen ks es law s root f rs ss e =
    let a = true_ok (counted f rs) _ _ ss e in
    let b = true_ok (ltb root 32 && roots_exist (child_roots f rs)) _ _ ss a.1 in
    let c = some_ok (nodes_under s (child_roots f rs)) _ _ ss b.1 in
    let d = none_ok (root_at s root) _ _ ss c.2 in
    let k = true_ok (fields_known es f) _ _ ss d.1 in
    let t = true_ok (slots_fit es f (shapes s.memory c.0)) _ _ ss k.1 in
    let known = known_is ks es law f k.0 in
    let under : nodes_under s rs ≡ Some c.0 = ap (λ (l : List ℕ). nodes_under s l) (sym (roots_all f rs known.room)) ∙ c.1 in
    record {
      low = ltb-true root 32 (and_parts (ltb root 32) (roots_exist (child_roots f rs)) b.0).0;
      empty = d.0;
      known = known;
      nodes = c.0;
      under = under;
      long = gathered_long (root_at s) rs c.0 under ∙ counted_as f rs known.room a.0;
      fit = t.0;
      is = sym (ok_same t.1);
    }
  where
    ok_same : {x y : List (Option ℕ)} → ◌≡◌ {A = Result (List (Option ℕ)) Refusal} (Ok x) (Ok y) → x ≡ y
    ok_same h = cc

-- ---- an array with such slots
module _ (es : Encodings) (s : State) (root : ℕ) (f : Fields) (rs : List ℕ) (ss : List (Option ℕ)) (x : Chosen es s root f rs ss) where
  abbrev m : Memory
  m = s.memory

  abbrev hs : List ℕ
  hs = names s.roots

  abbrev cs : List ℕ
  cs = x.nodes

  -- the slots that it has, and the others
  slots_taken : take f.arity ss ≡ present cs
  slots_taken =
      ap (λ (l : List (Option ℕ)). take f.arity l) x.is
      ∙ ap (λ (n : ℕ). take n (padded cs)) (sym x.long)
      ∙ take_padded cs (8 - length cs)

  slots_left : names (drop f.arity ss) ≡ []
  slots_left =
      ap (λ (l : List (Option ℕ)). names (drop f.arity l)) x.is
      ∙ ap (λ (n : ℕ). names (drop n (padded cs))) (sym x.long)
      ∙ ap names (drop_padded cs (8 - length cs))
      ∙ names_none (8 - length cs)

  slots_long : length ss ≡ 8
  slots_long = ap (λ (l : List (Option ℕ)). length l) x.is ∙ padded_long cs (omega (arith, leb-true f.arity 8 x.known.room, x.long))

  -- each of the children stands under a root
  child_held : (c : ℕ) → 0 < times c cs → 0 < times c hs
  child_held c h = let r = gathered_from (root_at s) rs cs x.under c h in names_at c s.roots r.0 r.1

  pub slots_used : Ordered m hs → (c : ℕ) → 0 < times c (names ss) → 0 < count_at m.nodes c
  slots_used ordered c h =
      let named : names ss ≡ cs = ap names x.is ∙ names_padded cs (8 - length cs) in
      held_used m.nodes hs c ordered.counts (c, child_held c (subst (λ (l : List ℕ). 0 < times c l) named h), here)

  module _ (ks : Kinds) (law : LawfulEncodings ks es) (good : Good ks es s) where
    abbrev call : Told
    call = assemble root f rs

    module _ (i : ℕ) (q : Memory) (b : InsertedAt m q (node_of f ss) hs i) where
      slots_are : slots_of (node_at q i) ≡ present cs
      slots_are = ap slots_of b.node ∙ slots_taken

      fields_are : fields_of (node_at q i) ≡ f
      fields_are = ap fields_of b.node

      other : (node_at q i).encoding ≢ 1
      other e = x.known.not_flat (sym (ap (λ (nd : Node). nd.encoding) b.node) ∙ e)

      shapes_are : shapes_of q (slots_of (node_at q i)) ≡ Some (shapes m cs)
      shapes_are =
          ap (shapes_of q) slots_are
          ∙ gathered_each (λ c. Some (shape_of (node_at q c))) (λ c. shape_of (node_at m c)) cs
          (λ c h. ap (λ (nd : Node). Some (shape_of nd)) (b.change.keeps c (c, child_held c h, here)).same_node)

      new_whole : WholeAt ks es q i
      new_whole =
          record {
            known = ap (λ (nd : Node). es.has nd.encoding) b.node ∙ x.known.has;
            fields_fit = ap es.fields_fit fields_are ∙ x.known.fields;
            slots_fit = subst (λ (o : Option (List Shape)). SlotsFit es (fields_of (node_at q i)) o) (sym shapes_are)
                (ap (λ (g : Fields). slots_fit es g (shapes m cs)) fields_are ∙ x.fit);
            no_more = ap (λ (nd : Node). names (drop nd.arity nd.slots)) b.node ∙ slots_left;
            flat_run = λ e. absurd (other e);
            flat_tidy = λ e. absurd (other e);
            bare = λ ne. ap (λ (nd : Node). nd.run) b.node;
          }

      child_among : (c : ℕ) → 0 < times c (names (slots_of (node_at q i))) → 0 < times c hs
      child_among c h = child_held c (subst (λ (l : List ℕ). 0 < times c l) (ap names slots_are ∙ names_present cs) h)

      all_new : AllWhole ks es q i
      all_new = all_whole ks es q (i ∷ hs) b.change.ordered i new_whole (λ c h. below_whole ks es s good q b.change.keeps c (child_among c h))

      -- its rows come from the rows of its children, which are as they were
      new_rows : rows_of ks es q i ≡ given es f (rows_under_each ks es s rs)
      new_rows =
          let in_use : 0 < count_at q.nodes i = omega (arith, ap (λ (nd : Node). nd.count) b.node) in
          let child : (r c : ℕ) → root_at s r ≡ Some c → rows_of ks es q c ≡ rows_under ks es s r
          = λ r c e. rows_kept ks es m q c (held_kept m q hs b.change.keeps c (root_held ks es s good r c e)) ∙ sym (rows_held ks es s r c e) in
          whole_rows ks es q (i ∷ hs) b.change.ordered law i in_use other all_new
          ∙ ap (λ (g : Fields). given es g (gathered (rows_of ks es q) (slots_of (node_at q i)))) fields_are
          ∙ ap (λ (l : List (Option ℕ)). given es f (gathered (rows_of ks es q) l)) slots_are
          ∙ ap (given es f) (gathered_under (root_at s) (rows_of ks es q) (rows_under ks es s) child rs cs x.under)

      new_step : Step ks es s call done (with_root s q root (Some i))
      new_step =
          let r = rooted ks es s good root i q x.low x.empty b.change all_new in
          record {
            good = r.good;
            effect = (x.low, (i, r.there));
            makes = r.rows ∙ new_rows;
            shares = tt;
            reads = tt;
            unchanged = tt;
            others = r.others;
          }

    inserted_step : Step ks es s call (placed s root (inserted m (node_of f ss))).0 (placed s root (inserted m (node_of f ss))).1
    inserted_step =
        placed_step ks es s good call root (λ r q. Inserted m q (node_of f ss) hs r) new_step (λ e q b. b.0) (inserted m (node_of f ss))
        (inserted_is m (node_of f ss) hs good.ordered (slots_used good.ordered) slots_long refl refl)

pub assemble_step : (ks : Kinds) (es : Encodings) → LawfulEncodings ks es → (s : State) → Good ks es s → (root : ℕ) (f : Fields) (rs : List ℕ) → Step ks es s (assemble root f rs) (assembled es s root f rs).0 (assembled es s root f rs).1
assemble_step ks es law s good root f rs =
    let Does : Said × State → Type 0 = λ p. Step ks es s (assemble root f rs) p.0 p.1 in
    result_both (slots_for es s root f rs) (λ e. (refused e, s)) (λ ss. placed s root (inserted s.memory (node_of f ss))) Does
    (λ e is. refused_step ks es s good (assemble root f rs) e)
    (λ ss is. inserted_step es s root f rs ss (chosen ks es law s root f rs ss is) ks law good)
