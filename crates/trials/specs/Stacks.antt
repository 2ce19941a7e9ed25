-- Stack keeps the laws of rows and of steps, within any lawful set.
use Rattle.std.proofs.Common.{◌≡◌, ℕ, suc, ◌+◌, ◌<◌, ◌≤◌, ◌≢◌, ◌⊎◌, inl, inr, Bool, true, false, ◌&&◌, eqb, List, [], ◌∷◌, ◌++◌, length, get_or, set, drop, Some, None, Ok, Err, Option, Result, sym, refl, ap, ◌∙◌, subst, ⊎_elim, append_assoc, arith, rules}
use Rattle.std.proofs.lemmas.Bool.{and_parts, and_from, eqb-true, eq-eqb, ltb-true, cases_eq}
use Rattle.std.proofs.lemmas.List.{length-append, append-nil, length-take}
use Rattle.std.proofs.lemmas.Option.{none-some, same_Some}
use Rattle.rows.specs.declared.row.Row.{Row}
use Rattle.rows.specs.Kind.{Kinds}
use Rattle.rows.specs.Ours.{LawfulKinds}
use Rattle.pool.specs.declared.node.Node.{Node}
use Rattle.pool.specs.declared.node.PoolFault.{PoolFault}
use Rattle.pool.specs.declared.node.PoolFault.TheVariants.{Height, Nodes, Words}
use Rattle.pool.specs.Memory.{Memory, node_at, count_at, height_at, slots_at, run_at, with_count}
use Rattle.pool.specs.Counts.{names, times, Reaches, here, step, Held, Exact}
use Rattle.pool.specs.Order.{Ordered, SameAt, Keeps, Change}
use Rattle.pool.specs.Sharing.{release}
use Rattle.pool.specs.Finding.{lowest_free, LowestNode}
use Rattle.pool.specs.Inserting.{settled, inserted, InsertedAt, Inserted}
use Rattle.pool.specs.Slots.{slot_at}
use Rattle.pool.proofs.Copying.{same_trans}
use Rattle.pool.proofs.Counted.{times_here, hit_other, in_range, held_used, named_used, owed_used, heights_falling}
use Rattle.pool.proofs.Found.{lowest_free_is, lowest_one, free_none, free_some, find_none}
use Rattle.pool.proofs.Inserting.{inserted_is}
use Rattle.pool.proofs.Reached.{counts_exact}
use Rattle.pool.proofs.Releasing.{release_good, release_kept, release_change}
use Rattle.pool.proofs.Spared.{kept_used}
use Rattle.encodings.specs.declared.fields.Fields.{Fields}
use Rattle.encodings.specs.declared.fields.Shape.{Shape}
use Rattle.encodings.specs.declared.step.ExecutionStep.{ExecutionStep}
use Rattle.encodings.specs.declared.step.ExecutionStep.TheVariants.{ExecuteSlot, AppendChild, Done}
use Rattle.encodings.specs.declared.step.StepFault.{StepFault}
use Rattle.encodings.specs.declared.step.StepFault.TheVariants.{Pool}
use Rattle.encodings.specs.Meaning.{Encodings, LawfulEncodings, LawfulSet, Within, no_gap, present, lengths, Sized, slots_fit}
use Rattle.encodings.specs.Rows.{fields_of, shape_of, slots_of, offered, flat_rows, rows_of, AllWhole, Fills, StandsAt, lens_of, rest_by}
use Rattle.encodings.specs.Step.{Need, Steppable, Appends, Stood, InNeed, DoneGap, Finishes, StepAnswer, StepKeeps, LawfulSteps}
use Rattle.encodings.specs.Flattening.{no_need}
use Rattle.encodings.specs.Chunked.{sum_present, all_of_kind, sum_of_lengths}
use Rattle.encodings.proofs.Flats.{flat_rows_of}
use Rattle.encodings.proofs.Keeping.{Kept, reaches_on, times_take, offered_same, rows_kept, whole_kept}
use Rattle.encodings.proofs.Chunked.{sum_full, absent_gap, never_rowless, owed_less}
use Rattle.encodings.proofs.Wholes.{rows_of_is, all_whole, stands_whole, stands_within}
use Rattle.encodings.proofs.Answering.{rowless, refusal_nodes, refusal_last, unchanged_step, run_used, ordered_like, reaches_there, reaches_back, done_itself, fresh_one}
use Rattle.encodings.proofs.FlatteningLaw.{slot_among}
use Rattle.trials.specs.Stack.{stacked, stacked_present, stack_encodings, copies, copy_of, copy_need, stack_need, last_present, asked, slot_step, copied, stack_step, stack_steps}

-- ---- which rows
stacked_all : (cs : List (List Row)) → stacked_present (present cs) ≡ stacked cs
stacked_all [] = refl
stacked_all (c ∷ cs) = ap (λ (l : List Row). l ++ c) (stacked_all cs)

stacked_long : (os : List (Option (List Row))) → length (stacked_present os) ≡ sum_present (lengths os)
stacked_long [] = refl
stacked_long (None ∷ os) = stacked_long os
stacked_long (Some r ∷ os) = omega (arith, length-append (stacked_present os) r, stacked_long os)

sized_sum : (cs : List (List Row)) (ss : List Shape) → Sized (present cs) ss → sum_present (lengths (present cs)) ≡ sum_of_lengths ss
sized_sum [] [] s = refl
sized_sum [] (h ∷ hs) s = absurd s
sized_sum (c ∷ cs) [] s = absurd s
sized_sum (c ∷ cs) (h ∷ hs) s = omega (arith, s.0, sized_sum cs hs s.1)

-- slots that fit are some, and their children have the array's kind, and its length together
module _ (ks : Kinds) (f : Fields) (ss : List Shape) (fit : slots_fit (stack_encodings ks) f ss ≡ true) where
  fit_some : 0 < f.arity
  fit_some = ltb-true 0 f.arity (and_parts _ _ (and_parts _ _ fit).0).0

  fit_kinds : all_of_kind f.kind ss ≡ true
  fit_kinds = (and_parts _ _ (and_parts _ _ fit).1).0

  fit_lengths : sum_of_lengths ss ≡ f.len
  fit_lengths = eqb-true (sum_of_lengths ss) f.len (and_parts _ _ (and_parts _ _ fit).1).1

pub stack_lawful : (ks : Kinds) → LawfulEncodings ks (stack_encodings ks)
stack_lawful ks = record {
  builder_none = refl;
  flat = λ h. absurd (search rules);
  ranged = λ f has fit. (and_parts _ _ fit).0;
  long = λ f ss cs r fit sized e.
      ap length (sym (same_Some (stacked cs) r e) ∙ sym (stacked_all cs))
      ∙ stacked_long (present cs)
      ∙ sized_sum cs ss sized
      ∙ fit_lengths ks f ss fit.slots;
  rest_whole = λ f ss cs fit sized. ap (λ (l : List Row). Some l) (stacked_all cs);
  rest_length_whole = λ f ss os fit e. ap sum_present e ∙ sum_full ss ∙ fit_lengths ks f ss fit.slots;
  rest_long = λ f ss os r fit sized e. ap length (sym (same_Some (stacked_present os) r e)) ∙ stacked_long os;
}

-- ---- the last slot that is present
-- slot x is the last that is present, with the child c
data Last (c : ℕ) : List (Option ℕ) → ℕ → Type 0 where
  last : (ss : List (Option ℕ)) → names ss ≡ [] → Last c (Some c ∷ ss) 0
  later : (s : Option ℕ) (ss : List (Option ℕ)) (x : ℕ) → Last c ss x → Last c (s ∷ ss) (suc x)

-- the answer of the search from x on
abbrev LastFrom : List (Option ℕ) → ℕ → Option (ℕ × ℕ) → Type 0
LastFrom ss x None = names ss ≡ []
LastFrom ss x (Some p) = (y : ℕ) × (p.0 ≡ x + y) × Last p.1 ss y

last_from : (ss : List (Option ℕ)) (x : ℕ) → LastFrom ss x (last_present ss x)
last_from [] x = refl
last_from (None ∷ ss) x = go (last_present ss (suc x)) (last_from ss (suc x))
  where
    go : (o : Option (ℕ × ℕ)) → LastFrom ss (suc x) o → LastFrom (None ∷ ss) x o
    go None h = h
    go (Some p) h = (suc h.0, omega (arith, h.1), later None ss h.0 h.2)
last_from (Some c ∷ ss) x = go (last_present ss (suc x)) (last_from ss (suc x))
  where
    go : (o : Option (ℕ × ℕ)) → LastFrom ss (suc x) o → LastFrom (Some c ∷ ss) x (elim o as (λ _. Option (ℕ × ℕ)) [ None ↦ Some (x, c) | Some p ↦ Some p ])
    go None h = (0, omega arith, last ss h)
    go (Some p) h = (suc h.0, omega (arith, h.1), later (Some c) ss h.0 h.2)

last_slot : {c : ℕ} {ss : List (Option ℕ)} {x : ℕ} → Last c ss x → get_or ss x None ≡ Some c
last_slot (last ss h) = refl
last_slot (later s ss x l) = last_slot l

module _ (m : Memory) where
  last_kind : {c : ℕ} {ss : List (Option ℕ)} {x : ℕ} → Last c ss x → (kind : ℕ) (shapes : List Shape) → Fills m ss shapes → all_of_kind kind shapes ≡ true → (node_at m c).kind ≡ kind
  last_kind (last ss n) kind [] f e = absurd f
  last_kind (last ss n) kind (h ∷ hs) f e = ap (λ (s : Shape). s.kind) f.0 ∙ eqb-true h.kind kind (and_parts _ _ e).0
  last_kind (later None ss x l) kind [] f e = absurd f
  last_kind (later (Some d) ss x l) kind [] f e = absurd f
  last_kind (later None ss x l) kind (h ∷ hs) f e = last_kind l kind hs f (and_parts _ _ e).1
  last_kind (later (Some d) ss x l) kind (h ∷ hs) f e = last_kind l kind hs f.1 (and_parts _ _ e).1

  last_length : {c : ℕ} {ss : List (Option ℕ)} {x : ℕ} → Last c ss x → sum_present (lens_of m ss) ≡ (node_at m c).len + sum_present (lens_of m (set ss x None))
  last_length (last ss n) = refl
  last_length (later None ss x l) = last_length l
  last_length (later (Some d) ss x l) = omega (arith, last_length l)

-- the rows of the last begin those of all
abbrev Begins : List (Option (List Row)) → Option (List Row) → Option (List (Option (List Row))) → Type 0
Begins os child others = (r : List Row) × (later : List (Option (List Row))) × (child ≡ Some r) × (others ≡ Some later) × (stacked_present os ≡ r ++ stacked_present later)

-- what children offer, where one of them offers this
abbrev one_more : Option (List Row) → Option (List (Option (List Row))) → Option (List (Option (List Row)))
one_more o os = elim o [ None ↦ None | Some r ↦ elim os [ None ↦ None | Some l ↦ Some (Some r ∷ l) ] ]

abbrev gap_more : Option (List (Option (List Row))) → Option (List (Option (List Row)))
gap_more os = elim os [ None ↦ None | Some l ↦ Some (None ∷ l) ]

module _ (g : ℕ → Option (List Row)) where
  absent_rows : (ss : List (Option ℕ)) → names ss ≡ [] → (os : List (Option (List Row))) × (offered g ss ≡ Some os) × (stacked_present os ≡ [])
  absent_rows [] e = ([], refl, refl)
  absent_rows (None ∷ ss) e = let w = absent_rows ss e in (None ∷ w.0, ap gap_more w.1, w.2)
  absent_rows (Some c ∷ ss) e = absurd (omega (arith, ap length e))

  last_rows : {c : ℕ} {ss : List (Option ℕ)} {x : ℕ} → Last c ss x → (os : List (Option (List Row))) → offered g ss ≡ Some os → Begins os (g c) (offered g (set ss x None))
  last_rows {c} (last ss n) os e =
      let w = absent_rows ss n in
      go (g c) refl (ap (λ (o : Option (List (Option (List Row)))). one_more (g c) o) (sym w.1) ∙ e)
    where
      go : (o : Option (List Row)) → g c ≡ o → one_more o (Some (absent_rows ss n).0) ≡ Some os → Begins os (g c) (gap_more (offered g ss))
      go None a q = absurd (none-some os q)
      go (Some r) a q =
          let w = absent_rows ss n in
          (r, None ∷ w.0, a, ap gap_more w.1, ap (λ (l : List (Option (List Row))). stacked_present l) (sym (same_Some (Some r ∷ w.0) os q)) ∙ ap (λ (l : List Row). l ++ r) w.2 ∙ sym (append-nil r) ∙ ap (λ (l : List Row). r ++ l) (sym w.2))
  last_rows {c} (later None ss x l) os e = go (offered g ss) (last_rows l) e
    where
      go : (o : Option (List (Option (List Row)))) → ((ps : List (Option (List Row))) → o ≡ Some ps → Begins ps (g c) (offered g (set ss x None))) → gap_more o ≡ Some os → Begins os (g c) (gap_more (offered g (set ss x None)))
      go None r q = absurd (none-some os q)
      go (Some ps) r q =
          let w = r ps refl in
          (w.0, None ∷ w.1, w.2, ap gap_more w.3, ap (λ (t : List (Option (List Row))). stacked_present t) (sym (same_Some (None ∷ ps) os q)) ∙ w.4)
  last_rows {c} (later (Some d) ss x l) os e = go (g d) (offered g ss) (last_rows l) e
    where
      go : (a : Option (List Row)) (o : Option (List (Option (List Row)))) → ((ps : List (Option (List Row))) → o ≡ Some ps → Begins ps (g c) (offered g (set ss x None))) → one_more a o ≡ Some os → Begins os (g c) (one_more a (offered g (set ss x None)))
      go None o r q = absurd (none-some os q)
      go (Some b) None r q = absurd (none-some os q)
      go (Some b) (Some ps) r q =
          let w = r ps refl in (
            w.0,
            Some b ∷ w.1,
            w.2,
            ap (λ (t : Option (List (Option (List Row)))). one_more (Some b) t) w.3,
            ap (λ (t : List (Option (List Row))). stacked_present t) (sym (same_Some (Some b ∷ ps) os q)) ∙ ap (λ (t : List Row). t ++ b) w.4 ∙ append_assoc w.0 (stacked_present w.1) b,
          )

-- what is stacked of what children offer
abbrev stacked_of : Option (List (Option (List Row))) → Option (List Row)
stacked_of os = elim os [ None ↦ None | Some l ↦ Some (stacked_present l) ]

stacked_some : (os : Option (List (Option (List Row)))) (r : List Row) → stacked_of os ≡ Some r → (l : List (Option (List Row))) × (os ≡ Some l) × (r ≡ stacked_present l)
stacked_some None r e = absurd (none-some r e)
stacked_some (Some l) r e = (l, refl, sym (same_Some (stacked_present l) r e))

-- ---- a Stack within a set
module _ (ks : Kinds) (es : Encodings) (within : Within (stack_encodings ks) es) where
  rest_is : (m : Memory) (k : ℕ) → (node_at m k).encoding ≡ 20 → (ss : List (Option ℕ)) → rest_by ks es m k ss ≡ stacked_of (offered (rows_of ks es m) ss)
  rest_is m k e ss = go (offered (rows_of ks es m) ss)
    where
      go : (o : Option (List (Option (List Row)))) → elim o as (λ _. Option (List Row)) [ None ↦ None | Some os ↦ es.rest (fields_of (node_at m k)) os ] ≡ stacked_of o
      go None = refl
      go (Some os) = within.rest (fields_of (node_at m k)) (eq-eqb _ _ e) (λ z. omega (arith, e, z)) os

  stack_rows : (m : Memory) (hs : List ℕ) → Ordered m hs → (k : ℕ) → 0 < count_at m.nodes k → (node_at m k).encoding ≡ 20 → rows_of ks es m k ≡ stacked_of (offered (rows_of ks es m) (slots_of (node_at m k)))
  stack_rows m hs o k u e = rows_of_is ks es m hs o k u (λ z. omega (arith, e, z)) ∙ rest_is m k e (slots_of (node_at m k))

  module _ (law : LawfulSet ks es) (m : Memory) (hs : List ℕ) (i : ℕ) (st : Steppable ks es (stack_encodings ks) m hs i) where
    abbrev nd : Node
    nd = node_at m i

    abbrev ss : List (Option ℕ)
    ss = slots_of nd

    id : nd.encoding ≡ 20
    id = eqb-true nd.encoding 20 st.mine

    not_flat : nd.encoding ≢ 1
    not_flat e = omega (arith, id, e)

    used : 0 < count_at m.nodes i
    used = owed_used m.nodes i hs st.ordered.counts

    mine : StandsAt (stack_encodings ks) m i
    mine = stands_within ks es m (i ∷ hs) st.ordered (stack_encodings ks) within i st.mine st.stands

    rows_are : rows_of ks es m i ≡ stacked_of (offered (rows_of ks es m) ss)
    rows_are = stack_rows m (i ∷ hs) st.ordered i used id

    -- it is never refused for want of rows
    rows_there : rowless m i (rows_of ks es m i) ≡ None
    rows_there = never_rowless ks es m i (λ os e. (stacked_present os, rows_are ∙ ap stacked_of e))

    -- ---- a slot
    module _ (x c : ℕ) (l : Last c ss x) where
      slot_present : slot_at m i x ≡ Some c
      slot_present = slot_among nd.arity x c (slots_at m.nodes i) (last_slot l)

      slot_appends : (node_at m c).encoding ≡ 1 → Appends ks es m m i x
      slot_appends flat =
          record {
            child = c;
            present = slot_present;
            flat = flat;
            kind = last_kind m l nd.kind mine.shapes mine.fills (fit_kinds ks (fields_of nd) mine.shapes mine.slots_fit);
            rows = λ r e.
                let v = stacked_some (offered (rows_of ks es m) ss) r (sym rows_are ∙ e) in
                let w = last_rows (rows_of ks es m) l v.0 v.1 in
                let first : flat_rows ks m c ≡ w.0 = same_Some (flat_rows ks m c) w.0 (sym (flat_rows_of ks es m c flat) ∙ w.2) in (
                  stacked_present w.1,
                  rest_is m i id (set ss x None) ∙ ap stacked_of w.3,
                  v.2 ∙ w.4 ∙ ap (λ (t : List Row). t ++ stacked_present w.1) (sym first),
                );
            length = owed_less within m i st.mine not_flat ss (set ss x None) (node_at m c).len (last_length m l);
            same = refl;
          }

      slot_answers : StepAnswer ks es (no_need m i) m hs i (Ok (asked x (node_at m c).encoding)) m
      slot_answers = go (eqb (node_at m c).encoding 1) refl
        where
          go : (b : Bool) → eqb (node_at m c).encoding 1 ≡ b → StepAnswer ks es (no_need m i) m hs i (Ok (elim b as (λ _. ExecutionStep) [ true ↦ AppendChild x | false ↦ ExecuteSlot x (elim (eqb (node_at m c).encoding 4) [ true ↦ 1 | false ↦ 20 ]) ])) m
          go true e = slot_appends (eqb-true (node_at m c).encoding 1 e)
          go false e = record { child = c; present = slot_present; same = refl }

    -- with no slot present nothing is owed
    slots_done : names ss ≡ [] → DoneGap ks es m i
    slots_done e =
        let some = fit_some ks (fields_of nd) mine.shapes mine.slots_fit in
        let eight = st.ordered.eight i (in_range m.nodes i used) in
        let w = absent_rows (rows_of ks es m) ss e in
        record {
          gap = absent_gap ss (omega (arith, some, eight, length-take nd.arity (slots_at m.nodes i))) e;
          empty = rows_are ∙ ap stacked_of w.1 ∙ ap (λ (t : List Row). Some t) w.2;
        }

    slot_keeps : StepKeeps ks es (no_need m i) m hs i (Ok (slot_step m i)) m
    slot_keeps =
        record {
          refusals = sym (unchanged_step m (i ∷ hs) i (rows_of ks es m i) st.ordered ∙ rows_there);
          answer = go (last_present ss 0) (last_from ss 0);
        }
      where
        go : (o : Option (ℕ × ℕ)) → LastFrom ss 0 o → StepAnswer ks es (no_need m i) m hs i (Ok (elim o as (λ _. ExecutionStep) [ None ↦ Done i | Some p ↦ asked p.0 (node_at m p.1).encoding ])) m
        go None h = done_itself ks es (stack_encodings ks) m hs i st (inl (slots_done h))
        go (Some p) h = slot_answers p.0 p.1 (subst (λ (y : ℕ). Last p.1 ss y) (omega (arith, h.1)) h.2)

    -- ---- a copy of parameter 0 at j, as b has it, and i released
    module _ (b : Memory) (j : ℕ) (at : InsertedAt m b (copy_of nd) (i ∷ hs) j) where
      abbrev q : Memory
      q = release b i

      ordered_b : Ordered b (i ∷ (j ∷ hs))
      ordered_b = ordered_like b (j ∷ (i ∷ hs)) (i ∷ (j ∷ hs)) (λ k. omega arith) at.change.ordered

      left : Change b q (j ∷ hs) (j ∷ hs)
      left = release_change b i (j ∷ hs) ordered_b

      j_held : 0 < times j (j ∷ hs)
      j_held = times_here j hs

      same_slots : (k : ℕ) → 0 < count_at m.nodes k → slots_at b.nodes k ≡ slots_at m.nodes k
      same_slots k u = ap (λ (x : Node). x.slots) (at.others k u).same_node

      -- what is in use in b and was not is j
      reached_old : (a k : ℕ) → (a ≡ j) ⊎ (0 < count_at m.nodes a) → Reaches b.nodes a k → (k ≡ j) ⊎ (0 < count_at m.nodes k)
      reached_old a k old here = old
      reached_old a k old (step {b = x} r c h) =
          inr (⊎_elim
          (λ e. named_used m.nodes (i ∷ hs) st.ordered.counts i c used (subst (λ (ts : List (Option ℕ)). 0 < times c (names ts)) (ap (λ (y : ℕ). slots_at b.nodes y) e ∙ ap (λ (y : Node). y.slots) at.node) h))
          (λ u. named_used m.nodes (i ∷ hs) st.ordered.counts x c u (subst (λ (ts : List (Option ℕ)). 0 < times c (names ts)) (same_slots x u) h))
          (reached_old a x old r))

      exact : Exact q.nodes (j ∷ hs)
      exact = counts_exact q.nodes (j ∷ hs) left.ordered.counts (heights_falling q.nodes (j ∷ hs) left.ordered.counts left.ordered.heights)

      used_before : (k : ℕ) → 0 < count_at q.nodes k → 0 < count_at b.nodes k
      used_before k u = (kept_used (node_at b k) (node_at q k) ((release_good b i (j ∷ hs) ordered_b).spared.kept k) u).0

      new_or_old : (k : ℕ) → 0 < count_at q.nodes k → (k ≡ j) ⊎ (0 < count_at m.nodes k)
      new_or_old k u =
          let o : Ordered b (j ∷ (i ∷ hs)) = at.change.ordered in
          let h : Held b.nodes (j ∷ (i ∷ hs)) k = (counts_exact b.nodes (j ∷ (i ∷ hs)) o.counts (heights_falling b.nodes (j ∷ (i ∷ hs)) o.counts o.heights) k).0 (used_before k u) in
          reached_old h.0 k
          (⊎_elim
          (λ e. inl e)
          (λ ne. inr (held_used m.nodes (i ∷ hs) h.0 st.ordered.counts (h.0, omega (arith, h.1, hit_other j h.0 (λ e. ne (sym e))), here)))
          (cases_eq h.0 j))
          h.2

      old_same : (k : ℕ) → 0 < count_at m.nodes k → 0 < count_at q.nodes k → SameAt m q k
      old_same k u v = same_trans m b q k (at.others k u) (release_kept b i (j ∷ hs) ordered_b k v)

      others_kept : Keeps m q hs
      others_kept k h =
          same_trans m b q k
          (at.change.keeps k (h.0, omega (arith, h.1), h.2))
          (left.keeps k (h.0, omega (arith, h.1), reaches_there m b hs (λ x g. at.change.keeps x (g.0, omega (arith, g.1), g.2)) h.0 k h.1 h.2))

      -- ---- what it reaches is as it was
      made : node_at q j ≡ with_count (settled m (copy_of nd)) (count_at q.nodes j)
      made = (left.keeps j (j, j_held, here)).same_node ∙ ap (λ (x : Node). with_count x (count_at q.nodes j)) at.node

      named_all : (c : ℕ) → 0 < times c (names ss) → 0 < times c (names nd.slots)
      named_all c h = omega (arith, h, times_take c nd.arity nd.slots)

      under_used : (c k : ℕ) → 0 < times c (names ss) → Reaches m.nodes c k → 0 < count_at m.nodes k
      under_used c k h r = held_used m.nodes (i ∷ hs) k st.ordered.counts (i, times_here i hs, reaches_on (step here c (named_all c h)) r)

      under_new : (c k : ℕ) → 0 < times c (names ss) → Reaches m.nodes c k → Reaches b.nodes j k
      under_new c k h here = step here c (subst (λ (x : Node). 0 < times c (names x.slots)) (sym at.node) (named_all c h))
      under_new c k h (step {b = x} r d n) =
          step (under_new c x h r) d (subst (λ (ts : List (Option ℕ)). 0 < times d (names ts)) (sym (same_slots x (under_used c x h r))) n)

      child_kept : (c : ℕ) → 0 < times c (names ss) → Kept m q c
      child_kept c h k r = same_trans m b q k (at.others k (under_used c k h r)) (left.keeps k (j, j_held, under_new c k h r))

      child_whole : (c : ℕ) → 0 < times c (names ss) → AllWhole ks es q c
      child_whole c h k r =
          let back : Reaches m.nodes c k
          = reaches_back m q (c ∷ []) (λ x g. child_kept c h x (subst (λ (y : ℕ). Reaches m.nodes y x) (only c g.0 g.1) g.2)) c k (times_here c []) r in
          whole_kept ks es m q k (λ x g. child_kept c h x (reaches_on back g)) (st.children c h k back)
        where
          only : (x y : ℕ) → 0 < times y (x ∷ []) → y ≡ x
          only x y g = ⊎_elim (λ e. sym e) (λ ne. absurd (omega (arith, hit_other x y ne))) (cases_eq x y)

      -- ---- it is whole
      fills_kept : (ts : List (Option ℕ)) (shapes : List Shape) → ((c : ℕ) → 0 < times c (names ts) → SameAt m q c) → Fills m ts shapes → Fills q ts shapes
      fills_kept [] [] same f = tt
      fills_kept [] (h ∷ shapes) same f = f
      fills_kept (None ∷ ts) [] same f = f
      fills_kept (Some c ∷ ts) [] same f = f
      fills_kept (None ∷ ts) (h ∷ shapes) same f = fills_kept ts shapes same f
      fills_kept (Some c ∷ ts) (h ∷ shapes) same f =
          (ap shape_of (same c (times_here c (names ts))).same_node ∙ f.0, fills_kept ts shapes (λ d g. same d (omega arith)) f.1)

      abbrev fields : Fields
      fields = fields_of (copy_of nd)

      fields_good : es.fields_fit fields ≡ true
      fields_good = within.fields_fit fields st.mine ∙ and_from _ _ (and_parts _ _ mine.fields_fit).0 refl

      slots_good : slots_fit es fields mine.shapes ≡ true
      slots_good =
          (λ t. within.count_fits fields st.mine t && (within.kinds_fit fields st.mine mine.shapes t && within.lengths_fit fields st.mine mine.shapes t))
          ∙ mine.slots_fit

      j_stands : StandsAt es q j
      j_stands =
          record {
            known = subst (λ (x : Node). es.has x.encoding ≡ true) (sym made) st.stands.known;
            fields_fit = subst (λ (x : Node). es.fields_fit (fields_of x) ≡ true) (sym made) fields_good;
            shapes = mine.shapes;
            fills = subst (λ (x : Node). Fills q (slots_of x) mine.shapes) (sym made) (fills_kept ss mine.shapes (λ c h. child_kept c h c here) mine.fills);
            slots_fit = subst (λ (x : Node). slots_fit es (fields_of x) mine.shapes ≡ true) (sym made) slots_good;
            no_more = subst (λ (x : Node). names (drop x.arity x.slots) ≡ []) (sym made) st.stands.no_more;
            bare = λ ne. ap (λ (x : Node). x.run) made;
          }

      j_slots : slots_of (node_at q j) ≡ ss
      j_slots = ap slots_of made

      j_id : (node_at q j).encoding ≡ 20
      j_id = ap (λ (x : Node). x.encoding) made ∙ id

      j_used : 0 < count_at q.nodes j
      j_used = owed_used q.nodes j hs left.ordered.counts

      j_whole : no_gap ss ≡ true → AllWhole ks es q j
      j_whole gapless =
          all_whole ks es q (j ∷ hs) left.ordered j
          (stands_whole ks es q (j ∷ hs) left.ordered j j_stands (ap no_gap j_slots ∙ gapless) (λ z. omega (arith, j_id, z)))
          (λ c h. child_whole c (subst (λ (ts : List (Option ℕ)). 0 < times c (names ts)) j_slots h))

      -- ---- it has the rows of i
      j_rows : rows_of ks es q j ≡ rows_of ks es m i
      j_rows =
          stack_rows q (j ∷ hs) left.ordered j j_used j_id
          ∙ ap (λ (ts : List (Option ℕ)). stacked_of (offered (rows_of ks es q) ts)) j_slots
          ∙ ap stacked_of (offered_same (rows_of ks es q) (rows_of ks es m) ss (λ c h. rows_kept ks es m q c (child_kept c h)))
          ∙ sym rows_are

      -- ---- it is within its need
      stood : (k : ℕ) → 0 < run_at q.nodes k → Stood m q k
      stood k h =
          let u = run_used q (j ∷ hs) left.ordered k h in
          ⊎_elim
          (λ e. absurd (omega (arith, h, ap (λ (y : ℕ). run_at q.nodes y) e, ap (λ (x : Node). x.run) made)))
          (λ old. let s = old_same k old u in record { same_start = ap (λ (x : Node). x.start) s.same_node; same_run = ap (λ (x : Node). x.run) s.same_node })
          (new_or_old k u)

      in_need : InNeed (copy_need m i) m q j
      in_need =
          record {
            nodes = fresh_one m.nodes q.nodes j (λ k z u. ⊎_elim (λ e. e) (λ old. absurd (omega (arith, old, z))) (new_or_old k u));
            words = λ k h. inl (stood k h);
            one_run = λ k l ne h g. inl (stood k h);
            height = omega (arith, ap (λ (x : Node). x.height) made, st.ordered.heights i used);
          }

      replaced : no_gap ss ≡ true → Finishes ks es (copy_need m i) m hs i j q
      replaced gapless =
          record {
            change = record { ordered = left.ordered; keeps = others_kept };
            nothing_left = exact;
            in_need = in_need;
            done = inr (record {
              whole = gapless;
              all_whole = j_whole gapless;
              same_kind = ap (λ (x : Node). x.kind) made;
              same_len = ap (λ (x : Node). x.len) made;
              carries = λ xs e. j_rows ∙ e;
            });
          }

    -- ---- the copy, and when it is refused
    abbrev rest : Option (List Row)
    rest = rows_of ks es m i

    -- what is answered, where the insertion gave this
    abbrev answered : Result ℕ PoolFault × Memory → Result ExecutionStep StepFault × Memory
    answered p = elim p.0 [ Err e ↦ (Err (Pool e), p.1) | Ok j ↦ (Ok (Done j), release p.1 i) ]

    low : height_at m.nodes i ≤ 32
    low = st.ordered.low i

    found : (o : Option ℕ) → LowestNode m.nodes o → lowest_free m.nodes 0 ≡ o
    found o h = lowest_one m.nodes (lowest_free m.nodes 0) o (lowest_free_is m.nodes) h

    copy_keeps : no_gap ss ≡ true → StepKeeps ks es (copy_need m i) m hs i (copied m i).0 (copied m i).1
    copy_keeps gapless =
        go (inserted m (copy_of nd))
        (inserted_is m (copy_of nd) (i ∷ hs) st.ordered
        (λ c h. named_used m.nodes (i ∷ hs) st.ordered.counts i c used h)
        (st.ordered.eight i (in_range m.nodes i used)) refl refl)
      where
        go : (p : Result ℕ PoolFault × Memory) → Inserted m p.1 (copy_of nd) (i ∷ hs) p.0 → StepKeeps ks es (copy_need m i) m hs i (answered p).0 (answered p).1
        go (Err Height, b) h = absurd (omega (arith, h.1, st.ordered.heights i used, low))
        go (Err Nodes, b) h =
            record { refusals = sym (refusal_nodes (copy_need m i) m i rest low (omega (arith, free_none m.nodes (found None h.1.1)))); answer = h.0 }
        go (Err Words, b) h = absurd h.1
        go (Ok j, b) h =
            record {
              refusals = sym (refusal_last (copy_need m i) m i 0 rest low (free_some m.nodes j (found (Some j) h.lowest)) (find_none m) ∙ rows_there);
              answer = replaced b j h gapless;
            }

    step_keeps : StepKeeps ks es (stack_need m i) m hs i (stack_step m i).0 (stack_step m i).1
    step_keeps = go (copies m i) refl
      where
        go : (t : Bool) → copies m i ≡ t
            → let n = elim t as (λ _. Need) [ true ↦ copy_need m i | false ↦ no_need m i ] in
            let p = elim t as (λ _. Result ExecutionStep StepFault × Memory) [ true ↦ copied m i | false ↦ (Ok (slot_step m i), m) ] in
            StepKeeps ks es n m hs i p.0 p.1
        go true e = copy_keeps (and_parts (eqb nd.parameter 1) (no_gap ss) e).1
        go false e = slot_keeps

pub stack_keeps : (ks : Kinds) → LawfulKinds ks → LawfulSteps ks (stack_encodings ks) (stack_steps ks)
stack_keeps ks kinds es law within m hs i st = step_keeps ks es within law m hs i st
