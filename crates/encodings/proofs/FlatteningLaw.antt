-- The law of steps for encodings that wait until their children are Flat.
use Rattle.std.proofs.Common.{◌≡◌, ℕ, zero, suc, ◌+◌, ◌<◌, ◌≤◌, ◌≢◌, ◌⊎◌, inl, inr, Bool, true, false, ◌&&◌, eqb, nat_le, List, [], ◌∷◌, map, length, get_or, take, drop, Some, None, Ok, Err, Option, Result, sym, refl, ap, ◌∙◌, subst, ⊎_elim, arith}
use Rattle.std.proofs.lemmas.Bool.{and_parts, and_from, cases_eq, eq-eqb, eqb-true, true≢false}
use Rattle.std.proofs.lemmas.Option.{none-some, same_Some}
use Rattle.std.specs.List.{range_with_len}
use Rattle.rows.specs.declared.row.Row.{Row}
use Rattle.rows.specs.Kind.{Kind, Kinds, LawfulKind, Taken, rows}
use Rattle.rows.specs.Ours.{LawfulKinds}
use Rattle.rows.proofs.Appending.{rows_long}
use Rattle.pool.specs.declared.node.Node.{Node}
use Rattle.pool.specs.declared.node.PoolFault.{PoolFault}
use Rattle.pool.specs.Memory.{Memory, node_at, count_at, slots_at, run_at, run_of}
use Rattle.pool.specs.Counts.{names, times, Reaches, here, Held, Exact}
use Rattle.pool.specs.Order.{SameAt, Keeps, Change}
use Rattle.pool.specs.Sharing.{release}
use Rattle.pool.specs.Finding.{lowest_free, find_run, free_nodes}
use Rattle.pool.specs.Building.{opened, append_rows, finished, built}
use Rattle.pool.proofs.Counted.{heights_falling, held_used, hit_same, hit_other}
use Rattle.pool.proofs.Copying.{same_trans}
use Rattle.pool.proofs.Found.{free_none, free_some}
use Rattle.pool.proofs.Reached.{counts_exact}
use Rattle.pool.proofs.Releasing.{release_change}
use Rattle.pool.proofs.Building.{Built, Outcome, built_is, opened_by}
use Rattle.encodings.specs.declared.fields.Fields.{Fields}
use Rattle.encodings.specs.declared.fields.Shape.{Shape}
use Rattle.encodings.specs.declared.step.ExecutionStep.{ExecutionStep}
use Rattle.encodings.specs.declared.step.ExecutionStep.TheVariants.{ExecuteSlot, Done}
use Rattle.encodings.specs.declared.step.StepFault.{StepFault}
use Rattle.encodings.specs.declared.step.StepFault.TheVariants.{Pool, NoRows}
use Rattle.encodings.specs.Meaning.{Encodings, LawfulSet, FlatIn, Within, in_range, flat_fields, slots_fit, no_gap, present, Sized, all_present, undivided}
use Rattle.encodings.specs.Rows.{fields_of, slots_of, gathered, offered, flat_rows, rows_of, shapes_of, SlotsFit, Fills, WholeAt, StandsAt, given}
use Rattle.encodings.specs.Step.{Need, all_flat, refusal, fault, Steppable, Stood, Lowest, InNeed, Finishes, StepAnswer, StepKeeps, LawfulSteps}
use Rattle.encodings.specs.Flattening.{flat_need, no_need, first_encoded, flat_given, flattened, flattening_need, flattening_step, flattening_steps}
use Rattle.encodings.proofs.Flats.{flat_rows_of}
use Rattle.encodings.proofs.Keeping.{rows_kept, whole_kept}
use Rattle.encodings.proofs.Wholes.{rows_of_is, all_whole, stands_whole, whole_long, whole_rows_at, stands_within}
use Rattle.encodings.proofs.Fillings.{none_encoded}
use Rattle.encodings.proofs.Answering.{rowless, rowless_none, unchanged_step, refusal_last, refusal_nodes, refusal_words, run_used, ordered_like, alone, reaches_there, reaches_back, fresh_one}

-- ---- a Flat array built in the place of i, which is released
module _ (ks : Kinds) (es : Encodings) (set : LawfulSet ks es) (m b : Memory) (hs : List ℕ) (kind len : ℕ) (rs : List Row) (j : ℕ) (bu : Built ks m b hs kind len rs j) where
  -- a Flat array that is built is whole
  pub built_whole : (f : Fields) → f.kind ≡ kind → f.len ≡ len → in_range ks f ≡ true → WholeAt ks es b j
  built_whole f same_kind same_len range =
      let nd : Node = node_at b j in
      let flat : FlatIn ks es = set.lawful.flat set.has_flat in
      let known = and_parts (ks.has f.kind) _ range in
      let fit : flat_fields ks (fields_of nd) ≡ true
      = and_from _ _
      (and_from _ _ (ap (λ (x : ℕ). ks.has x) (bu.kind_is ∙ sym same_kind) ∙ known.0)
      (and_from _ _ (ap (λ (x : ℕ). nat_le x 1024) (bu.len_is ∙ sym same_len) ∙ (and_parts (nat_le f.len 1024) _ known.1).0)
      (ap (λ (x : ℕ). nat_le x 8) bu.arity_is)))
      (eq-eqb _ _ bu.parameter_is) in
      let slots : slots_fit es (fields_of nd) [] ≡ true
      = and_from _ _ (flat.count (fields_of nd) bu.encoding_is ∙ eq-eqb _ _ bu.arity_is)
      (and_from _ _ (flat.kinds (fields_of nd) [] bu.encoding_is) (flat.lengths (fields_of nd) [] bu.encoding_is)) in
      record {
        known = ap (λ (x : ℕ). es.has x) bu.encoding_is ∙ set.has_flat;
        fields_fit = flat.fields (fields_of nd) bu.encoding_is ∙ fit;
        slots_fit = subst (λ (ss : List (Option ℕ)). SlotsFit es (fields_of nd) (shapes_of b ss)) (sym (ap (λ (x : ℕ). take x nd.slots) bu.arity_is)) slots;
        no_more = ap (λ (x : ℕ). names (drop x nd.slots)) bu.arity_is ∙ ap (λ (ss : List (Option ℕ)). names ss) bu.slots_is;
        flat_run = λ e. bu.run_is ∙ sym (ap (λ (x : ℕ). (ks.kind x).words nd.len) bu.kind_is ∙ ap (λ (x : ℕ). (ks.kind kind).words x) bu.len_is);
        flat_tidy = λ e. ap (λ (x : ℕ). (ks.kind x).tidy nd.len (run_of b j)) bu.kind_is ∙ ap (λ (x : ℕ). (ks.kind kind).tidy x (run_of b j)) bu.len_is ∙ bu.tidy_is;
        bare = λ ne. absurd (ne bu.encoding_is);
      }

  -- and its rows are those
  pub built_rows : rows_of ks es b j ≡ Some rs
  built_rows =
      flat_rows_of ks es b j bu.encoding_is
      ∙ ap (λ (x : ℕ). Some (rows (ks.kind x) (node_at b j).len (run_of b j))) bu.kind_is
      ∙ ap (λ (x : ℕ). Some (rows (ks.kind kind) x (run_of b j))) bu.len_is
      ∙ ap (λ (l : List Row). Some l) bu.rows_is

-- i is replaced by a Flat array of its kind and length
module _ (ks : Kinds) (kinds : LawfulKinds ks) (es own : Encodings) (set : LawfulSet ks es) (m : Memory) (hs : List ℕ) (i : ℕ) (st : Steppable ks es own m hs i) where
  abbrev kind : ℕ
  kind = (node_at m i).kind

  abbrev len : ℕ
  len = (node_at m i).len

  module _ (b : Memory) (rs : List Row) (j : ℕ) (bu : Built ks m b (i ∷ hs) kind len rs j) where
    q : Memory
    q = release b i

    left : Change b q (j ∷ hs) (j ∷ hs)
    unfolding q
    left = release_change b i (j ∷ hs) (ordered_like b (j ∷ (i ∷ hs)) (i ∷ (j ∷ hs)) (λ k. omega arith) bu.change.ordered)

    others_kept : Keeps m q hs
    others_kept k h =
        same_trans m b q k
        (bu.change.keeps k (h.0, omega (arith, h.1), h.2))
        (left.keeps k (h.0, omega (arith, h.1), reaches_there m b hs (λ x g. bu.change.keeps x (g.0, omega (arith, g.1), g.2)) h.0 k h.1 h.2))

    under_j : (k : ℕ) → Reaches b.nodes j k → SameAt b q k
    under_j k r = left.keeps k (j, omega (arith, hit_same j j refl), r)

    j_kept : SameAt b q j
    j_kept = under_j j here

    j_alone : (k : ℕ) → Reaches q.nodes j k → k ≡ j
    j_alone k r = alone q j k (ap (λ (x : Node). x.slots) j_kept.same_node ∙ bu.slots_is) r

    exact : Exact q.nodes (j ∷ hs)
    exact = counts_exact q.nodes (j ∷ hs) left.ordered.counts (heights_falling q.nodes (j ∷ hs) left.ordered.counts left.ordered.heights)

    -- what is in use is the new array, or it is as it was
    new_or_old : (k : ℕ) → 0 < count_at q.nodes k → (k ≡ j) ⊎ ((0 < count_at m.nodes k) × SameAt m q k)
    new_or_old k u =
        let h : Held q.nodes (j ∷ hs) k = (exact k).0 u in
        ⊎_elim
        (λ e. inl (j_alone k (subst (λ (x : ℕ). Reaches q.nodes x k) e h.2)))
        (λ ne.
        let a : 0 < times h.0 hs = omega (arith, h.1, hit_other j h.0 (λ e. ne (sym e))) in
        let old : Held m.nodes hs k = (h.0, a, reaches_back m q hs others_kept h.0 k a h.2) in
        inr (held_used m.nodes (i ∷ hs) k st.ordered.counts (old.0, omega (arith, a), old.2), others_kept k old))
        (cases_eq h.0 j)

    run_same : (k : ℕ) → SameAt m q k → Stood m q k
    run_same k s = record { same_start = ap (λ (x : Node). x.start) s.same_node; same_run = ap (λ (x : Node). x.run) s.same_node }

    -- a run is the new array's, or it stood
    new_or_stood : (k : ℕ) → 0 < run_at q.nodes k → (k ≡ j) ⊎ Stood m q k
    new_or_stood k h = ⊎_elim (λ e. inl e) (λ old. inr (run_same k old.1)) (new_or_old k (run_used q (j ∷ hs) left.ordered k h))

    j_run : run_at q.nodes j ≡ (ks.kind kind).words len
    j_run = ap (λ (x : Node). x.run) j_kept.same_node ∙ bu.run_is

    j_lowest : Lowest ((ks.kind kind).words len) m q j
    j_lowest =
        record {
          few = omega (arith, j_run);
          lowest = ap (λ (n : ℕ). find_run m n) j_run ∙ bu.start_is ∙ ap (λ (x : Node). Some x.start) (sym j_kept.same_node);
        }

    kept_in_need : InNeed (flat_need ks m i) m q j
    kept_in_need =
        record {
          nodes = fresh_one m.nodes q.nodes j (λ k z u. ⊎_elim (λ e. e) (λ old. absurd (omega (arith, old.0))) (new_or_old k u));
          words = λ k h. ⊎_elim (λ e. inr (subst (λ (x : ℕ). Lowest ((ks.kind kind).words len) m q x) (sym e) j_lowest)) (λ s. inl s) (new_or_stood k h);
          one_run = λ k l ne h p.
              ⊎_elim
              (λ e. ⊎_elim (λ d. absurd (ne (e ∙ sym d))) (λ s. inr s) (new_or_stood l p))
              (λ s. inl s)
              (new_or_stood k h);
          height = omega (arith, ap (λ (x : Node). x.height) j_kept.same_node, bu.height_is);
        }

    j_whole : WholeAt ks es q j
    j_whole =
        whole_kept ks es b q j under_j
        (built_whole ks es set m b (i ∷ hs) kind len rs j bu (fields_of (node_at m i)) refl refl (set.lawful.ranged (fields_of (node_at m i)) st.stands.known st.stands.fields_fit))

    j_rows : rows_of ks es q j ≡ Some rs
    j_rows = rows_kept ks es b q j under_j ∙ built_rows ks es set m b (i ∷ hs) kind len rs j bu

    replaced : no_gap (slots_of (node_at m i)) ≡ true → rows_of ks es m i ≡ Some rs → Finishes ks es (flat_need ks m i) m hs i j (release b i)
    unfolding q
    replaced gapless whole =
        record {
          change = record { ordered = left.ordered; keeps = others_kept };
          nothing_left = exact;
          in_need = kept_in_need;
          done = inr (record {
            whole = gapless;
            all_whole = λ k r. subst (λ (x : ℕ). WholeAt ks es q x) (sym (j_alone k r)) j_whole;
            same_kind = ap (λ (x : Node). x.kind) j_kept.same_node ∙ bu.kind_is;
            same_len = ap (λ (x : Node). x.len) j_kept.same_node ∙ bu.len_is;
            carries = λ xs e. j_rows ∙ sym whole ∙ e;
          });
        }

  -- ---- when it is refused
  abbrev need : Need
  need = flat_need ks m i

  few : (j : ℕ) → lowest_free m.nodes 0 ≡ Some j → need.nodes ≤ free_nodes m.nodes
  few j e = omega (arith, free_some m.nodes j e)

  many : lowest_free m.nodes 0 ≡ None → free_nodes m.nodes < need.nodes
  many e = omega (arith, free_none m.nodes e)

  refused_none : all_flat m (slots_of (node_at m i)) ≡ true → fault (flattened ks m i None).0 ≡ refusal need m i None
  refused_none flat = go (lowest_free m.nodes 0) refl (find_run m need.words) refl
    where
      go : (f : Option ℕ) → lowest_free m.nodes 0 ≡ f → (r : Option ℕ) → find_run m need.words ≡ r
          → fault (elim (opened_by m kind len need.words f r).0 as (λ _. Result ExecutionStep StepFault × Memory) [ Err e ↦ (Err (Pool e), m) | Ok j ↦ (Err NoRows, m) ]).0 ≡ refusal need m i None
      go None a r c = sym (refusal_nodes need m i None (omega arith) (many a))
      go (Some j) a None c = sym (refusal_words need m i None (omega arith) (few j a) c)
      go (Some j) a (Some s) c = sym (refusal_last need m i s None (omega arith) (few j a) c ∙ rw (flat, rowless) refl)

  -- what a build makes of what was opened, and what is answered then
  abbrev filled : List Row → Result ℕ PoolFault × Memory → Result ℕ PoolFault × Memory
  filled rs o = elim o.0 [ Err e ↦ (Err e, o.1) | Ok j ↦ (Ok j, finished (append_rows ks o.1 j 0 rs) j) ]

  abbrev answered : Result ℕ PoolFault × Memory → Result ExecutionStep StepFault × Memory
  answered b = elim b.0 [ Err e ↦ (Err (Pool e), m) | Ok j ↦ (Ok (Done j), release b.1 i) ]

  refused_some : (rs : List Row) → fault (flattened ks m i (Some rs)).0 ≡ refusal need m i (Some rs)
  refused_some rs = go (lowest_free m.nodes 0) refl (find_run m need.words) refl
    where
      go : (f : Option ℕ) → lowest_free m.nodes 0 ≡ f → (r : Option ℕ) → find_run m need.words ≡ r
          → fault (answered (filled rs (opened_by m kind len need.words f r))).0 ≡ refusal need m i (Some rs)
      go None a r c = sym (refusal_nodes need m i (Some rs) (omega arith) (many a))
      go (Some j) a None c = sym (refusal_words need m i (Some rs) (omega arith) (few j a) c)
      go (Some j) a (Some s) c = sym (refusal_last need m i s (Some rs) (omega arith) (few j a) c ∙ rowless_none m i rs)

  -- ---- what it answers
  answers_none : StepAnswer ks es need m hs i (flattened ks m i None).0 (flattened ks m i None).1
  answers_none = go (opened m kind len need.words).0
    where
      go : (r : Result ℕ PoolFault) → let p = elim r as (λ _. Result ExecutionStep StepFault × Memory) [ Err e ↦ (Err (Pool e), m) | Ok j ↦ (Err NoRows, m) ] in StepAnswer ks es need m hs i p.0 p.1
      go (Err e) = refl
      go (Ok j) = refl

  answers_some : (rs : List Row) → no_gap (slots_of (node_at m i)) ≡ true → rows_of ks es m i ≡ Some rs → length rs ≡ len → Taken (ks.kind kind) rs → StepAnswer ks es need m hs i (flattened ks m i (Some rs)).0 (flattened ks m i (Some rs)).1
  answers_some rs gapless whole long taken = go (built ks m kind len rs) (built_is ks m (i ∷ hs) kind len rs (kinds.lawful kind) st.ordered long taken)
    where
      go : (b : Result ℕ PoolFault × Memory) → Outcome ks m (i ∷ hs) kind len rs b.0 b.1 → StepAnswer ks es need m hs i (answered b).0 (answered b).1
      go (Err e, b) same = refl
      go (Ok j, b) bu = replaced b rs j bu gapless whole

  -- the step of an array, of which no slot is absent, and every child Flat, with these rows or none
  pub flattened_keeps : (o : Option (List Row)) → no_gap (slots_of (node_at m i)) ≡ true → all_flat m (slots_of (node_at m i)) ≡ true → rows_of ks es m i ≡ o
      → ((rs : List Row) → o ≡ Some rs → (length rs ≡ (node_at m i).len) × Taken (ks.kind (node_at m i).kind) rs)
      → StepKeeps ks es (flat_need ks m i) m hs i (flattened ks m i o).0 (flattened ks m i o).1
  flattened_keeps None gapless flat whole fit =
      record { refusals = refused_none flat ∙ ap (λ (o : Option (List Row)). refusal need m i o) (sym whole); answer = answers_none }
  flattened_keeps (Some rs) gapless flat whole fit =
      let w = fit rs refl in
      record {
        refusals = refused_some rs ∙ ap (λ (o : Option (List Row)). refusal need m i o) (sym whole);
        answer = answers_some rs gapless whole w.0 w.1;
      }

  -- the step of an array that never had slots, and has no rows
  pub emptied_keeps : slots_of (node_at m i) ≡ [] → rows_of ks es m i ≡ Some [] → (node_at m i).len ≡ 0 → StepKeeps ks es (flat_need ks m i) m hs i (flattened ks m i (Some [])).0 (flattened ks m i (Some [])).1
  emptied_keeps none whole short =
      flattened_keeps (Some []) (ap no_gap none) (ap (all_flat m) none) whole
      (λ rs e. let z : [] ≡ rs = same_Some [] rs e in (ap length (sym z) ∙ sym short, subst (λ (l : List Row). Taken (ks.kind (node_at m i).kind) l) z tt))

-- ---- children that are Flat
-- rows of children of this kind are rows that the kind takes
abbrev pub KindTaken : Kinds → ℕ → List (List Row) → List Shape → Type 0
KindTaken ks kind [] shapes = Unit {0}
KindTaken ks kind (c ∷ cs) [] = Unit {0}
KindTaken ks kind (c ∷ cs) (h ∷ shapes) = (h.kind ≡ kind → Taken (ks.kind kind) c) × KindTaken ks kind cs shapes

-- what the kind of an array takes, where it takes the rows of the array's children of its kind
abbrev pub TakenRows : Kinds → Encodings → Type 0
TakenRows ks own =
    (f : Fields) (shapes : List Shape) (cs : List (List Row)) (rs : List Row) → own.has f.encoding ≡ true → own.fields_fit f ≡ true → slots_fit own f shapes ≡ true
    → Sized (present cs) shapes → KindTaken ks f.kind cs shapes → own.rows f cs ≡ Some rs → Taken (ks.kind f.kind) rs

-- rows that are read are taken
rows_taken : (kd : Kind) → LawfulKind kd → (n : ℕ) (run : List ℕ) (xs : List ℕ) → Taken kd (map (kd.row n run) xs)
rows_taken kd law n run [] = tt
rows_taken kd law n run (x ∷ xs) = (law.row_taken n run x, rows_taken kd law n run xs)

-- slot y, counted from x, is present, and the slots' children are not all Flat
abbrev Asked : Bool → List (Option ℕ) → ℕ → ℕ → Type 0
Asked flat ss x y = (flat ≡ false) × ((d c : ℕ) × (y ≡ x + d) × (get_or ss d None ≡ Some c))

module _ (m : Memory) where
  -- the slot that is asked for is present
  some_encoded : (ss : List (Option ℕ)) (x y : ℕ) → first_encoded m ss x ≡ Some y → Asked (all_flat m ss) ss x y
  some_encoded [] x y e = absurd (none-some y e)
  some_encoded (None ∷ ss) x y e = let r = some_encoded ss (suc x) y e in (r.0, (suc r.1.0, r.1.1, omega (arith, r.1.2), r.1.3))
  some_encoded (Some c ∷ ss) x y e = go (eqb (node_at m c).encoding 1) (some_encoded ss (suc x) y) e
    where
      go : (b : Bool) → (first_encoded m ss (suc x) ≡ Some y → Asked (all_flat m ss) ss (suc x) y) → elim b as (λ _. Option ℕ) [ true ↦ first_encoded m ss (suc x) | false ↦ Some x ] ≡ Some y → Asked (b && all_flat m ss) (Some c ∷ ss) x y
      go true r e = let a = r e in (a.0, (suc a.1.0, a.1.1, omega (arith, a.1.2), a.1.3))
      go false r e = (refl, (0, c, omega (arith, same_Some x y e), refl))

-- a slot that is among the first n is a slot
pub slot_among : (n d c : ℕ) (ss : List (Option ℕ)) → get_or (take n ss) d None ≡ Some c → get_or ss d None ≡ Some c
slot_among zero d c ss e = absurd (none-some c e)
slot_among (suc n) d c [] e = e
slot_among (suc n) zero c (s ∷ ss) e = e
slot_among (suc n) (suc d) c (s ∷ ss) e = slot_among n d c ss e

-- where a slot is absent, what the children offer is not all there
abbrev Absent : Option (List (Option (List Row))) → Type 0
Absent None = Unit {0}
Absent (Some os) = all_present os ≡ None

gap_absent : (g : ℕ → Option (List Row)) (ss : List (Option ℕ)) → no_gap ss ≡ false → Absent (offered g ss)
gap_absent g [] e = absurd (true≢false e)
gap_absent g (None ∷ ss) e = go (offered g ss)
  where
    go : (o : Option (List (Option (List Row)))) → Absent (elim o as (λ _. Option (List (Option (List Row)))) [ None ↦ None | Some os ↦ Some (None ∷ os) ])
    go None = tt
    go (Some os) = refl
gap_absent g (Some c ∷ ss) e = go (g c) (offered g ss) (gap_absent g ss e)
  where
    go : (r : Option (List Row)) (o : Option (List (Option (List Row)))) → Absent o → Absent (elim r as (λ _. Option (List (Option (List Row)))) [ None ↦ None | Some l ↦ elim o [ None ↦ None | Some os ↦ Some (Some l ∷ os) ] ])
    go None o a = tt
    go (Some l) None a = tt
    go (Some l) (Some os) a = rw (a, all_present) refl

module _ (ks : Kinds) (m : Memory) where
  -- the rows of the children that the slots name
  abbrev pub children_rows : List (Option ℕ) → List (List Row)
  children_rows ss = map (flat_rows ks m) (names ss)

  pub gathered_flat : (ss : List (Option ℕ)) → no_gap ss ≡ true → gathered (λ c. Some (flat_rows ks m c)) ss ≡ Some (children_rows ss)
  gathered_flat [] e = refl
  gathered_flat (None ∷ ss) e = absurd (true≢false (sym e))
  gathered_flat (Some c ∷ ss) e = rw (gathered_flat ss e, gathered) refl

  gathered_rows : (es : Encodings) (ss : List (Option ℕ)) → no_gap ss ≡ true → all_flat m ss ≡ true → gathered (rows_of ks es m) ss ≡ Some (children_rows ss)
  gathered_rows es [] e flat = refl
  gathered_rows es (None ∷ ss) e flat = absurd (true≢false (sym e))
  gathered_rows es (Some c ∷ ss) e flat =
      let p = and_parts (eqb (node_at m c).encoding 1) (all_flat m ss) flat in
      rw (flat_rows_of ks es m c (eqb-true (node_at m c).encoding 1 p.0), gathered_rows es ss e p.1, gathered) refl

  -- they are as many as the shapes say, and are taken
  children_fit : LawfulKinds ks → (kind : ℕ) (ss : List (Option ℕ)) (shapes : List Shape) → no_gap ss ≡ true → Fills m ss shapes → Sized (present (children_rows ss)) shapes × KindTaken ks kind (children_rows ss) shapes
  children_fit law kind [] [] e f = (tt, tt)
  children_fit law kind [] (h ∷ shapes) e f = absurd f
  children_fit law kind (None ∷ ss) shapes e f = absurd (true≢false (sym e))
  children_fit law kind (Some c ∷ ss) [] e f = absurd f
  children_fit law kind (Some c ∷ ss) (h ∷ shapes) e f =
      let nd : Node = node_at m c in
      let r = children_fit law kind ss shapes e f.1 in (
        (rows_long (ks.kind nd.kind) nd.len (run_of m c) ∙ ap (λ (s : Shape). s.len) f.0, r.0),
        (
          λ same. subst (λ (k : ℕ). Taken (ks.kind k) (flat_rows ks m c)) (ap (λ (s : Shape). s.kind) f.0 ∙ same)
              (rows_taken (ks.kind nd.kind) (law.lawful nd.kind) nd.len (run_of m c) (range_with_len 0 nd.len)),
          r.1,
        ),
      )

-- ---- the law
module _ (ks : Kinds) (kinds : LawfulKinds ks) (own : Encodings) (other : own.has 1 ≡ false) (whole : (f : Fields) (os : List (Option (List Row))) → own.has f.encoding ≡ true → own.rest f os ≡ undivided own.rows f os) (takes : TakenRows ks own)
    (es : Encodings) (set : LawfulSet ks es) (within : Within own es) (m : Memory) (hs : List ℕ) (i : ℕ) (st : Steppable ks es own m hs i) where
  abbrev ss : List (Option ℕ)
  ss = slots_of (node_at m i)

  abbrev fs : Fields
  fs = fields_of (node_at m i)

  used : 0 < count_at m.nodes i
  used = omega (arith, st.ordered.counts i, hit_same i i refl)

  not_flat : (node_at m i).encoding ≢ 1
  not_flat e = true≢false (sym st.mine ∙ ap (λ (x : ℕ). own.has x) e ∙ other)

  -- a slot is asked for
  asks : (x : ℕ) → first_encoded m ss 0 ≡ Some x → StepKeeps ks es (no_need m i) m hs i (Ok (ExecuteSlot x 1)) m
  asks x e =
      let a = some_encoded m ss 0 x e in
      let at : x ≡ a.1.0 = omega (arith, a.1.2) in
      record {
        refusals = sym (unchanged_step m (i ∷ hs) i (rows_of ks es m i) st.ordered ∙ rw (a.0, rowless) refl);
        answer = record {
          child = a.1.1;
          present = ap (λ (d : ℕ). get_or (slots_at m.nodes i) d None) at ∙ slot_among (node_at m i).arity a.1.0 a.1.1 (slots_at m.nodes i) a.1.3;
          same = refl;
        };
      }

  -- a slot is absent, and so there are no rows
  pub gap_rows : no_gap ss ≡ false → rows_of ks es m i ≡ None
  gap_rows gap = rows_of_is ks es m (i ∷ hs) st.ordered i used not_flat ∙ go (offered (rows_of ks es m) ss) (gap_absent (rows_of ks es m) ss gap)
    where
      go : (o : Option (List (Option (List Row)))) → Absent o → elim o as (λ _. Option (List Row)) [ None ↦ None | Some os ↦ es.rest fs os ] ≡ None
      go None a = refl
      go (Some os) a = within.rest fs st.mine not_flat os ∙ whole fs os st.mine ∙ rw (a, undivided) refl

  lacks : first_encoded m ss 0 ≡ None → no_gap ss ≡ false → StepKeeps ks es (no_need m i) m hs i (Err NoRows) m
  lacks e gap =
      record {
        refusals = sym (unchanged_step m (i ∷ hs) i (rows_of ks es m i) st.ordered ∙ rw (none_encoded m ss 0 e, gap_rows gap, rowless) refl);
        answer = refl;
      }

  -- every child is there, and Flat
  module _ (gapless : no_gap ss ≡ true) (flat : all_flat m ss ≡ true) where
    i_whole : WholeAt ks es m i
    i_whole = stands_whole ks es m (i ∷ hs) st.ordered i st.stands gapless not_flat

    given_is : flat_given ks own m i ≡ own.rows fs (children_rows ks m ss)
    given_is = ap (λ (o : Option (List (List Row))). given own fs o) (gathered_flat ks m ss gapless)

    rows_is : rows_of ks es m i ≡ own.rows fs (children_rows ks m ss)
    rows_is =
        whole_rows_at ks es m (i ∷ hs) st.ordered set.lawful i used not_flat i_whole st.children
        ∙ ap (λ (o : Option (List (List Row))). given es fs o) (gathered_rows ks m es ss gapless flat)
        ∙ within.rows fs st.mine not_flat (children_rows ks m ss)

    pub rows_given : rows_of ks es m i ≡ flat_given ks own m i
    rows_given = rows_is ∙ sym given_is

    pub rows_fit : (rs : List Row) → flat_given ks own m i ≡ Some rs → (length rs ≡ (node_at m i).len) × Taken (ks.kind (node_at m i).kind) rs
    rows_fit rs e =
        let mine : StandsAt own m i = stands_within ks es m (i ∷ hs) st.ordered own within i st.mine st.stands in
        let c = children_fit ks m kinds (node_at m i).kind ss mine.shapes gapless mine.fills in (
          whole_long ks es m (i ∷ hs) st.ordered set.lawful i used (all_whole ks es m (i ∷ hs) st.ordered i i_whole st.children) rs (rows_given ∙ e),
          takes fs mine.shapes (children_rows ks m ss) rs st.mine mine.fields_fit mine.slots_fit c.0 c.1 (sym given_is ∙ e),
        )

    flattens : StepKeeps ks es (flat_need ks m i) m hs i (flattened ks m i (flat_given ks own m i)).0 (flattened ks m i (flat_given ks own m i)).1
    flattens = flattened_keeps ks kinds es own set m hs i st (flat_given ks own m i) gapless flat rows_given rows_fit

  keeps_any : StepKeeps ks es (flattening_need ks m i) m hs i (flattening_step ks own m i).0 (flattening_step ks own m i).1
  keeps_any = go (first_encoded m ss 0) refl (no_gap ss) refl
    where
      go : (o : Option ℕ) → first_encoded m ss 0 ≡ o → (t : Bool) → no_gap ss ≡ t
          → let n = elim o as (λ _. Need) [ Some x ↦ no_need m i | None ↦ elim t [ true ↦ flat_need ks m i | false ↦ no_need m i ] ] in
          let p = elim o as (λ _. Result ExecutionStep StepFault × Memory) [ Some x ↦ (Ok (ExecuteSlot x 1), m) | None ↦ elim t [ true ↦ flattened ks m i (flat_given ks own m i) | false ↦ (Err NoRows, m) ] ] in
          StepKeeps ks es n m hs i p.0 p.1
      go (Some x) e t g = asks x e
      go None e true g = flattens g (none_encoded m ss 0 e)
      go None e false g = lacks e g

-- the steps of an encoding that waits until its children are Flat
pub flattening_keeps : (ks : Kinds) → LawfulKinds ks → (own : Encodings) → own.has 1 ≡ false
    → ((f : Fields) (os : List (Option (List Row))) → own.has f.encoding ≡ true → own.rest f os ≡ undivided own.rows f os) → TakenRows ks own → LawfulSteps ks own (flattening_steps ks own)
flattening_keeps ks kinds own other whole takes es set within m hs i st = keeps_any ks kinds own other whole takes es set within m hs i st
