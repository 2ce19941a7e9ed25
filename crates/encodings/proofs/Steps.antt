-- What the steps of Flat, of Chunked, and of encodings that wait until their children are Flat answer, and what they make.
use Rattle.std.proofs.Common.{◌≡◌, ℕ, zero, suc, ◌+◌, ◌<◌, ◌≢◌, Bool, true, false, not, ◌&&◌, eqb, List, [], ◌∷◌, length, get_or, Some, None, Ok, Err, Option, Result, sym, refl, ap, ◌∙◌, subst, ⊎_elim, arith}
use Rattle.std.proofs.lemmas.Bool.{and_parts, eq-eqb, ne_eqb, cases_lt}
use Rattle.std.proofs.lemmas.Option.{none-some, same_Some}
use Rattle.rows.specs.declared.row.Row.{Row}
use Rattle.rows.specs.Kind.{Kinds, Taken, rows}
use Rattle.rows.specs.Ours.{LawfulKinds}
use Rattle.pool.specs.declared.node.Node.{Node}
use Rattle.pool.specs.declared.node.PoolFault.{PoolFault}
use Rattle.pool.specs.Memory.{Memory, blank, node_at, count_at, run_of}
use Rattle.pool.specs.Counts.{names, times, named, names_of}
use Rattle.pool.specs.Order.{Ordered, SameAt}
use Rattle.pool.specs.Sharing.{release}
use Rattle.pool.specs.Finding.{lowest_free, find_run, LowestNode}
use Rattle.pool.specs.Building.{opened, append_rows, finished, built}
use Rattle.pool.proofs.Counted.{hit_same, named_at, named_by, names_use, names_used}
use Rattle.pool.proofs.Found.{lowest_free_is}
use Rattle.pool.proofs.Spared.{Spared, kept_used}
use Rattle.pool.proofs.Releasing.{release_good, release_kept}
use Rattle.pool.proofs.Building.{Built, Outcome, built_is, opened_by}
use Rattle.encodings.specs.declared.fields.Fields.{Fields}
use Rattle.encodings.specs.declared.step.ExecutionStep.{ExecutionStep}
use Rattle.encodings.specs.declared.step.ExecutionStep.TheVariants.{Done}
use Rattle.encodings.specs.declared.step.StepFault.{StepFault}
use Rattle.encodings.specs.declared.step.StepFault.TheVariants.{Pool, NoRows}
use Rattle.encodings.specs.Meaning.{Encodings, LawfulSet, Within, no_gap, undivided}
use Rattle.encodings.specs.Rows.{slots_of, rows_of}
use Rattle.encodings.specs.Step.{Need, all_flat, Steppable, fresh, Finishes, StepAnswer}
use Rattle.encodings.specs.Flattening.{flat_need, flattened, first_encoded, flat_given, flattening_need, flattening_step, flattening_steps}
use Rattle.encodings.specs.Flat.{flat_steps}
use Rattle.encodings.specs.Chunked.{chunked_encodings, first_present, chunked_need, chunked_step, chunked_steps}
use Rattle.encodings.specs.Constant.{constant_encodings}
use Rattle.encodings.specs.RunEnd.{run_end_encodings}
use Rattle.encodings.specs.Dict.{dict_encodings}
use Rattle.encodings.specs.Slice.{slice_encodings}
use Rattle.encodings.specs.Pinned.{in_slot, AllFlat, FlatMade, Makes, Flattening, FirstPresent, Chunking, Staying}
use Rattle.encodings.proofs.Answering.{ordered_like}
use Rattle.encodings.proofs.FlatteningLaw.{flattened_keeps, TakenRows, gap_rows, rows_given, rows_fit}
use Rattle.encodings.proofs.Chunked.{no_slots, empty_rows, empty_len}
use Rattle.encodings.proofs.Constant.{constant_taken}
use Rattle.encodings.proofs.RunEnd.{run_end_taken}
use Rattle.encodings.proofs.Dict.{dict_taken}
use Rattle.encodings.proofs.Slice.{slice_taken}

-- ---- the step of Flat
pub stays : Staying (λ ks. flat_steps)
stays ks m i = (refl, refl)

-- ---- what a build in the place of an array makes
-- a node that was free and is in use now is fresh
fresh_some : (ns qs : List Node) (j : ℕ) → j < length ns → count_at ns j ≡ 0 → 0 < count_at qs j → 0 < fresh ns qs
fresh_some [] qs j l z u = absurd (omega arith)
fresh_some (x ∷ xs) [] j l z u = absurd (omega arith)
fresh_some (x ∷ xs) (y ∷ ys) zero l z u = rw (eq-eqb x.count 0 z, ne_eqb y.count 0 (λ e. omega (arith, e)), fresh) (omega arith)
fresh_some (x ∷ xs) (y ∷ ys) (suc j) l z u = go (eqb x.count 0 && not (eqb y.count 0)) (fresh_some xs ys j (omega arith) z u)
  where
    go : (b : Bool) → 0 < fresh xs ys → 0 < elim b as (λ _. ℕ) [ true ↦ 1 + fresh xs ys | false ↦ fresh xs ys ]
    go true h = omega arith
    go false h = h

-- no name comes of a release
named_less : (a b : Memory) → Spared a b → (k : ℕ) → named k a.nodes ≡ 0 → named k b.nodes ≡ 0
named_less a b p k none = ⊎_elim (λ h. absurd (never (named_by k b.nodes h))) (λ h. omega arith) (cases_lt 0 (named k b.nodes))
  where
    never : (i : ℕ) × (0 < names_of k (get_or b.nodes i blank)) → ⊥
    never (i, h) =
        let x : Node = get_or a.nodes i blank in
        let y : Node = get_or b.nodes i blank in
        let u = names_use k y h in
        let s = kept_used x y (p.kept i) u in
        let e : times k (names y.slots) ≡ times k (names x.slots) = ap (λ (nd : Node). times k (names nd.slots)) s.1 in
        omega (arith, none, named_at k a.nodes i, names_used k x s.0, names_used k y u, e)

-- a build is at the lowest free node
built_lowest : (ks : Kinds) (m : Memory) (kind n : ℕ) (rs : List Row) (j : ℕ) → (built ks m kind n rs).0 ≡ Ok j → LowestNode m.nodes (Some j)
built_lowest ks m kind n rs j = go (lowest_free m.nodes 0) (lowest_free_is m.nodes) (find_run m ((ks.kind kind).words n))
  where
    go : (f : Option ℕ) → LowestNode m.nodes f → (r : Option ℕ)
        → (let o = opened_by m kind n ((ks.kind kind).words n) f r in elim o.0 as (λ _. Result ℕ PoolFault × Memory) [ Err e ↦ (Err e, o.1) | Ok i ↦ (Ok i, finished (append_rows ks o.1 i 0 rs) i) ]).0 ≡ Ok j
        → LowestNode m.nodes (Some j)
    go None a r e = absurd (let z : ◌≡◌ {A = ℕ} 0 1 = cc in omega arith)
    go (Some i) a None e = absurd (let z : ◌≡◌ {A = ℕ} 0 1 = cc in omega arith)
    go (Some i) a (Some s) e = let same : i ≡ j = cc in subst (λ (x : ℕ). LowestNode m.nodes (Some x)) same a

module _ (ks : Kinds) (kinds : LawfulKinds ks) (es own : Encodings) (set : LawfulSet ks es) (m : Memory) (hs : List ℕ) (i : ℕ) (st : Steppable ks es own m hs i) (rs : List Row) where
  abbrev kind : ℕ
  kind = (node_at m i).kind

  abbrev len : ℕ
  len = (node_at m i).len

  module _ (b : Memory) (j : ℕ) (bu : Built ks m b (i ∷ hs) kind len rs j) where
    left : Ordered b (i ∷ (j ∷ hs))
    left = ordered_like b (j ∷ (i ∷ hs)) (i ∷ (j ∷ hs)) (λ k. omega arith) bu.change.ordered

    made : LowestNode m.nodes (Some j) → Finishes ks es (flat_need ks m i) m hs i j (release b i) → FlatMade ks (flat_need ks m i) m (release b i) i rs j
    made lowest fin =
        let q : Memory = release b i in
        let held = hit_same j j refl in
        let used : 0 < count_at q.nodes j = omega (arith, fin.change.ordered.counts j) in
        let kept : SameAt b q j = release_kept b i (j ∷ hs) left j used in
        let one = bu.change.ordered.counts j in
        let unnamed : named j q.nodes ≡ 0 = named_less b q (release_good b i (j ∷ hs) left).spared j (omega (arith, bu.count_is)) in
        record {
          lowest = lowest;
          start = bu.start_is ∙ ap (λ (x : Node). Some x.start) (sym kept.same_node);
          encoding = ap (λ (x : Node). x.encoding) kept.same_node ∙ bu.encoding_is;
          kind = ap (λ (x : Node). x.kind) kept.same_node ∙ bu.kind_is;
          len = ap (λ (x : Node). x.len) kept.same_node ∙ bu.len_is;
          parameter = ap (λ (x : Node). x.parameter) kept.same_node ∙ bu.parameter_is;
          arity = ap (λ (x : Node). x.arity) kept.same_node ∙ bu.arity_is;
          slots = ap (λ (x : Node). x.slots) kept.same_node ∙ bu.slots_is;
          count = omega (arith, fin.change.ordered.counts j, bu.count_is);
          rows =
              (λ k. rows (ks.kind (kept.same_node k).kind) (kept.same_node k).len (kept.same_run k))
              ∙ ap (λ (x : ℕ). rows (ks.kind x) (node_at b j).len (run_of b j)) bu.kind_is
              ∙ ap (λ (x : ℕ). rows (ks.kind kind) x (run_of b j)) bu.len_is
              ∙ bu.rows_is;
          nodes_made = omega (arith, fin.in_need.nodes, fresh_some m.nodes q.nodes j lowest.0 bu.fresh used);
          words_made = ap (λ (x : Node). x.run) kept.same_node ∙ bu.run_is;
          height_made = ap (λ (x : Node). x.height) kept.same_node ∙ bu.height_is;
        }

  -- what is answered once this was built, and what an accepted answer made
  abbrev answered : Result ℕ PoolFault × Memory → Result ExecutionStep StepFault × Memory
  answered b = elim b.0 [ Err e ↦ (Err (Pool e), m) | Ok j ↦ (Ok (Done j), release b.1 i) ]

  pub flat_made : no_gap (slots_of (node_at m i)) ≡ true → all_flat m (slots_of (node_at m i)) ≡ true → rows_of ks es m i ≡ Some rs → (length rs ≡ (node_at m i).len) × Taken (ks.kind (node_at m i).kind) rs
      → (a : ExecutionStep) → (flattened ks m i (Some rs)).0 ≡ Ok a → (j : ℕ) × (a ≡ Done j) × FlatMade ks (flat_need ks m i) m (flattened ks m i (Some rs)).1 i rs j
  flat_made gapless flat whole fit a accepted =
      go (built ks m kind len rs) refl (built_is ks m (i ∷ hs) kind len rs (kinds.lawful kind) st.ordered fit.0 fit.1)
      (flattened_keeps ks kinds es own set m hs i st (Some rs) gapless flat whole (λ l e. subst (λ (x : List Row). (length x ≡ len) × Taken (ks.kind kind) x) (same_Some rs l e) fit)).answer
      accepted
    where
      go : (b : Result ℕ PoolFault × Memory) → (built ks m kind len rs).0 ≡ b.0 → Outcome ks m (i ∷ hs) kind len rs b.0 b.1 → StepAnswer ks es (flat_need ks m i) m hs i (answered b).0 (answered b).1
          → (answered b).0 ≡ Ok a → (j : ℕ) × (a ≡ Done j) × FlatMade ks (flat_need ks m i) m (answered b).1 i rs j
      go (Err e, b) r same ans acc = absurd (let z : ◌≡◌ {A = ℕ} 0 1 = cc in omega arith)
      go (Ok j, b) r bu fin acc = (j, cc, made b j bu (built_lowest ks m kind len rs j r) fin)

-- what an accepted step of i, which needs n, and answers and leaves p, made
abbrev pub MadeBy : Kinds → Encodings → Memory → ℕ → Need → Result ExecutionStep StepFault × Memory → Type 0
MadeBy ks es m i n p = (a : ExecutionStep) → p.0 ≡ Ok a → (j : ℕ) × (rs : List Row) × (a ≡ Done j) × (rows_of ks es m i ≡ Some rs) × FlatMade ks n m p.1 i rs j

made_same : (ks : Kinds) (es : Encodings) (m : Memory) (i : ℕ) (n k : Need) (p q : Result ExecutionStep StepFault × Memory) → n ≡ k → p ≡ q → MadeBy ks es m i k q → MadeBy ks es m i n p
made_same ks es m i n k p q d e made =
    subst (λ (x : Need). MadeBy ks es m i x p) (sym d) (subst (λ (x : Result ExecutionStep StepFault × Memory). MadeBy ks es m i k x) (sym e) made)

-- with no rows nothing is accepted
flattened_none : (ks : Kinds) (m : Memory) (i : ℕ) (a : ExecutionStep) → (flattened ks m i None).0 ≡ Ok a → ⊥
flattened_none ks m i a = go (opened m (node_at m i).kind (node_at m i).len ((ks.kind (node_at m i).kind).words (node_at m i).len)).0
  where
    go : (r : Result ℕ PoolFault) → (elim r as (λ _. Result ExecutionStep StepFault × Memory) [ Err e ↦ (Err (Pool e), m) | Ok j ↦ (Err NoRows, m) ]).0 ≡ Ok a → ⊥
    go (Err e) q = let z : ◌≡◌ {A = ℕ} 0 1 = cc in omega arith
    go (Ok j) q = let z : ◌≡◌ {A = ℕ} 0 1 = cc in omega arith

-- ---- slots of which the first that is not Flat is asked for
module _ (m : Memory) where
  first_encoded_at : (ss : List (Option ℕ)) (from x c : ℕ) → in_slot ss x ≡ Some c → (node_at m c).encoding ≢ 1 → ((y d : ℕ) → y < x → in_slot ss y ≡ Some d → (node_at m d).encoding ≡ 1)
      → first_encoded m ss from ≡ Some (from + x)
  first_encoded_at [] from x c e ne before = absurd (none-some c e)
  first_encoded_at (None ∷ ss) from zero c e ne before = absurd (none-some c e)
  first_encoded_at (None ∷ ss) from (suc x) c e ne before =
      first_encoded_at ss (suc from) x c e ne (λ y d l q. before (suc y) d (omega arith) q) ∙ ap (λ (n : ℕ). Some n) (omega arith)
  first_encoded_at (Some d ∷ ss) from zero c e ne before =
      let other : eqb (node_at m d).encoding 1 ≡ false = ne_eqb (node_at m d).encoding 1 (λ q. ne (ap (λ (y : ℕ). (node_at m y).encoding) (sym (same_Some d c e)) ∙ q)) in
      rw (other, first_encoded) (ap (λ (n : ℕ). Some n) (omega arith))
  first_encoded_at (Some d ∷ ss) from (suc x) c e ne before =
      let flat : eqb (node_at m d).encoding 1 ≡ true = eq-eqb (node_at m d).encoding 1 (before 0 d (omega arith) refl) in
      rw (flat, first_encoded) (first_encoded_at ss (suc from) x c e ne (λ y b l q. before (suc y) b (omega arith) q) ∙ ap (λ (n : ℕ). Some n) (omega arith))

  all_flat_at : (ss : List (Option ℕ)) (from : ℕ) → AllFlat m ss → (first_encoded m ss from ≡ None) × (no_gap ss ≡ true) × (all_flat m ss ≡ true)
  all_flat_at [] from all = (refl, refl, refl)
  all_flat_at (None ∷ ss) from all = let w = all 0 (omega arith) in absurd (none-some w.0 w.1)
  all_flat_at (Some d ∷ ss) from all =
      let w = all 0 (omega arith) in
      let flat : eqb (node_at m d).encoding 1 ≡ true = eq-eqb (node_at m d).encoding 1 (ap (λ (y : ℕ). (node_at m y).encoding) (same_Some d w.0 w.1) ∙ w.2) in
      let r = all_flat_at ss (suc from) (λ y l. all (suc y) (omega arith)) in
      (rw (flat, first_encoded) r.0, r.1, rw (flat, all_flat) r.2)

-- The step of an encoding that waits until its children are Flat, is not Flat itself, and owes its rows in one piece.
module _ (ks : Kinds) (kinds : LawfulKinds ks) (own : Encodings) (other : own.has 1 ≡ false) (whole : (f : Fields) (os : List (Option (List Row))) → own.has f.encoding ≡ true → own.rest f os ≡ undivided own.rows f os) (takes : TakenRows ks own)
    (es : Encodings) (set : LawfulSet ks es) (within : Within own es) (m : Memory) (hs : List ℕ) (i : ℕ) (st : Steppable ks es own m hs i) where
  makes : AllFlat m (slots_of (node_at m i)) → Makes ks es (flattening_steps ks own) m i
  makes all =
      let w = all_flat_at m (slots_of (node_at m i)) 0 all in
      made_same ks es m i (flattening_need ks m i) (flat_need ks m i) (flattening_step ks own m i) (flattened ks m i (flat_given ks own m i)) (rw (w.0, w.1, flattening_need) refl) (rw (w.0, w.1, flattening_step) refl)
      (go (flat_given ks own m i) (rows_given ks kinds own other whole takes es set within m hs i st w.1 w.2) (rows_fit ks kinds own other whole takes es set within m hs i st w.1 w.2) w.1 w.2)
    where
      go : (o : Option (List Row)) → rows_of ks es m i ≡ o → ((rs : List Row) → o ≡ Some rs → (length rs ≡ (node_at m i).len) × Taken (ks.kind (node_at m i).kind) rs) → no_gap (slots_of (node_at m i)) ≡ true → all_flat m (slots_of (node_at m i)) ≡ true
          → MadeBy ks es m i (flat_need ks m i) (flattened ks m i o)
      go None rows fit gapless flat a e = absurd (flattened_none ks m i a e)
      go (Some rs) rows fit gapless flat a e =
          let r = flat_made ks kinds es own set m hs i st rs gapless flat rows (fit rs refl) a e in
          (r.0, rs, r.1, rows, r.2)

-- where every child that is present is Flat, none is to be asked for
flat_none : (m : Memory) (ss : List (Option ℕ)) (x : ℕ) → all_flat m ss ≡ true → first_encoded m ss x ≡ None
flat_none m [] x e = refl
flat_none m (None ∷ ss) x e = flat_none m ss (suc x) e
flat_none m (Some c ∷ ss) x e =
    let p = and_parts (eqb (node_at m c).encoding 1) (all_flat m ss) e in
    rw (p.0, first_encoded) (flat_none m ss (suc x) p.1)

pub flattens : (own_of : Kinds → Encodings) → ((ks : Kinds) → (own_of ks).has 1 ≡ false)
    → ((ks : Kinds) (f : Fields) (os : List (Option (List Row))) → (own_of ks).has f.encoding ≡ true → (own_of ks).rest f os ≡ undivided (own_of ks).rows f os)
    → ((ks : Kinds) → LawfulKinds ks → TakenRows ks (own_of ks)) → Flattening own_of (λ ks. flattening_steps ks (own_of ks))
flattens own_of other whole takes ks es m hs i kinds set within st =
    let own : Encodings = own_of ks in
    let ss : List (Option ℕ) = slots_of (node_at m i) in
    record {
      asks = λ x first.
          let e : first_encoded m ss 0 ≡ Some x = first_encoded_at m ss 0 x first.child first.present first.encoded first.before ∙ ap (λ (n : ℕ). Some n) (omega arith) in
          (rw (e, flattening_need) refl, rw (e, flattening_step) refl);
      needs = λ all. let w = all_flat_at m ss 0 all in rw (w.0, w.1, flattening_need) refl;
      makes = makes ks kinds own (other ks) (whole ks) (takes ks kinds) es set within m hs i st;
      no_rest = gap_rows ks kinds own (other ks) (whole ks) (takes ks kinds) es set within m hs i st;
      no_step = λ gap flat. let none = flat_none m ss 0 flat in (rw (none, gap, flattening_need) refl, rw (none, gap, flattening_step) refl);
    }

pub constant_flattens : Flattening constant_encodings (λ ks. flattening_steps ks (constant_encodings ks))
constant_flattens = flattens constant_encodings (λ ks. refl) (λ ks f os has. refl) (λ ks kinds. constant_taken ks)

pub run_end_flattens : Flattening run_end_encodings (λ ks. flattening_steps ks (run_end_encodings ks))
run_end_flattens = flattens run_end_encodings (λ ks. refl) (λ ks f os has. refl) (λ ks kinds. run_end_taken ks)

pub dict_flattens : Flattening dict_encodings (λ ks. flattening_steps ks (dict_encodings ks))
dict_flattens = flattens dict_encodings (λ ks. refl) (λ ks f os has. refl) (λ ks kinds. dict_taken ks)

pub slice_flattens : Flattening slice_encodings (λ ks. flattening_steps ks (slice_encodings ks))
slice_flattens = flattens slice_encodings (λ ks. refl) (λ ks f os has. refl) (λ ks kinds. slice_taken ks)

-- ---- the step of Chunked
first_present_at : (ss : List (Option ℕ)) (from x c : ℕ) → in_slot ss x ≡ Some c → ((y : ℕ) → y < x → in_slot ss y ≡ None) → first_present ss from ≡ Some (from + x, c)
first_present_at [] from x c e before = absurd (none-some c e)
first_present_at (None ∷ ss) from zero c e before = absurd (none-some c e)
first_present_at (None ∷ ss) from (suc x) c e before =
    first_present_at ss (suc from) x c e (λ y l. before (suc y) (omega arith)) ∙ ap (λ (n : ℕ). Some (n, c)) (omega arith)
first_present_at (Some d ∷ ss) from zero c e before = let at : from ≡ from + 0 = omega arith in λ i. Some (at i, same_Some d c e i)
first_present_at (Some d ∷ ss) from (suc x) c e before = absurd (none-some d (sym (before 0 (omega arith))))

first_present_none : (ss : List (Option ℕ)) (from : ℕ) → ((y : ℕ) → in_slot ss y ≡ None) → first_present ss from ≡ None
first_present_none [] from none = refl
first_present_none (None ∷ ss) from none = first_present_none ss (suc from) (λ y. none (suc y))
first_present_none (Some d ∷ ss) from none = absurd (none-some d (sym (none 0)))

pub chunks : Chunking chunked_encodings chunked_steps
chunks ks es m hs i kinds set within st =
    let ss : List (Option ℕ) = slots_of (node_at m i) in
    let at : (x c : ℕ) → FirstPresent ss x c → first_present ss 0 ≡ Some (x, c) = λ x c first. first_present_at ss 0 x c first.present first.before ∙ ap (λ (n : ℕ). Some (n, c)) (omega arith) in
    record {
      appends = λ x c first flat. let f : eqb (node_at m c).encoding 1 ≡ true = eq-eqb (node_at m c).encoding 1 flat in rw (at x c first, f, chunked_step) refl;
      asks = λ x c first ne. let f : eqb (node_at m c).encoding 1 ≡ false = ne_eqb (node_at m c).encoding 1 ne in rw (at x c first, f, chunked_step) refl;
      done = λ some none. let f : eqb (node_at m i).arity 0 ≡ false = ne_eqb (node_at m i).arity 0 (λ e. omega (arith, e)) in rw (first_present_none ss 0 none, f, chunked_step) refl;
      needs_none = λ some. let f : eqb (node_at m i).arity 0 ≡ false = ne_eqb (node_at m i).arity 0 (λ e. omega (arith, e)) in rw (f, chunked_need) refl;
      empty_needs = λ zero. let f : eqb (node_at m i).arity 0 ≡ true = eq-eqb (node_at m i).arity 0 zero in rw (f, chunked_need) refl;
      empty_makes = λ zero.
          let f : eqb (node_at m i).arity 0 ≡ true = eq-eqb (node_at m i).arity 0 zero in
          let slots : ss ≡ [] = no_slots ks kinds es set within m hs i st zero in
          let none : first_present ss 0 ≡ None = ap (λ (l : List (Option ℕ)). first_present l 0) slots in
          let rows : rows_of ks es m i ≡ Some [] = empty_rows ks kinds es set within m hs i st (ap names slots) in
          made_same ks es m i (chunked_need ks m i) (flat_need ks m i) (chunked_step ks m i) (flattened ks m i (Some [])) (rw (f, chunked_need) refl) (rw (none, f, chunked_step) refl)
          (λ a e.
          let r = flat_made ks kinds es (chunked_encodings ks) set m hs i st [] (ap no_gap slots) (ap (all_flat m) slots) rows (sym (empty_len ks kinds es set within m hs i st zero), tt) a e in
          (r.0, [], r.1, rows, r.2));
    }
