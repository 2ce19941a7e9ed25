-- Whole arrays have rows from their children's rows, as many as their lengths say.
use Rattle.std.proofs.Common.{◌≡◌, ℕ, zero, suc, ◌<◌, ◌≢◌, ◌⊎◌, ⊎_elim, inl, inr, true, false, ◌&&◌, eqb, List, [], ◌∷◌, map, length, take, drop, get_or, Some, None, Option, sym, refl, ap, ◌∙◌, subst, arith, rules}
use Rattle.std.proofs.lemmas.Bool.{ne_eqb, cases_eq}
use Rattle.std.proofs.lemmas.Option.{none-some, same_Some}
use Rattle.rows.specs.declared.row.Row.{Row}
use Rattle.rows.specs.Kind.{Kinds}
use Rattle.rows.proofs.Appending.{rows_long}
use Rattle.pool.specs.declared.node.Node.{Node}
use Rattle.pool.specs.Memory.{Memory, blank, node_at, count_at, height_at, slots_at, run_of}
use Rattle.pool.specs.Counts.{names, times, Reaches, here, step}
use Rattle.pool.specs.Order.{Ordered}
use Rattle.pool.proofs.Counted.{times_here, names_used, named_used, heights_falling}
use Rattle.encodings.specs.declared.fields.Fields.{Fields}
use Rattle.encodings.specs.declared.fields.Shape.{Shape}
use Rattle.encodings.specs.Meaning.{Encodings, LawfulEncodings, Fitting, slots_fit, no_gap, present, lengths, Sized, Within}
use Rattle.encodings.specs.Rows.{fields_of, shape_of, slots_of, gathered, offered, flat_rows, rows_at, rows_of, rest_by, shapes_of, SlotsFit, WholeAt, AllWhole, Fills, StandsAt, ChildrenWhole, lens_of, owed_by, given}
use Rattle.encodings.proofs.Flats.{flat_rows_of}
use Rattle.encodings.proofs.Keeping.{reaches_on, times_take, offered_same, shown}

-- where no slot is absent, what the children offer is what they give
pub offered_gapless : {A : Type 0} (g : ℕ → Option A) (ss : List (Option ℕ)) → no_gap ss ≡ true → offered g ss ≡ elim (gathered g ss) as (λ _. Option (List (Option A))) [ None ↦ None | Some cs ↦ Some (present cs) ]
offered_gapless g [] e = refl
offered_gapless g (None ∷ ss) e = absurd (search rules)
offered_gapless g (Some c ∷ ss) e = one (g c) (offered g ss) (gathered g ss) (offered_gapless g ss e)
  where
    one : {A : Type 0} (o : Option A) (os : Option (List (Option A))) (cs : Option (List A)) → os ≡ elim cs as (λ _. Option (List (Option A))) [ None ↦ None | Some l ↦ Some (present l) ]
        → elim o as (λ _. Option (List (Option A))) [ None ↦ None | Some r ↦ elim os [ None ↦ None | Some l ↦ Some (Some r ∷ l) ] ]
        ≡ elim (elim o as (λ _. Option (List A)) [ None ↦ None | Some r ↦ elim cs [ None ↦ None | Some l ↦ Some (r ∷ l) ] ]) as (λ _. Option (List (Option A))) [ None ↦ None | Some l ↦ Some (present l) ]
    one None os cs e = refl
    one (Some r) os None e = rw e refl
    one (Some r) os (Some l) e = rw e refl

-- what is reached is the node itself, or is reached from what one of its slots names
first_step : {ns : List Node} {a b : ℕ} → Reaches ns a b → (b ≡ a) ⊎ ((c : ℕ) × (0 < times c (names (slots_at ns a))) × Reaches ns c b)
first_step here = inl refl
first_step {ns} {a} (step {b} r c h) =
    ⊎_elim
    (λ (e : b ≡ a). inr (c, subst (λ (i : ℕ). 0 < times c (names (slots_at ns i))) e h, here))
    (λ below. inr (below.0, below.1, step below.2 c h))
    (first_step r)

-- where the slots past the first n name nothing, those n name all that is named
times_first : (c n : ℕ) (ss : List (Option ℕ)) → names (drop n ss) ≡ [] → times c (names ss) ≡ times c (names (take n ss))
times_first c zero ss e = ap (times c) e
times_first c (suc n) [] e = refl
times_first c (suc n) (None ∷ ss) e = times_first c n ss e
times_first c (suc n) (Some x ∷ ss) e = omega (arith, times_first c n ss e)

-- a list that comes of a first element and of what may be none
first_of : {A : Type 0} (a : A) (o : Option (List A)) (l : List A) → elim o as (λ _. Option (List A)) [ None ↦ None | Some rs ↦ Some (a ∷ rs) ] ≡ Some l → (rs : List A) × (o ≡ Some rs) × (l ≡ a ∷ rs)
first_of a None l e = absurd (none-some l e)
first_of a (Some rs) l e = (rs, refl, sym (same_Some (a ∷ rs) l e))

first_offered : {A : Type 0} (x : Option A) (o : Option (List (Option A))) (l : List (Option A)) → elim x as (λ _. Option (List (Option A))) [ None ↦ None | Some r ↦ elim o [ None ↦ None | Some rs ↦ Some (Some r ∷ rs) ] ] ≡ Some l
    → (r : A) × (x ≡ Some r) × ((rs : List (Option A)) × (o ≡ Some rs) × (l ≡ Some r ∷ rs))
first_offered None o l e = absurd (none-some l e)
first_offered (Some r) o l e = (r, refl, first_of (Some r) o l e)

-- shapes that fit are there
some_fit : (es : Encodings) (f : Fields) (o : Option (List Shape)) → SlotsFit es f o → (shapes : List Shape) × (o ≡ Some shapes) × (slots_fit es f shapes ≡ true)
some_fit es f None fit = absurd fit
some_fit es f (Some shapes) fit = (shapes, refl, fit)

module _ (m : Memory) where
  -- shapes that are there belong to slots of which none is absent
  shapes_gapless : (ss : List (Option ℕ)) (shapes : List Shape) → shapes_of m ss ≡ Some shapes → (no_gap ss ≡ true) × Fills m ss shapes
  shapes_gapless [] shapes e = (refl, subst (λ (l : List Shape). Fills m [] l) (same_Some [] shapes e) tt)
  shapes_gapless (None ∷ ss) shapes e = absurd (none-some shapes e)
  shapes_gapless (Some c ∷ ss) shapes e =
      let p = first_of (shape_of (node_at m c)) (shapes_of m ss) shapes e in
      let r = shapes_gapless ss p.0 p.1 in
      (r.0, subst (λ (l : List Shape). Fills m (Some c ∷ ss) l) (sym p.2) (refl, r.1))

  -- and where none is absent, shapes that fill the slots are the children's
  fills_gapless : (ss : List (Option ℕ)) (shapes : List Shape) → no_gap ss ≡ true → Fills m ss shapes → (shapes_of m ss ≡ Some shapes) × (lens_of m ss ≡ map (λ h. Some h.len) shapes)
  fills_gapless [] [] n f = (refl, refl)
  fills_gapless [] (h ∷ hs) n f = absurd f
  fills_gapless (None ∷ ss) shapes n f = absurd (search rules)
  fills_gapless (Some c ∷ ss) [] n f = absurd f
  fills_gapless (Some c ∷ ss) (h ∷ hs) n f =
      let r = fills_gapless ss hs n f.1 in (
        (λ i. elim (r.0 i) as (λ _. Option (List Shape)) [ None ↦ None | Some l ↦ Some (f.0 i ∷ l) ]),
        (λ i. Some (f.0 i).len ∷ r.1 i),
      )

  -- what the children offer has the lengths of the shapes, where the children's rows are as long as they say
  pub offered_sized : (g : ℕ → Option (List Row)) (ss : List (Option ℕ)) (shapes : List Shape) (os : List (Option (List Row))) → Fills m ss shapes
      → ((c : ℕ) → 0 < times c (names ss) → (r : List Row) → g c ≡ Some r → length r ≡ (node_at m c).len)
      → offered g ss ≡ Some os → Sized os shapes × (lengths os ≡ lens_of m ss)
  offered_sized g [] [] os f long e = subst (λ (l : List (Option (List Row))). Sized l [] × (lengths l ≡ [])) (same_Some [] os e) (tt, refl)
  offered_sized g [] (h ∷ hs) os f long e = absurd f
  offered_sized g (None ∷ ss) [] os f long e = absurd f
  offered_sized g (Some c ∷ ss) [] os f long e = absurd f
  offered_sized g (None ∷ ss) (h ∷ hs) os f long e =
      let p = first_of None (offered g ss) os e in
      let r = offered_sized g ss hs p.0 f long p.1 in
      subst (λ (l : List (Option (List Row))). Sized l (h ∷ hs) × (lengths l ≡ None ∷ lens_of m ss)) (sym p.2) (r.0, ap (λ l. None ∷ l) r.1)
  offered_sized g (Some c ∷ ss) (h ∷ hs) os f long e =
      let p = first_offered (g c) (offered g ss) os e in
      let q = p.2 in
      let r = offered_sized g ss hs q.0 f.1 (λ d i. long d (omega arith)) q.1 in
      let len : length p.0 ≡ (node_at m c).len = long c (times_here c (names ss)) p.0 p.1 in
      subst (λ (l : List (Option (List Row))). Sized l (h ∷ hs) × (lengths l ≡ Some (node_at m c).len ∷ lens_of m ss)) (sym q.2)
      ((len ∙ ap (λ (s : Shape). s.len) f.0, r.0), λ i. Some (len i) ∷ r.1 i)

module _ (ks : Kinds) (es : Encodings) (m : Memory) (hs : List ℕ) (ordered : Ordered m hs) where
  -- what the slots of a node in use name is in use, and lower
  pub child_used : (k c : ℕ) → 0 < count_at m.nodes k → 0 < times c (names (slots_of (node_at m k))) → 0 < count_at m.nodes c
  child_used k c u h = named_used m.nodes hs ordered.counts k c u (omega (arith, h, times_take c (node_at m k).arity (slots_at m.nodes k)))

  child_low : (k c : ℕ) → 0 < count_at m.nodes k → 0 < times c (names (slots_of (node_at m k))) → height_at m.nodes c < height_at m.nodes k
  child_low k c u h =
      heights_falling m.nodes hs ordered.counts ordered.heights k c
      (omega (arith, h, names_used c (get_or m.nodes k blank) u, times_take c (node_at m k).arity (slots_at m.nodes k)))

  -- above the height, the number does not matter
  fuel_same : (f g k : ℕ) → 0 < count_at m.nodes k → height_at m.nodes k < f → height_at m.nodes k < g → rows_at ks es f m k ≡ rows_at ks es g m k
  fuel_same zero g k u l h = absurd (omega arith)
  fuel_same (suc f) zero k u l h = absurd (omega arith)
  fuel_same (suc f) (suc g) k u l h =
      ap (shown ks es (node_at m k) (run_of m k))
      (offered_same (rows_at ks es f m) (rows_at ks es g m) (slots_of (node_at m k))
      (λ c q. let low = child_low k c u q in fuel_same f g c (child_used k c u q) (omega arith) (omega arith)))

  pub rows_above : (f k : ℕ) → 0 < count_at m.nodes k → height_at m.nodes k < f → rows_at ks es f m k ≡ rows_of ks es m k
  unfolding rows_of
  rows_above f k u l = fuel_same f (suc (height_at m.nodes k)) k u l (omega arith)

  pub rows_of_is : (k : ℕ) → 0 < count_at m.nodes k → (node_at m k).encoding ≢ 1 → rows_of ks es m k ≡ rest_by ks es m k (slots_of (node_at m k))
  unfolding rows_of
  rows_of_is k u ne =
      let high : eqb (node_at m k).encoding 1 ≡ false = ne_eqb (node_at m k).encoding 1 ne in
      let g : ℕ → Option (List Row) = rows_at ks es (height_at m.nodes k) m in
      let same : offered g (slots_of (node_at m k)) ≡ offered (rows_of ks es m) (slots_of (node_at m k))
      = offered_same g (rows_of ks es m) (slots_of (node_at m k)) (λ c q. rows_above (height_at m.nodes k) c (child_used k c u q) (child_low k c u q)) in
      rw (high, rows_at) (ap (λ (o : Option (List (Option (List Row)))). elim o as (λ _. Option (List Row)) [ None ↦ None | Some os ↦ es.rest (fields_of (node_at m k)) os ]) same)

  -- ---- what a whole array's slots are
  pub whole_children : (k : ℕ) → AllWhole ks es m k → ChildrenWhole ks es m k
  whole_children k all c h j r =
      all j (reaches_on (step here c (omega (arith, h, times_take c (node_at m k).arity (slots_at m.nodes k)))) r)

  pub all_whole : (k : ℕ) → WholeAt ks es m k → ChildrenWhole ks es m k → AllWhole ks es m k
  all_whole k whole children j r =
      ⊎_elim
      (λ (e : j ≡ k). subst (λ (i : ℕ). WholeAt ks es m i) (sym e) whole)
      (λ below. children below.0 (omega (arith, below.1, times_first below.0 (node_at m k).arity (slots_at m.nodes k) whole.no_more)) j below.2)
      (first_step r)

  -- what is whole stands
  pub whole_gapless : (k : ℕ) → WholeAt ks es m k → no_gap (slots_of (node_at m k)) ≡ true
  whole_gapless k whole =
      let w = some_fit es (fields_of (node_at m k)) (shapes_of m (slots_of (node_at m k))) whole.slots_fit in
      (shapes_gapless m (slots_of (node_at m k)) w.0 w.1).0

  pub whole_stands : (k : ℕ) → WholeAt ks es m k → StandsAt es m k
  whole_stands k whole =
      let w = some_fit es (fields_of (node_at m k)) (shapes_of m (slots_of (node_at m k))) whole.slots_fit in
      record {
        known = whole.known;
        fields_fit = whole.fields_fit;
        shapes = w.0;
        fills = (shapes_gapless m (slots_of (node_at m k)) w.0 w.1).1;
        slots_fit = w.2;
        no_more = whole.no_more;
        bare = whole.bare;
      }

  -- and what stands with no slot absent is whole
  pub stands_whole : (k : ℕ) → StandsAt es m k → no_gap (slots_of (node_at m k)) ≡ true → (node_at m k).encoding ≢ 1 → WholeAt ks es m k
  stands_whole k stands gapless ne =
      record {
        known = stands.known;
        fields_fit = stands.fields_fit;
        slots_fit = subst (λ (o : Option (List Shape)). SlotsFit es (fields_of (node_at m k)) o) (sym (fills_gapless m (slots_of (node_at m k)) stands.shapes gapless stands.fills).0) stands.slots_fit;
        no_more = stands.no_more;
        flat_run = λ e. absurd (ne e);
        flat_tidy = λ e. absurd (ne e);
        bare = stands.bare;
      }

  stands_fitting : (k : ℕ) (stands : StandsAt es m k) → (node_at m k).encoding ≢ 1 → Fitting es (fields_of (node_at m k)) stands.shapes
  stands_fitting k stands ne = record { known = stands.known; not_flat = ne; fields = stands.fields_fit; slots = stands.slots_fit }

  -- ---- how many rows
  -- a rest is as long as is owed, where the children's rows are as long as they say
  rest_long_from : LawfulEncodings ks es → (k : ℕ) (ss : List (Option ℕ)) (shapes : List Shape) → Fills m ss shapes → Fitting es (fields_of (node_at m k)) shapes
      → ((c : ℕ) → 0 < times c (names ss) → (r : List Row) → rows_of ks es m c ≡ Some r → length r ≡ (node_at m c).len)
      → (r : List Row) → rest_by ks es m k ss ≡ Some r → length r ≡ owed_by es m k ss
  rest_long_from law k ss shapes fills fit long r = go (offered (rows_of ks es m) ss) refl
    where
      go : (o : Option (List (Option (List Row)))) → offered (rows_of ks es m) ss ≡ o → elim o as (λ _. Option (List Row)) [ None ↦ None | Some os ↦ es.rest (fields_of (node_at m k)) os ] ≡ Some r → length r ≡ owed_by es m k ss
      go None q e = absurd (none-some r e)
      go (Some os) q e =
          let s = offered_sized m (rows_of ks es m) ss shapes os fills long q in
          law.rest_long (fields_of (node_at m k)) shapes os r fit s.0 e ∙ ap (es.rest_length (fields_of (node_at m k))) s.1

  -- n is above k's height
  long_below : LawfulEncodings ks es → (n k : ℕ) → height_at m.nodes k < n → 0 < count_at m.nodes k → AllWhole ks es m k → (r : List Row) → rows_of ks es m k ≡ Some r → length r ≡ (node_at m k).len
  long_below law zero k l u all r e = absurd (omega arith)
  long_below law (suc n) k l u all r e =
      let nd : Node = node_at m k in
      let ss : List (Option ℕ) = slots_of nd in
      ⊎_elim
      (λ (flat : nd.encoding ≡ 1).
      ap length (same_Some r (flat_rows ks m k) (sym e ∙ flat_rows_of ks es m k flat)) ∙ rows_long (ks.kind nd.kind) nd.len (run_of m k))
      (λ (ne : nd.encoding ≡ 1 → ⊥).
      let whole = all k here in
      let stands = whole_stands k whole in
      let fit = stands_fitting k stands ne in
      rest_long_from law k ss stands.shapes stands.fills fit
      (λ c h. long_below law n c (omega (arith, child_low k c u h)) (child_used k c u h) (whole_children k all c h))
      r (sym (rows_of_is k u ne) ∙ e)
      ∙ law.rest_length_whole (fields_of nd) stands.shapes (lens_of m ss) fit (fills_gapless m ss stands.shapes (whole_gapless k whole) stands.fills).1)
      (cases_eq nd.encoding 1)

  pub whole_long : LawfulEncodings ks es → (k : ℕ) → 0 < count_at m.nodes k → AllWhole ks es m k → (r : List Row) → rows_of ks es m k ≡ Some r → length r ≡ (node_at m k).len
  whole_long law k u all r e = long_below law (suc (height_at m.nodes k)) k (omega arith) u all r e

  -- ---- which rows
  pub whole_rows_at : LawfulEncodings ks es → (k : ℕ) → 0 < count_at m.nodes k → (node_at m k).encoding ≢ 1 → WholeAt ks es m k → ChildrenWhole ks es m k
      → rows_of ks es m k ≡ given es (fields_of (node_at m k)) (gathered (rows_of ks es m) (slots_of (node_at m k)))
  whole_rows_at law k u ne whole children = rows_of_is k u ne ∙ go (gathered (rows_of ks es m) ss) (offered_gapless (rows_of ks es m) ss (whole_gapless k whole))
    where
      ss : List (Option ℕ)
      ss = slots_of (node_at m k)

      go : (o : Option (List (List Row))) → offered (rows_of ks es m) ss ≡ elim o as (λ _. Option (List (Option (List Row)))) [ None ↦ None | Some cs ↦ Some (present cs) ] → rest_by ks es m k ss ≡ given es (fields_of (node_at m k)) o
      go None e = rw (e, rest_by) refl
      go (Some cs) e =
          let stands = whole_stands k whole in
          let sized = offered_sized m (rows_of ks es m) ss stands.shapes (present cs) stands.fills (λ c h. whole_long law c (child_used k c u h) (children c h)) e in
          rw (e, rest_by) (law.rest_whole (fields_of (node_at m k)) stands.shapes cs (stands_fitting k stands ne) sized.0)

  pub whole_rows : LawfulEncodings ks es → (k : ℕ) → 0 < count_at m.nodes k → (node_at m k).encoding ≢ 1 → AllWhole ks es m k
      → rows_of ks es m k ≡ given es (fields_of (node_at m k)) (gathered (rows_of ks es m) (slots_of (node_at m k)))
  whole_rows law k u ne all = whole_rows_at law k u ne (all k here) (whole_children k all)

  -- ---- a set within this one
  pub stands_within : (own : Encodings) → Within own es → (k : ℕ) → own.has (node_at m k).encoding ≡ true → StandsAt es m k → StandsAt own m k
  stands_within own within k has stands =
      let f : Fields = fields_of (node_at m k) in
      let fit : slots_fit es f stands.shapes ≡ slots_fit own f stands.shapes
      = λ i. within.count_fits f has i && (within.kinds_fit f has stands.shapes i && within.lengths_fit f has stands.shapes i) in
      record {
        known = has;
        fields_fit = sym (within.fields_fit f has) ∙ stands.fields_fit;
        shapes = stands.shapes;
        fills = stands.fills;
        slots_fit = sym fit ∙ stands.slots_fit;
        no_more = stands.no_more;
        bare = stands.bare;
      }
