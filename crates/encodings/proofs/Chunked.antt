-- Chunked keeps the law: its rest is the rows of its present children, one child after another.
use Rattle.std.proofs.Common.{◌≡◌, ℕ, zero, suc, ◌+◌, ◌<◌, ◌≢◌, inl, Bool, true, false, eqb, List, [], ◌∷◌, ◌++◌, map, length, take, get_or, set, Some, None, Ok, Option, Result, sym, refl, ap, ◌∙◌, subst, arith, rules}
use Rattle.std.specs.Option.{is_some, option_map}
use Rattle.std.proofs.lemmas.Bool.{eqb-true, eqb-false, and_parts}
use Rattle.std.proofs.lemmas.List.{length-append, length-take}
use Rattle.std.proofs.lemmas.Option.{none-some, same_Some}
use Rattle.std.specs.List.{sum_by}
use Rattle.std.proofs.lemmas.List.Sums.{sum_by-cons}
use Rattle.rows.specs.declared.row.Row.{Row}
use Rattle.rows.specs.Kind.{Kinds}
use Rattle.rows.specs.Ours.{LawfulKinds}
use Rattle.pool.specs.Memory.{Memory, node_at, count_at, slots_at}
use Rattle.pool.specs.Counts.{names}
use Rattle.pool.specs.Order.{Ordered}
use Rattle.pool.proofs.Counted.{owed_used, owed_in}
use Rattle.encodings.specs.declared.fields.Fields.{Fields}
use Rattle.encodings.specs.declared.fields.Shape.{Shape}
use Rattle.encodings.specs.declared.step.ExecutionStep.{ExecutionStep}
use Rattle.encodings.specs.declared.step.ExecutionStep.TheVariants.{ExecuteSlot, AppendChild, Done}
use Rattle.encodings.specs.declared.step.StepFault.{StepFault}
use Rattle.encodings.specs.declared.step.StepFault.TheVariants.{NoRows}
use Rattle.encodings.specs.Meaning.{Encodings, LawfulEncodings, LawfulSet, Within, in_range, slots_fit, no_gap, present, lengths, Sized}
use Rattle.encodings.specs.Rows.{fields_of, slots_of, offered, flat_rows, rows_of, Fills, StandsAt, lens_of, rest_by, owed_by, given}
use Rattle.encodings.specs.Step.{Need, all_flat, refusal, Steppable, Appends, Finishes, StepKeeps, LawfulSteps}
use Rattle.encodings.specs.Flattening.{flat_need, no_need, flattened}
use Rattle.encodings.specs.Chunked.{joined, joined_present, sum_present, all_of_kind, sum_of_lengths, chunked_encodings, first_present, chunked_steps}
use Rattle.encodings.specs.Pinned.{children_rows, row_at, ChunkedRows, ChunkedRest}
use Rattle.encodings.proofs.Flats.{flat_rows_of}
use Rattle.encodings.proofs.Wholes.{rows_of_is, stands_within}
use Rattle.encodings.proofs.Looked.{looked_long, looked_rows}
use Rattle.encodings.proofs.Answering.{rowless, unchanged_step, done_itself}
use Rattle.encodings.proofs.FlatteningLaw.{emptied_keeps}

-- ---- lists of which some are absent
present_joined : (cs : List (List Row)) → joined_present (present cs) ≡ joined cs
present_joined [] = refl
present_joined (c ∷ cs) = ap (λ (l : List Row). c ++ l) (present_joined cs)

present_long : (os : List (Option (List Row))) → length (joined_present os) ≡ sum_present (lengths os)
present_long [] = refl
present_long (None ∷ os) = present_long os
present_long (Some r ∷ os) = omega (arith, length-append r (joined_present os), present_long os)

pub sum_full : (ss : List Shape) → sum_present (map (λ h. Some h.len) ss) ≡ sum_of_lengths ss
sum_full [] = refl
sum_full (h ∷ hs) = ap (λ (n : ℕ). h.len + n) (sum_full hs)

-- the same sum, as code takes it
pub lengths_summed : (ss : List Shape) → sum_by (λ h. h.len) ss ≡ sum_of_lengths ss
lengths_summed [] = refl
lengths_summed (h ∷ ss) = sum_by-cons (λ h. h.len) h ss ∙ ap (λ n. h.len + n) (lengths_summed ss)

joined_long : (cs : List (List Row)) (ss : List Shape) → Sized (present cs) ss → length (joined cs) ≡ sum_of_lengths ss
joined_long [] [] s = refl
joined_long [] (h ∷ hs) s = absurd s
joined_long (c ∷ cs) [] s = absurd s
joined_long (c ∷ cs) (h ∷ hs) s = omega (arith, length-append c (joined cs), s.0, joined_long cs hs s.1)

module _ (ks : Kinds) (f : Fields) (ss : List Shape) (fit : slots_fit (chunked_encodings ks) f ss ≡ true) where
  fit_kinds : all_of_kind f.kind ss ≡ true
  fit_kinds = (and_parts (all_of_kind f.kind ss) (eqb (sum_of_lengths ss) f.len) fit).0

  fit_lengths : sum_of_lengths ss ≡ f.len
  fit_lengths = eqb-true (sum_of_lengths ss) f.len (and_parts (all_of_kind f.kind ss) (eqb (sum_of_lengths ss) f.len) fit).1

pub chunked_lawful : (ks : Kinds) → LawfulEncodings ks (chunked_encodings ks)
chunked_lawful ks = record {
  builder_none = refl;
  flat = λ h. absurd (search rules);
  ranged = λ f has fit. (and_parts (in_range ks f) (eqb f.parameter 0) fit).0;
  long = λ f ss cs r fit sized e. ap length (sym (same_Some (joined cs) r e)) ∙ joined_long cs ss sized ∙ fit_lengths ks f ss fit.slots;
  rest_whole = λ f ss cs fit sized. ap (λ (l : List Row). Some l) (present_joined cs);
  rest_length_whole = λ f ss os fit e. ap sum_present e ∙ sum_full ss ∙ fit_lengths ks f ss fit.slots;
  rest_long = λ f ss os r fit sized e. ap length (sym (same_Some (joined_present os) r e)) ∙ present_long os;
}

-- ---- which rows
-- what comes of what may be none
mapped_some : {A B : Type 0} (f : A → B) (o : Option A) (b : B) → option_map f o ≡ Some b → (a : A) × (o ≡ Some a) × (b ≡ f a)
mapped_some f None b e = absurd (none-some b e)
mapped_some f (Some a) b e = (a, refl, sym (same_Some (f a) b e))

mapped_none : {A B : Type 0} (f : A → B) (o : Option A) → option_map f o ≡ None → o ≡ None
mapped_none f None e = refl
mapped_none f (Some a) e = absurd (none-some (f a) (sym e))

mapped_there : {A B : Type 0} (f : A → B) (o : Option A) → is_some (option_map f o) ≡ true → (a : A) × (o ≡ Some a)
mapped_there f None e = absurd (search rules)
mapped_there f (Some a) e = (a, refl)

-- the set that has Chunked gives its rows
module _ (ks : Kinds) (es : Encodings) (within : Within (chunked_encodings ks) es) (m : Memory) (k : ℕ) (mine : eqb (node_at m k).encoding 5 ≡ true) where
  not_flat : (node_at m k).encoding ≢ 1
  not_flat e = let five = eqb-true (node_at m k).encoding 5 mine in omega arith

  rest_joined : (ss : List (Option ℕ)) → rest_by ks es m k ss ≡ option_map joined_present (offered (rows_of ks es m) ss)
  rest_joined ss = go (offered (rows_of ks es m) ss)
    where
      go : (o : Option (List (Option (List Row)))) → elim o as (λ _. Option (List Row)) [ None ↦ None | Some os ↦ es.rest (fields_of (node_at m k)) os ] ≡ option_map joined_present o
      go None = refl
      go (Some os) = within.rest (fields_of (node_at m k)) mine not_flat os

  rows_joined : (hs : List ℕ) → Ordered m hs → 0 < count_at m.nodes k → rows_of ks es m k ≡ option_map joined_present (offered (rows_of ks es m) (slots_of (node_at m k)))
  rows_joined hs o u = rows_of_is ks es m hs o k u not_flat ∙ rest_joined (slots_of (node_at m k))

given_joined : (ks : Kinds) (f : Fields) (o : Option (List (List Row))) → given (chunked_encodings ks) f o ≡ option_map joined o
given_joined ks f None = refl
given_joined ks f (Some cs) = refl

pub chunked_rows_are : ChunkedRows chunked_encodings
chunked_rows_are ks es m hs k l =
    let are : rows_of ks es m k ≡ option_map joined (children_rows ks es m k)
    = looked_rows ks (chunked_encodings ks) es m hs k 5 l refl refl ∙ given_joined ks (fields_of (node_at m k)) (children_rows ks es m k) in
    record {
      exist = λ p. ap is_some are ∙ ap (λ (o : Option (List (List Row))). is_some (option_map joined o)) p.1;
      only = λ e. mapped_there joined (children_rows ks es m k) (sym (ap is_some are) ∙ e);
      long = looked_long ks (chunked_encodings ks) es m hs k 5 l refl;
      each = λ rs j e h.
          let w = mapped_some joined (children_rows ks es m k) rs (sym are ∙ e) in
          (w.0, w.1, ap (λ (xs : List Row). row_at xs j) w.2);
    }

pub chunked_rest_is : ChunkedRest chunked_encodings
chunked_rest_is ks es m hs i law set within st =
    let os : Option (List (Option (List Row))) = offered (rows_of ks es m) (slots_of (node_at m i)) in
    let are : rows_of ks es m i ≡ option_map joined_present os
    = rows_joined ks es within m i st.mine (i ∷ hs) st.ordered (owed_used m.nodes i hs st.ordered.counts) in
    (λ e. mapped_none joined_present os (sym are ∙ e), λ rs e. mapped_some joined_present os rs (sym are ∙ e))

-- ---- the first present slot
-- slot x is the first that is present, with the child c
abbrev pub First : List (Option ℕ) → ℕ → ℕ → Type 0
First [] x c = ⊥
First (None ∷ ss) zero c = ⊥
First (None ∷ ss) (suc x) c = First ss x c
First (Some d ∷ ss) zero c = d ≡ c
First (Some d ∷ ss) (suc x) c = ⊥

-- what a search from slot `from` on finds: none only where no slot is present
abbrev pub FirstIs : List (Option ℕ) → ℕ → Option (ℕ × ℕ) → Type 0
FirstIs ss from None = names ss ≡ []
FirstIs ss from (Some p) = (x : ℕ) × (p.0 ≡ from + x) × First ss x p.1

pub first_is : (ss : List (Option ℕ)) (from : ℕ) → FirstIs ss from (first_present ss from)
first_is [] from = refl
first_is (None ∷ ss) from = later (first_present ss (suc from)) (first_is ss (suc from))
  where
    later : (o : Option (ℕ × ℕ)) → FirstIs ss (suc from) o → FirstIs (None ∷ ss) from o
    later None h = h
    later (Some p) h = (suc h.0, omega (arith, h.1), h.2)
first_is (Some c ∷ ss) from = (0, omega arith, refl)

pub first_slot : (ss : List (Option ℕ)) (x c : ℕ) → First ss x c → get_or ss x None ≡ Some c
first_slot [] x c h = absurd h
first_slot (None ∷ ss) zero c h = absurd h
first_slot (None ∷ ss) (suc x) c h = first_slot ss x c h
first_slot (Some d ∷ ss) zero c h = ap (λ (y : ℕ). Some y) h
first_slot (Some d ∷ ss) (suc x) c h = absurd h

first_take : (n : ℕ) (ss : List (Option ℕ)) (x c : ℕ) → First (take n ss) x c → First ss x c
first_take zero ss x c h = absurd h
first_take (suc n) [] x c h = absurd h
first_take (suc n) (None ∷ ss) zero c h = absurd h
first_take (suc n) (None ∷ ss) (suc x) c h = first_take n ss x c h
first_take (suc n) (Some d ∷ ss) zero c h = h
first_take (suc n) (Some d ∷ ss) (suc x) c h = absurd h

-- it is of the kind of all, and as long as what is owed without it is less
first_kind : (m : Memory) (ss : List (Option ℕ)) (x c kind : ℕ) (hs : List Shape) → First ss x c → Fills m ss hs → all_of_kind kind hs ≡ true → (node_at m c).kind ≡ kind
first_kind m [] x c kind hs f fills e = absurd f
first_kind m (None ∷ ss) zero c kind hs f fills e = absurd f
first_kind m (None ∷ ss) (suc x) c kind [] f fills e = absurd fills
first_kind m (None ∷ ss) (suc x) c kind (h ∷ hs) f fills e = first_kind m ss x c kind hs f fills (and_parts (eqb h.kind kind) (all_of_kind kind hs) e).1
first_kind m (Some d ∷ ss) zero c kind [] f fills e = absurd fills
first_kind m (Some d ∷ ss) zero c kind (h ∷ hs) f fills e =
    ap (λ (y : ℕ). (node_at m y).kind) (sym f) ∙ ap (λ (y : Shape). y.kind) fills.0 ∙ eqb-true h.kind kind (and_parts (eqb h.kind kind) (all_of_kind kind hs) e).0
first_kind m (Some d ∷ ss) (suc x) c kind hs f fills e = absurd f

first_length : (m : Memory) (ss : List (Option ℕ)) (x c : ℕ) → First ss x c → sum_present (lens_of m ss) ≡ (node_at m c).len + sum_present (lens_of m (set ss x None))
first_length m [] x c f = absurd f
first_length m (None ∷ ss) zero c f = absurd f
first_length m (None ∷ ss) (suc x) c f = first_length m ss x c f
first_length m (Some d ∷ ss) zero c f = ap (λ (y : ℕ). (node_at m y).len + sum_present (lens_of m ss)) f
first_length m (Some d ∷ ss) (suc x) c f = absurd f

-- its rows begin the rest, and the rest without it is what follows
Splits : Option (List Row) → Option (List Row) → Option (List Row) → Type 0
Splits whole child later = (r : List Row) → whole ≡ Some r → (a b : List Row) × (child ≡ Some a) × (later ≡ Some b) × (r ≡ a ++ b)

first_rows : (g : ℕ → Option (List Row)) (ss : List (Option ℕ)) (x c : ℕ) → First ss x c
    → Splits (option_map joined_present (offered g ss)) (g c) (option_map joined_present (offered g (set ss x None)))
unfolding Splits
first_rows g [] x c f = absurd f
first_rows g (None ∷ ss) zero c f = absurd f
first_rows g (None ∷ ss) (suc x) c f = go (offered g ss) (offered g (set ss x None)) (first_rows g ss x c f)
  where
    go : (o l : Option (List (Option (List Row)))) → Splits (option_map joined_present o) (g c) (option_map joined_present l)
        → Splits (option_map joined_present (elim o as (λ _. Option (List (Option (List Row)))) [ None ↦ None | Some os ↦ Some (None ∷ os) ])) (g c)
        (option_map joined_present (elim l as (λ _. Option (List (Option (List Row)))) [ None ↦ None | Some os ↦ Some (None ∷ os) ]))
    go None l s = λ r e. absurd (none-some r e)
    go (Some o) None s = λ r e. let w = s r e in absurd (none-some w.1 w.3)
    go (Some o) (Some l) s = s
first_rows g (Some d ∷ ss) zero c f = subst (λ (y : ℕ). Splits (option_map joined_present (offered g (Some d ∷ ss))) (g y) (option_map joined_present (offered g (None ∷ ss)))) f (go (g d) (offered g ss))
  where
    go : (a : Option (List Row)) (o : Option (List (Option (List Row))))
        → Splits (option_map joined_present (elim a as (λ _. Option (List (Option (List Row)))) [ None ↦ None | Some r ↦ elim o [ None ↦ None | Some os ↦ Some (Some r ∷ os) ] ])) a
        (option_map joined_present (elim o as (λ _. Option (List (Option (List Row)))) [ None ↦ None | Some os ↦ Some (None ∷ os) ]))
    go None o = λ r e. absurd (none-some r e)
    go (Some a) None = λ r e. absurd (none-some r e)
    go (Some a) (Some os) = λ r e. (a, joined_present os, refl, refl, sym (same_Some (a ++ joined_present os) r e))
first_rows g (Some d ∷ ss) (suc x) c f = absurd f

-- ---- no slot is present
absent_rows : (g : ℕ → Option (List Row)) (ss : List (Option ℕ)) → names ss ≡ [] → option_map joined_present (offered g ss) ≡ Some []
absent_rows g [] e = refl
absent_rows g (None ∷ ss) e = go (offered g ss) (absent_rows g ss e)
  where
    go : (o : Option (List (Option (List Row)))) → option_map joined_present o ≡ Some [] → option_map joined_present (elim o as (λ _. Option (List (Option (List Row)))) [ None ↦ None | Some os ↦ Some (None ∷ os) ]) ≡ Some []
    go None z = z
    go (Some os) z = z
absent_rows g (Some c ∷ ss) e = absurd (let z = ap length e in omega arith)

-- slots that name nothing, and are some, are absent
pub absent_gap : (ss : List (Option ℕ)) → 0 < length ss → names ss ≡ [] → no_gap ss ≡ false
absent_gap [] l e = absurd (omega arith)
absent_gap (None ∷ ss) l e = refl
absent_gap (Some c ∷ ss) l e = absurd (let z = ap length e in omega arith)

-- ---- every present child is Flat
flat_offered : (ks : Kinds) (es : Encodings) (m : Memory) (ss : List (Option ℕ)) → all_flat m ss ≡ true → (os : List (Option (List Row))) × (offered (rows_of ks es m) ss ≡ Some os)
flat_offered ks es m [] e = ([], refl)
flat_offered ks es m (None ∷ ss) e =
    let w = flat_offered ks es m ss e in
    (None ∷ w.0, ap (λ (o : Option (List (Option (List Row)))). elim o as (λ _. Option (List (Option (List Row)))) [ None ↦ None | Some os ↦ Some (None ∷ os) ]) w.1)
flat_offered ks es m (Some c ∷ ss) e =
    let flat = and_parts (eqb (node_at m c).encoding 1) (all_flat m ss) e in
    let w = flat_offered ks es m ss flat.1 in
    let r = flat_rows_of ks es m c (eqb-true (node_at m c).encoding 1 flat.0) in
    (Some (flat_rows ks m c) ∷ w.0, λ i. elim (r i) as (λ _. Option (List (Option (List Row)))) [ None ↦ None | Some r ↦ elim (w.1 i) [ None ↦ None | Some os ↦ Some (Some r ∷ os) ] ])

-- so there is no want of rows, where what the children offer gives some
pub never_rowless : (ks : Kinds) (es : Encodings) (m : Memory) (i : ℕ)
    → ((os : List (Option (List Row))) → offered (rows_of ks es m) (slots_of (node_at m i)) ≡ Some os → (r : List Row) × (rows_of ks es m i ≡ Some r))
    → rowless m i (rows_of ks es m i) ≡ None
never_rowless ks es m i given = go (all_flat m (slots_of (node_at m i))) refl
  where
    go : (b : Bool) → all_flat m (slots_of (node_at m i)) ≡ b → elim b as (λ _. Option StepFault) [ true ↦ elim (rows_of ks es m i) [ None ↦ Some NoRows | Some r ↦ None ] | false ↦ None ] ≡ None
    go false e = refl
    go true e =
        let w = flat_offered ks es m (slots_of (node_at m i)) e in
        ap (λ (o : Option (List Row)). elim o as (λ _. Option StepFault) [ None ↦ Some NoRows | Some r ↦ None ]) (given w.0 w.1).1

-- ---- what is owed
-- where the encoding itself owes n rows less with other slots, so it does within a set
pub owed_less : {own es : Encodings} → Within own es → (m : Memory) (i : ℕ) → own.has (node_at m i).encoding ≡ true → (node_at m i).encoding ≢ 1 → (ss ts : List (Option ℕ)) (n : ℕ)
    → own.rest_length (fields_of (node_at m i)) (lens_of m ss) ≡ n + own.rest_length (fields_of (node_at m i)) (lens_of m ts) → owed_by es m i ss ≡ n + owed_by es m i ts
owed_less within m i mine ne ss ts n e =
    let is = within.rest_length (fields_of (node_at m i)) mine ne in
    is (lens_of m ss) ∙ e ∙ ap (λ (x : ℕ). n + x) (sym (is (lens_of m ts)))

-- ---- its steps
-- what is needed and answered with this first present slot, of an array that never had slots, or had some
abbrev need_by : Kinds → Memory → ℕ → Bool → Need
need_by ks m i never = elim never [ true ↦ flat_need ks m i | false ↦ no_need m i ]

abbrev pub step_by : Kinds → Memory → ℕ → Option (ℕ × ℕ) → Bool → Result ExecutionStep StepFault × Memory
step_by ks m i first never =
    elim first [
      | Some p ↦ elim (eqb (node_at m p.1).encoding 1) [ true ↦ (Ok (AppendChild p.0), m) | false ↦ (Ok (ExecuteSlot p.0 1), m) ]
      | None ↦ elim never [ true ↦ flattened ks m i (Some []) | false ↦ (Ok (Done i), m) ]
    ]

module _ (ks : Kinds) (kinds : LawfulKinds ks) (es : Encodings) (lawful : LawfulSet ks es) (within : Within (chunked_encodings ks) es) (m : Memory) (hs : List ℕ) (i : ℕ) (st : Steppable ks es (chunked_encodings ks) m hs i) where
  abbrev ss : List (Option ℕ)
  ss = slots_of (node_at m i)

  abbrev given_rows : List (Option ℕ) → Option (List Row)
  given_rows slots = option_map joined_present (offered (rows_of ks es m) slots)

  used : 0 < count_at m.nodes i
  used = owed_used m.nodes i hs st.ordered.counts

  rows_are : rows_of ks es m i ≡ given_rows ss
  rows_are = rows_joined ks es within m i st.mine (i ∷ hs) st.ordered used

  -- it stands as one of Chunked alone
  alone : StandsAt (chunked_encodings ks) m i
  alone = stands_within ks es m (i ∷ hs) st.ordered (chunked_encodings ks) within i st.mine st.stands

  appends : (x c : ℕ) → First ss x c → (node_at m c).encoding ≡ 1 → Appends ks es m m i x
  unfolding Splits
  appends x c f flat =
      record {
        child = c;
        present = first_slot (slots_at m.nodes i) x c (first_take (node_at m i).arity (slots_at m.nodes i) x c f);
        flat = flat;
        kind = first_kind m ss x c (node_at m i).kind alone.shapes f alone.fills (fit_kinds ks (fields_of (node_at m i)) alone.shapes alone.slots_fit);
        rows = λ r e.
            let w = first_rows (rows_of ks es m) ss x c f r (sym rows_are ∙ e) in
            let first : flat_rows ks m c ≡ w.0 = same_Some (flat_rows ks m c) w.0 (sym (flat_rows_of ks es m c flat) ∙ w.2) in
            (w.1, rest_joined ks es within m i st.mine (set ss x None) ∙ w.3, w.4 ∙ ap (λ (l : List Row). l ++ w.1) (sym first));
        length = owed_less within m i st.mine (not_flat ks es within m i st.mine) ss (set ss x None) (node_at m c).len (first_length m ss x c f);
        same = refl;
      }

  never_refused : None ≡ refusal (no_need m i) m i (rows_of ks es m i)
  never_refused =
      sym (unchanged_step m (i ∷ hs) i (rows_of ks es m i) st.ordered
      ∙ never_rowless ks es m i (λ os e. (joined_present os, rows_are ∙ ap (option_map joined_present) e)))

  pub no_slots : (node_at m i).arity ≡ 0 → ss ≡ []
  no_slots e = ap (λ (n : ℕ). take n (slots_at m.nodes i)) e

  pub empty_rows : names ss ≡ [] → rows_of ks es m i ≡ Some []
  empty_rows none = rows_are ∙ absent_rows (rows_of ks es m) ss none

  pub empty_len : (node_at m i).arity ≡ 0 → (node_at m i).len ≡ 0
  empty_len e = go alone.shapes (subst (λ (slots : List (Option ℕ)). Fills m slots alone.shapes) (no_slots e) alone.fills) (fit_lengths ks (fields_of (node_at m i)) alone.shapes alone.slots_fit)
    where
      go : (shapes : List Shape) → Fills m [] shapes → sum_of_lengths shapes ≡ (node_at m i).len → (node_at m i).len ≡ 0
      go [] f e = sym e
      go (h ∷ shapes) f e = absurd f

  -- an array that had slots is done once all are absent
  done : 0 < (node_at m i).arity → names ss ≡ [] → Finishes ks es (no_need m i) m hs i i m
  done some none =
      done_itself ks es (chunked_encodings ks) m hs i st
      (inl (record {
        gap = absent_gap ss (omega (arith, length-take (node_at m i).arity (slots_at m.nodes i), st.ordered.eight i (owed_in m.nodes i hs st.ordered.counts))) none;
        empty = empty_rows none;
      }))

  step_keeps : (first : Option (ℕ × ℕ)) → FirstIs ss 0 first → (never : Bool) → eqb (node_at m i).arity 0 ≡ never → StepKeeps ks es (need_by ks m i never) m hs i (step_by ks m i first never).0 (step_by ks m i first never).1
  step_keeps None none true e =
      let zero : (node_at m i).arity ≡ 0 = eqb-true (node_at m i).arity 0 e in
      emptied_keeps ks kinds es (chunked_encodings ks) lawful m hs i st (no_slots zero) (empty_rows none) (empty_len zero)
  step_keeps None none false e = record { refusals = never_refused; answer = done (omega (arith, eqb-false (node_at m i).arity 0 e)) none }
  step_keeps (Some p) f true e = absurd (subst (λ (slots : List (Option ℕ)). First slots f.0 p.1) (no_slots (eqb-true (node_at m i).arity 0 e)) f.2)
  step_keeps (Some p) f false e = go (eqb (node_at m p.1).encoding 1) refl
    where
      first : First ss p.0 p.1
      first = let same : f.0 ≡ p.0 = omega (arith, f.1) in subst (λ (x : ℕ). First ss x p.1) same f.2

      go : (flat : Bool) → eqb (node_at m p.1).encoding 1 ≡ flat
          → let a = elim flat as (λ _. Result ExecutionStep StepFault × Memory) [ true ↦ (Ok (AppendChild p.0), m) | false ↦ (Ok (ExecuteSlot p.0 1), m) ] in StepKeeps ks es (no_need m i) m hs i a.0 a.1
      go true flat = record { refusals = never_refused; answer = appends p.0 p.1 first (eqb-true (node_at m p.1).encoding 1 flat) }
      go false flat =
          record {
            refusals = never_refused;
            answer = record { child = p.1; present = first_slot (slots_at m.nodes i) p.0 p.1 (first_take (node_at m i).arity (slots_at m.nodes i) p.0 p.1 first); same = refl };
          }

-- Chunked is done slot by slot
pub chunked_keeps : (ks : Kinds) → LawfulKinds ks → LawfulSteps ks (chunked_encodings ks) (chunked_steps ks)
chunked_keeps ks kinds es lawful within m hs i st = step_keeps ks kinds es lawful within m hs i st (first_present (slots_of (node_at m i)) 0) (first_is (slots_of (node_at m i)) 0) (eqb (node_at m i).arity 0) refl
