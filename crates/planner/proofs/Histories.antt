-- The law holds of every history.
use Rattle.std.proofs.Common.{◌≡◌, ℕ, ◌<◌, Bool, true, false, List, [], ◌∷◌, length, get_or, set, Some, None, Option, sym, refl, ap, ◌∙◌, subst, ⊎_elim, arith}
use Rattle.std.proofs.lemmas.List.{get_or-set_same, get_or-set_other, get_or_past, length-set, length-replicate}
use Rattle.std.proofs.lemmas.Option.{none-some}
use Rattle.std.proofs.lemmas.Bool.{cases_eq, cases_lt, eqb-false}
use Rattle.rows.specs.declared.row.Row.{Row}
use Rattle.rows.specs.Kind.{Kinds}
use Rattle.rows.specs.Ours.{LawfulKinds}
use Rattle.pool.specs.Memory.{Memory}
use Rattle.pool.specs.Counts.{names}
use Rattle.encodings.specs.Meaning.{Encodings, LawfulSet, present}
use Rattle.encodings.specs.declared.fields.Fields.{Fields}
use Rattle.encodings.specs.Rows.{gathered, given, rows_of, Carries}
use Rattle.encodings.proofs.Keeping.{rows_kept}
use Rattle.planner.specs.Calls.{Told, make, assemble, share, release, read, Said, done, rows, refused}
use Rattle.planner.specs.Called.{State, new_state, root_at, parsed_rows, called}
use Rattle.planner.specs.Law.{Moment, History, state_after, Answered, Reached, accepted, Entry, rows_entered, entered, ledger, rows_under, rows_under_each, Entered, renews, renewed, Found, own_root, Spares, Others, Whole, Law, Extends}
use Rattle.pool.proofs.Counted.{heights_falling}
use Rattle.pool.proofs.Reached.{counts_exact}
use Rattle.planner.proofs.Good.{Good, Step}
use Rattle.planner.proofs.Steps.{call_step}
use Rattle.planner.proofs.Gathering.{gathered_carries}
use Rattle.planner.proofs.Beginning.{none_at, new_good}

module _ (ks : Kinds) (es : Encodings) where
  -- the rows of what a root names
  abbrev under : Memory → Option ℕ → Option (List Row)
  under m o = elim o [ None ↦ None | Some k ↦ rows_of ks es m k ]

  -- a root that is spared has the rows that it had
  rows_spared : (s t : State) (r : ℕ) → Spares s t r → rows_under ks es t r ≡ rows_under ks es s r
  rows_spared s t r sp = ap (λ (o : Option ℕ). under t.memory o) sp.same_root ∙ by (root_at s r) refl
    where
      by : (o : Option ℕ) → root_at s r ≡ o → under t.memory o ≡ under s.memory o
      by None e = refl
      by (Some k) e = rows_kept ks es s.memory t.memory k (λ j h. sp.same_array k j e h)

  -- ---- entries
  entered_kept : (s t : State) (r : ℕ) (e : Option Entry) → root_at t r ≡ root_at s r → rows_under ks es t r ≡ rows_under ks es s r → Entered ks es s r e → Entered ks es t r e
  entered_kept s t r None p q h = p ∙ h
  entered_kept s t r (Some None) p q h = (h.0, p ∙ h.1)
  entered_kept s t r (Some (Some xs)) p q h = ((h.0.0, p ∙ h.0.1), q ∙ h.1)

  entered_new : (t : State) (r k : ℕ) (e : Entry) → root_at t r ≡ Some k → Carries e (rows_under ks es t r) → Entered ks es t r (Some e)
  entered_new t r k None p q = (k, p)
  entered_new t r k (Some xs) p q = ((k, p), q xs refl)

  -- rows that are entered for a root are under it
  entered_rows : (s : State) (r : ℕ) (e : Option Entry) → Entered ks es s r e → Carries (elim e as (λ _. Option (List Row)) [ None ↦ None | Some x ↦ x ]) (rows_under ks es s r)
  entered_rows s r None h xs e = absurd (none-some xs e)
  entered_rows s r (Some None) h xs e = absurd (none-some xs e)
  entered_rows s r (Some (Some ys)) h xs e = h.1 ∙ e

  -- where the children's rows are there, so are those that they give
  given_carries : (f : Fields) (o p : Option (List (List Row))) → ((l : List (List Row)) → o ≡ Some l → p ≡ Some l) → Carries (given es f o) (given es f p)
  given_carries f None p c xs e = absurd (none-some xs e)
  given_carries f (Some l) p c xs e = ap (given es f) (c l refl) ∙ e

  -- what is entered for a root that is shared from is true of the root that it is shared to
  entered_shared : (s t : State) (to from k : ℕ) (e : Option Entry) → root_at t to ≡ Some k → root_at s from ≡ Some k → rows_under ks es t to ≡ rows_under ks es s from → Entered ks es s from e → Entered ks es t to e
  entered_shared s t to from k None p q rs h = let z : ◌≡◌ {A = ℕ} 0 1 = none_some k (sym h ∙ q) in absurd (omega arith)
    where
      none_some : (k : ℕ) → ◌≡◌ {A = Option ℕ} None (Some k) → ◌≡◌ {A = ℕ} 0 1
      none_some k e = cc
  entered_shared s t to from k (Some None) p q rs h = (k, p)
  entered_shared s t to from k (Some (Some xs)) p q rs h = ((k, p), rs ∙ h.1)

  module _ (s t : State) (l : List (Option Entry)) (long : length l ≡ 32) (old : (r : ℕ) → r < 32 → Entered ks es s r (get_or l r None)) where
    -- the entry of a root that the call is not about
    entry_other : (c : Told) (own : ℕ) (x : Option Entry) → own ≡ own_root c → Others s c t → (r : ℕ) → r < 32 → (r ≡ own → ⊥) → Entered ks es t r (get_or (set l own x) r None)
    entry_other c own x is others r h ne =
        let sp = others r (λ e. ne (e ∙ sym is)) in
        subst (λ (y : Option Entry). Entered ks es t r y) (sym (get_or-set_other l own r x None ne))
        (entered_kept s t r (get_or l r None) sp.same_root (rows_spared s t r sp) (old r h))

    entry_own : (own : ℕ) (x : Option Entry) (r : ℕ) → own < 32 → r ≡ own → Entered ks es t own x → Entered ks es t r (get_or (set l own x) r None)
    entry_own own x r low e h =
        subst (λ (k : ℕ). Entered ks es t k (get_or (set l own x) k None)) (sym e)
        (subst (λ (y : Option Entry). Entered ks es t own y) (sym (get_or-set_same l own x None (omega (arith, long)))) h)

    entry_same : t ≡ s → (r : ℕ) → r < 32 → Entered ks es t r (get_or l r None)
    entry_same e r h = subst (λ (x : State). Entered ks es x r (get_or l r None)) (sym e) (old r h)

    -- what the ledger has for a root is there
    rows_there : (r : ℕ) → Carries (rows_entered l r) (rows_under ks es s r)
    rows_there r xs e =
        ⊎_elim
        (λ (low : r < 32). entered_rows s r (get_or l r None) (old r low) xs e)
        (λ high. absurd (none-some xs (sym (ap (λ (o : Option Entry). elim o as (λ _. Option (List Row)) [ None ↦ None | Some x ↦ x ]) (get_or_past l r None (omega (arith, long)))) ∙ e)))
        (cases_lt r 32)

    next_entered : (c : Told) (a : Said) → Step ks es s c a t → (r : ℕ) → r < 32 → Entered ks es t r (get_or (elim (accepted a) as (λ b. List (Option Entry)) [ true ↦ entered ks es l c | false ↦ l ]) r None)
    next_entered (make root kind n bytes) done st r h =
        ⊎_elim
        (λ e. entry_own root (Some (parsed_rows (ks.kind kind) n bytes)) r st.effect.0 e (entered_new t root st.effect.1.0 (parsed_rows (ks.kind kind) n bytes) st.effect.1.1 (λ xs e. st.makes ∙ e)))
        (λ ne. entry_other (make root kind n bytes) root (Some (parsed_rows (ks.kind kind) n bytes)) refl st.others r h ne)
        (cases_eq r root)
    next_entered (make root kind n bytes) (rows a b c d) st r h = absurd st.effect
    next_entered (make root kind n bytes) (refused e) st r h = entry_same st.effect r h
    next_entered (assemble root f rs) done st r h =
        let entry : Entry = given es f (gathered (rows_entered l) (present rs)) in
        ⊎_elim
        (λ e. entry_own root (Some entry) r st.effect.0 e
        (entered_new t root st.effect.1.0 entry st.effect.1.1
        (λ xs is. st.makes ∙ given_carries f (gathered (rows_entered l) (present rs)) (rows_under_each ks es s rs) (gathered_carries (rows_entered l) (rows_under ks es s) rows_there rs) xs is)))
        (λ ne. entry_other (assemble root f rs) root (Some entry) refl st.others r h ne)
        (cases_eq r root)
    next_entered (assemble root f rs) (rows a b c d) st r h = absurd st.effect
    next_entered (assemble root f rs) (refused e) st r h = entry_same st.effect r h
    next_entered (share to from) done st r h =
        ⊎_elim
        (λ e. entry_own to (get_or l from None) r st.effect.0 e
        (entered_shared s t to from st.effect.2.0 (get_or l from None) st.effect.2.1 st.effect.2.2 st.shares (old from st.effect.1)))
        (λ ne. entry_other (share to from) to (get_or l from None) refl st.others r h ne)
        (cases_eq r to)
    next_entered (share to from) (rows a b c d) st r h = absurd st.effect
    next_entered (share to from) (refused e) st r h = entry_same st.effect r h
    next_entered (release root) done st r h =
        ⊎_elim
        (λ e. entry_own root None r st.effect.0 e st.effect.1)
        (λ ne. entry_other (release root) root None refl st.others r h ne)
        (cases_eq r root)
    next_entered (release root) (rows a b c d) st r h = absurd st.effect
    next_entered (release root) (refused e) st r h = entry_same st.effect r h
    next_entered (read root) done st r h = absurd st.effect
    next_entered (read root) (rows a b c d) st r h = entry_same st.effect r h
    next_entered (read root) (refused e) st r h = entry_same st.effect r h

  entered_long : (l : List (Option Entry)) (c : Told) → length l ≡ 32 → length (entered ks es l c) ≡ 32
  entered_long l (make root kind n bytes) e = length-set l root (Some (parsed_rows (ks.kind kind) n bytes)) ∙ e
  entered_long l (assemble root f rs) e = length-set l root (Some (given es f (gathered (rows_entered l) (present rs)))) ∙ e
  entered_long l (share to from) e = length-set l to (get_or l from None) ∙ e
  entered_long l (release root) e = length-set l root None ∙ e
  entered_long l (read root) e = e

  -- fed or not, the ledger stays as long
  fed_long : (l : List (Option Entry)) (c : Told) (b : Bool) → length l ≡ 32 → length (elim b as (λ v. List (Option Entry)) [ true ↦ entered ks es l c | false ↦ l ]) ≡ 32
  fed_long l c true e = entered_long l c e
  fed_long l c false e = e

  ledger_long : (h : History) → length (ledger ks es h) ≡ 32
  ledger_long [] = length-replicate {A = Option Entry} 32 None
  ledger_long (m ∷ h) = fed_long (ledger ks es h) m.call (accepted m.answer) (ledger_long h)

  -- ---- what is found
  -- what a call that puts nothing under r leaves there, if anything, was there before
  abbrev Stays : State → State → ℕ → Type 0
  Stays s t r = (root_at s r ≡ root_at t r) × (rows_under ks es t r ≡ rows_under ks es s r)

  module _ (s t : State) (r k : ℕ) (held : root_at t r ≡ Some k) where
    stays_other : (c : Told) → Others s c t → (r ≡ own_root c → ⊥) → Stays s t r
    stays_other c others ne = let sp = others r ne in (sym sp.same_root, rows_spared s t r sp)

    stays_same : t ≡ s → Stays s t r
    stays_same e = (ap (λ (x : State). root_at x r) (sym e), ap (λ (x : State). rows_under ks es x r) e)

    not_empty : root_at t r ≡ None → ⊥
    not_empty e = let z : ◌≡◌ {A = ℕ} 0 1 = cc in omega arith

    stays : (c : Told) (a : Said) → Step ks es s c a t → (elim (accepted a) as (λ b. Bool) [ true ↦ renews c r | false ↦ false ]) ≡ false → Stays s t r
    stays (make root kind n bytes) done st kept = stays_other (make root kind n bytes) st.others (λ e. eqb-false root r kept (sym e))
    stays (make root kind n bytes) (rows a b c d) st kept = absurd st.effect
    stays (make root kind n bytes) (refused e) st kept = stays_same st.effect
    stays (assemble root f rs) done st kept = stays_other (assemble root f rs) st.others (λ e. eqb-false root r kept (sym e))
    stays (assemble root f rs) (rows a b c d) st kept = absurd st.effect
    stays (assemble root f rs) (refused e) st kept = stays_same st.effect
    stays (share to from) done st kept = stays_other (share to from) st.others (λ e. eqb-false to r kept (sym e))
    stays (share to from) (rows a b c d) st kept = absurd st.effect
    stays (share to from) (refused e) st kept = stays_same st.effect
    stays (release root) done st kept =
        stays_other (release root) st.others (λ e. not_empty (subst (λ (x : ℕ). root_at t x ≡ None) (sym e) st.effect.1))
    stays (release root) (rows a b c d) st kept = absurd st.effect
    stays (release root) (refused e) st kept = stays_same st.effect
    stays (read root) done st kept = absurd st.effect
    stays (read root) (rows a b c d) st kept = stays_same st.effect
    stays (read root) (refused e) st kept = stays_same st.effect

  next_found : (m : Moment) (h : History) → Step ks es (state_after h) m.call m.answer m.after
      → ((r k : ℕ) → root_at (state_after h) r ≡ Some k → Found ks es r h (rows_under ks es (state_after h) r))
      → (r k : ℕ) → root_at m.after r ≡ Some k → Found ks es r (m ∷ h) (rows_under ks es m.after r)
  next_found m h st old r k held = ((λ xs e. e), by (renewed m r) refl)
    where
      by : (b : Bool) → renewed m r ≡ b → elim b as (λ v. Type 0) [ true ↦ Unit {0} | false ↦ Found ks es r h (rows_under ks es m.after r) ]
      by true e = tt
      by false e =
          let p = stays (state_after h) m.after r k held m.call m.answer st e in
          subst (λ (o : Option (List Row)). Found ks es r h o) (sym p.1) (old r k (p.0 ∙ held))

module _ (ks : Kinds) (lawful : LawfulKinds ks) (es : Encodings) (means : LawfulSet ks es) where
  whole_of : (s : State) → Good ks es s → Whole ks es s
  whole_of s g = record { each = g.whole; heights = g.ordered.heights; low = g.ordered.low; within = g.ordered.within; apart = g.ordered.apart }

  pub history_law : (h : History) → Answered ks es h → Good ks es (state_after h) × Law ks es h
  history_law [] answered =
      let g = new_good ks es in
      let falling = heights_falling new_state.memory.nodes (names new_state.roots) g.ordered.counts g.ordered.heights in (
        g,
        record {
          answered = tt;
          entries = λ r low. subst (λ (x : Option Entry). Entered ks es new_state r x) (sym (none_at 32 r)) (none_at 32 r);
          found = λ r k e. tt;
          made = tt;
          shared = tt;
          read = tt;
          counted = g.ordered.counts;
          reached = counts_exact new_state.memory.nodes (names new_state.roots) g.ordered.counts falling;
          unchanged = tt;
          others = tt;
          whole = whole_of new_state g;
        },
      )
  history_law (m ∷ h) answered =
      let before = history_law h answered.1 in
      let old : Law ks es h = before.1 in
      let s : State = state_after h in
      let st : Step ks es s m.call m.answer m.after
      = subst (λ (p : Said × State). Step ks es s m.call p.0 p.1) (sym answered.0) (call_step ks lawful es means s before.0 m.call) in
      let g = st.good in
      let falling = heights_falling _ _ g.ordered.counts g.ordered.heights in (
        g,
        record {
          answered = answered;
          entries = next_entered ks es s m.after (ledger ks es h) (ledger_long ks es h) old.entries m.call m.answer st;
          found = next_found ks es m h st old.found;
          made = (st.makes, old.made);
          shared = (st.shares, old.shared);
          read = (st.reads, old.read);
          counted = g.ordered.counts;
          reached = counts_exact _ _ g.ordered.counts falling;
          unchanged = (st.unchanged, old.unchanged);
          others = (st.others, old.others);
          whole = whole_of m.after g;
        },
      )

  -- one call more
  pub extended : (h : History) (s t : State) (c : Told) (a : Said) → Reached ks es h s → (a, t) ≡ called ks es s c → Extends ks es h c a t
  extended h s t c a r e =
      let p : (a, t) ≡ called ks es (state_after h) c = e ∙ ap (λ (x : State). called ks es x c) (sym r.here) in
      record {
        reached = record { answered = (p, r.answered); here = refl };
        law = (history_law (record { call = c; answer = a; after = t } ∷ h) (p, r.answered)).1;
      }
