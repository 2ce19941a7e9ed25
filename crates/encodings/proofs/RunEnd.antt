-- RunEnd: each row is the value at the first end above it.
use Rattle.std.proofs.Common.{◌≡◌, ℕ, zero, suc, ◌+◌, ◌-◌, ◌<◌, ◌≤◌, ◌≢◌, ◌⊎◌, ⊎_elim, true, false, Bool, ltb, leb, eqb, ◌&&◌, ◌==◌, List, [], ◌∷◌, ◌++◌, length, drop, replicate, Some, None, Ok, Err, Option, Result, sym, refl, ap, ◌∙◌, subst, arith, rules}
use Rattle.std.specs.Option.{is_some}
use Rattle.std.proofs.lemmas.Bool.{ltb-true, leb-true, eqb-true, lt-ltb, le-ltb, le-leb, lt-leb, eq-eqb, ne_eqb, and_parts, and_from, and_right, cases_lt}
use Rattle.std.proofs.lemmas.List.{length-append, length-replicate, get_or_append_left, get_or-append_right, get_or-replicate, drop_all, drop_more}
use Rattle.std.proofs.lemmas.Option.{none-some, same_Some}
use Rattle.rows.specs.declared.row.Row.{Row}
use Rattle.rows.specs.Kind.{Kinds}
use Rattle.rows.specs.Ours.{LawfulKinds, number}
use Rattle.pool.specs.declared.builder.Builder.{Builder}
use Rattle.pool.specs.declared.node.Node.{Node}
use Rattle.pool.specs.Memory.{Memory, node_at}
use Rattle.pool.specs.Memory as words
use Rattle.pool.specs.Building.{append_rows, Open}
use Rattle.encodings.specs.declared.fields.Fields.{Fields}
use Rattle.encodings.specs.declared.step.StepFault.{StepFault}
use Rattle.encodings.specs.declared.step.StepFault.TheVariants.{NoRows}
use Rattle.encodings.specs.Meaning.{Encodings, LawfulEncodings, in_range}
use Rattle.encodings.specs.Rows.{fields_of, rows_of, given}
use Rattle.encodings.specs.Step.{LawfulSteps}
use Rattle.encodings.specs.Flattening.{flattening_steps, flat_given, Filling, Filled}
use Rattle.encodings.specs.RunEnd.{runs_from, run_end_encodings}
use Rattle.encodings.specs.Pinned.{row_at, children_rows, EndsRise, FirstAbove, RunEndRows}
use Rattle.encodings.proofs.Undivided.{one_piece_lawful}
use Rattle.encodings.proofs.FlatteningLaw.{TakenRows, flattening_keeps}
use Rattle.encodings.proofs.Looked.{some_there, looked_stands, looked_sized, looked_long, looked_rows}
use Rattle.encodings.proofs.Coming.{followed, Partly, more_come, all_came, none_come}
use Rattle.encodings.proofs.Twos.{OfTwo, child_in, rows_in, Children, two_parts, two_given, two_shapes, two_sized, two_taken, two_children, first_within, first_number, first_long, second_within, second_row, second_long, second_open}

-- ends rise from `at` on, and the last is n
abbrev Rises : ℕ → ℕ → List Row → Type 0
Rises n at [] = at ≡ n
Rises n at (e ∷ es) = (at < e.value) × (e.value ≤ n) × Rises n e.value es

-- what comes of a test and of rows that may be none
abbrev after : Bool → ℕ → Row → Option (List Row) → Option (List Row)
after b k v o = elim b as (λ _. Option (List Row)) [ true ↦ elim o [ None ↦ None | Some l ↦ Some (replicate k v ++ l) ] | false ↦ None ]

-- the first run, and what follows
runs_parts : (n at : ℕ) (e : Row) (es : List Row) (v : Row) (vs rs : List Row) → runs_from n at (e ∷ es) (v ∷ vs) ≡ Some rs
    → (at < e.value) × (e.value ≤ n) × ((later : List Row) × (runs_from n e.value es vs ≡ Some later) × (rs ≡ replicate (e.value - at) v ++ later))
runs_parts n at e es v vs rs = go (ltb at e.value && leb e.value n) refl (runs_from n e.value es vs) refl
  where
    go : (b : Bool) → (ltb at e.value && leb e.value n) ≡ b → (o : Option (List Row)) → runs_from n e.value es vs ≡ o → after b (e.value - at) v o ≡ Some rs
        → (at < e.value) × (e.value ≤ n) × ((later : List Row) × (runs_from n e.value es vs ≡ Some later) × (rs ≡ replicate (e.value - at) v ++ later))
    go true t None q s = absurd (none-some rs s)
    go true t (Some l) q s =
        let p = and_parts (ltb at e.value) (leb e.value n) t in
        (ltb-true at e.value p.0, leb-true e.value n p.1, (l, q, sym (same_Some (replicate (e.value - at) v ++ l) rs s)))
    go false t o q s = absurd (none-some rs s)

-- an array of no runs has no rows
runs_done : (n at : ℕ) (vs rs : List Row) → runs_from n at [] vs ≡ Some rs → (at ≡ n) × (rs ≡ [])
runs_done n at vs rs = go (eqb at n) refl
  where
    go : (b : Bool) → eqb at n ≡ b → elim b as (λ _. Option (List Row)) [ true ↦ Some [] | false ↦ None ] ≡ Some rs → (at ≡ n) × (rs ≡ [])
    go true t s = (eqb-true at n t, sym (same_Some [] rs s))
    go false t s = absurd (none-some rs s)

rises_below : (n at : ℕ) (ends : List Row) → Rises n at ends → at ≤ n
rises_below n at [] r = omega arith
rises_below n at (e ∷ es) r = omega (arith, r.0, r.1)

-- ---- there are rows exactly where ends rise
runs_exist : (n at : ℕ) (ends values : List Row) → length ends ≡ length values → Rises n at ends → is_some (runs_from n at ends values) ≡ true
runs_exist n at [] vs l r = rw (eq-eqb at n r, is_some, runs_from) refl
runs_exist n at (e ∷ es) [] l r = absurd (omega arith)
runs_exist n at (e ∷ es) (v ∷ vs) l r = go (runs_from n e.value es vs) (runs_exist n e.value es vs (omega arith) r.2)
  where
    go : (o : Option (List Row)) → is_some o ≡ true → is_some (after (ltb at e.value && leb e.value n) (e.value - at) v o) ≡ true
    go None q = absurd (search rules)
    go (Some l) q = rw (and_from (ltb at e.value) (leb e.value n) (lt-ltb at e.value r.0) (le-leb e.value n r.1)) refl

runs_rise : (n at : ℕ) (ends values rs : List Row) → runs_from n at ends values ≡ Some rs → Rises n at ends
runs_rise n at [] vs rs s = (runs_done n at vs rs s).0
runs_rise n at (e ∷ es) [] rs s = absurd (none-some rs s)
runs_rise n at (e ∷ es) (v ∷ vs) rs s = let p = runs_parts n at e es v vs rs s in (p.0, p.1, runs_rise n e.value es vs p.2.0 p.2.1)

-- ---- what rises, element by element
rises_above : (n at : ℕ) (ends : List Row) (i : ℕ) → Rises n at ends → i < length ends → at < (row_at ends i).value
rises_above n at [] i r h = absurd (omega arith)
rises_above n at (e ∷ es) zero r h = r.0
rises_above n at (e ∷ es) (suc i) r h = omega (arith, r.0, rises_above n e.value es i r.2 (omega arith))

rises_on : (n at : ℕ) (ends : List Row) (i j : ℕ) → Rises n at ends → i < j → j < length ends → (row_at ends i).value < (row_at ends j).value
rises_on n at [] i j r l h = absurd (omega arith)
rises_on n at (e ∷ es) i zero r l h = absurd (omega arith)
rises_on n at (e ∷ es) zero (suc j) r l h = rises_above n e.value es j r.2 (omega arith)
rises_on n at (e ∷ es) (suc i) (suc j) r l h = rises_on n e.value es i j r.2 (omega arith) (omega arith)

rises_last : (n at : ℕ) (ends : List Row) (i : ℕ) → Rises n at ends → suc i ≡ length ends → (row_at ends i).value ≡ n
rises_last n at [] i r l = absurd (omega arith)
rises_last n at (e ∷ []) zero r l = r.2
rises_last n at (e ∷ f ∷ es) zero r l = absurd (omega arith)
rises_last n at (e ∷ es) (suc i) r l = rises_last n e.value es i r.2 (omega arith)

rises_none : (n at : ℕ) (ends : List Row) → Rises n at ends → ends ≡ [] → n ≡ at
rises_none n at [] r e = sym r
rises_none n at (x ∷ es) r e = absurd (let l = ap (λ (xs : List Row). length xs) e in omega arith)

rises_ends : (n : ℕ) (ends : List Row) → Rises n 0 ends → EndsRise n ends
rises_ends n ends r = record {
  positive = λ i h. rises_above n 0 ends i r h;
  rising = λ i j l h. rises_on n 0 ends i j r l h;
  last = λ i l. rises_last n 0 ends i r l;
  none = rises_none n 0 ends r;
}

rises_from : (n at : ℕ) (ends : List Row) → ((i : ℕ) → i < length ends → at < (row_at ends i).value)
    → ((i j : ℕ) → i < j → j < length ends → (row_at ends i).value < (row_at ends j).value)
    → ((i : ℕ) → suc i ≡ length ends → (row_at ends i).value ≡ n) → (ends ≡ [] → n ≡ at) → Rises n at ends
rises_from n at [] above on last none = sym (none refl)
rises_from n at (e ∷ es) above on last none =
    let rest = rises_from n e.value es (λ i h. on 0 (suc i) (omega arith) (omega arith)) (λ i j l h. on (suc i) (suc j) (omega arith) (omega arith)) (λ i l. last (suc i) (omega arith))
    (λ (q : es ≡ []). sym (last 0 (omega (arith, ap (λ (xs : List Row). length xs) q)))) in
    (above 0 (omega arith), rises_below n e.value es rest, rest)

ends_rise : (n : ℕ) (ends : List Row) → EndsRise n ends → Rises n 0 ends
ends_rise n ends r = rises_from n 0 ends r.positive r.rising r.last r.none

-- ---- the rows
runs_long : (n at : ℕ) (ends values rs : List Row) → runs_from n at ends values ≡ Some rs → at + length rs ≡ n
runs_long n at [] vs rs s = let p = runs_done n at vs rs s in omega (arith, ap (λ (l : List Row). length l) p.1)
runs_long n at (e ∷ es) [] rs s = absurd (none-some rs s)
runs_long n at (e ∷ es) (v ∷ vs) rs s =
    let p = runs_parts n at e es v vs rs s in
    let long : length rs ≡ (e.value - at) + length p.2.0 = simp (length-append, length-replicate) at (ap (λ (l : List Row). length l) p.2.2) in
    omega (arith, long, runs_long n e.value es vs p.2.0 p.2.1)

before_suc : (e : Row) (es : List Row) (j i : ℕ) → e.value ≤ j → ((h : ℕ) → h < i → (row_at es h).value ≤ j) → (h : ℕ) → h < suc i → (row_at (e ∷ es) h).value ≤ j
before_suc e es j i first later zero l = first
before_suc e es j i first later (suc h) l = later h (omega arith)

-- row k from `at` on is the value at the first end above it
runs_at : (n at : ℕ) (ends values rs : List Row) (k : ℕ) → runs_from n at ends values ≡ Some rs → at + k < n
    → (i : ℕ) × FirstAbove ends (at + k) i × (i < length values) × (row_at rs k ≡ row_at values i)
runs_at n at [] vs rs k s h = absurd (omega (arith, (runs_done n at vs rs s).0))
runs_at n at (e ∷ es) [] rs k s h = absurd (none-some rs s)
runs_at n at (e ∷ es) (v ∷ vs) rs k s h =
    let p = runs_parts n at e es v vs rs s in
    let w : ℕ = e.value - at in
    let whole : row_at rs k ≡ row_at (replicate w v ++ p.2.0) k = ap (λ (l : List Row). row_at l k) p.2.2 in
    let long : length (replicate w v) ≡ w = length-replicate w v in
    ⊎_elim
    (λ (low : k < w). (
      0,
      record { inside = omega arith; above = omega arith; before = λ j l. absurd (omega arith) },
      omega arith,
      whole ∙ get_or_append_left (replicate w v) p.2.0 (record { value = 0 }) k (omega arith) ∙ get_or-replicate w k v (record { value = 0 }) low,
    ))
    (λ (high : w ≤ k).
    let same : e.value + (k - w) ≡ at + k = omega (arith, p.0) in
    let r = runs_at n e.value es vs p.2.0 (k - w) p.2.1 (omega (arith, p.0)) in
    let first = r.1 in (
      suc r.0,
      record {
        inside = omega (arith, first.inside);
        above = omega (arith, first.above);
        before = before_suc e es (at + k) r.0 (omega (arith, p.0)) (λ j l. omega (arith, first.before j l));
      },
      omega (arith, r.2),
      whole ∙ get_or-append_right (replicate w v) p.2.0 w k (record { value = 0 }) long high ∙ r.3,
    ))
    (cases_lt k w)

-- ---- run by run
module _ (n at : ℕ) (ends values : List Row) (k : ℕ) (inside : k < length ends) (both : length ends ≡ length values) where
  parted : runs_from n at (drop k ends) (drop k values) ≡ runs_from n at (row_at ends k ∷ drop (k + 1) ends) (row_at values k ∷ drop (k + 1) values)
  parted = λ i. runs_from n at (drop_more ends k (record { value = 0 }) inside i) (drop_more values k (record { value = 0 }) (omega arith) i)

  -- a run, and then those after it
  runs_next : at < (row_at ends k).value → (row_at ends k).value ≤ n
      → runs_from n at (drop k ends) (drop k values) ≡ followed (replicate ((row_at ends k).value - at) (row_at values k)) (runs_from n (row_at ends k).value (drop (k + 1) ends) (drop (k + 1) values))
  runs_next above within = parted ∙ go (runs_from n e (drop (k + 1) ends) (drop (k + 1) values))
    where
      e : ℕ
      e = (row_at ends k).value

      go : (o : Option (List Row)) → after (ltb at e && leb e n) (e - at) (row_at values k) o ≡ followed (replicate (e - at) (row_at values k)) o
      go None = rw (lt-ltb at e above, le-leb e n within) refl
      go (Some l) = rw (lt-ltb at e above, le-leb e n within) refl

  -- a run that ends where it may not
  runs_none : ((row_at ends k).value ≤ at) ⊎ (n < (row_at ends k).value) → runs_from n at (drop k ends) (drop k values) ≡ None
  runs_none out =
      parted
      ∙ ⊎_elim
      (λ low. rw (le-ltb at (row_at ends k).value low, runs_from) refl)
      (λ high. rw (and_right (ltb at (row_at ends k).value) (leb (row_at ends k).value n) (lt-leb (row_at ends k).value n high), runs_from) refl)
      out

runs_end : (n at : ℕ) (ends values : List Row) (k : ℕ) → length ends ≤ k → at ≡ n → runs_from n at (drop k ends) (drop k values) ≡ Some []
runs_end n at ends values k h e = ap (λ (l : List Row). runs_from n at l (drop k values)) (drop_all k ends h) ∙ rw (eq-eqb at n e, runs_from) refl

runs_short : (n at : ℕ) (ends values : List Row) (k : ℕ) → length ends ≤ k → (at ≢ n) → runs_from n at (drop k ends) (drop k values) ≡ None
runs_short n at ends values k h e = ap (λ (l : List Row). runs_from n at l (drop k values)) (drop_all k ends h) ∙ rw (ne_eqb at n e, runs_from) refl

-- ---- arrays
run_end_two : (ks : Kinds) → OfTwo (run_end_encodings ks)
run_end_two ks = record {
  none = λ f. refl;
  one = λ f a. refl;
  more = λ f a b c cs. refl;
  kinds = λ f h i. refl;
  kinds_none = λ f. refl;
  kinds_one = λ f h. refl;
  kinds_more = λ f h i s ss. refl;
}

pub run_end_rows_are : RunEndRows run_end_encodings
run_end_rows_are ks es m hs k look =
    let own : Encodings = run_end_encodings ks in
    let f : Fields = fields_of (node_at m k) in
    let cs : Option (List (List Row)) = children_rows ks es m k in
    let is : rows_of ks es m k ≡ given own f cs = looked_rows ks own es m hs k 3 look refl refl in
    let stands = looked_stands ks own es m hs k 3 look refl in
    record {
      exist = λ p.
          let s = two_shapes own (run_end_two ks) f stands.shapes stands.slots_fit in
          let long = two_sized own (run_end_two ks) f stands.shapes p.0 p.1 s (looked_sized ks own es m hs k 3 look refl (p.0 ∷ p.1 ∷ []) p.2) in
          ap is_some (is ∙ ap (given own f) p.2)
          ∙ runs_exist f.len 0 p.0 p.1 (long.0 ∙ eqb-true s.first.len s.second.len s.lengths ∙ sym long.1) (ends_rise f.len p.0 p.3);
      only = λ e.
          let some = some_there (rows_of ks es m k) e in
          let p = two_given own (run_end_two ks) f cs some.0 (sym is ∙ some.1) in
          (p.0, p.1, p.2, rises_ends f.len p.0 (runs_rise f.len 0 p.0 p.1 some.0 p.3));
      long = looked_long ks own es m hs k 3 look refl;
      each = λ rs j e h.
          let p = two_given own (run_end_two ks) f cs rs (sym is ∙ e) in
          let r = runs_at f.len 0 p.0 p.1 rs j p.3 (omega arith) in
          let from_0 : 0 + j ≡ j = omega arith in
          (p.0, p.1, r.0, p.2, subst (λ (x : ℕ). FirstAbove p.0 x r.0) from_0 r.1, r.2, r.3);
    }

pub run_end_lawful : (ks : Kinds) → LawfulEncodings ks (run_end_encodings ks)
run_end_lawful ks =
    one_piece_lawful ks (run_end_encodings ks)
    (record {
      builder_none = refl;
      flat_none = refl;
      ranged = λ f has fit. (and_parts (in_range ks f) (f.parameter == 0) fit).0;
      long = λ f ss cs r fit sized e. let p = two_parts (run_end_encodings ks) (run_end_two ks) f cs r e in omega (arith, runs_long f.len 0 p.0 p.1 r p.3);
      rest = λ f os. refl;
      rest_length = λ f os. refl;
    })

pub run_end_taken : (ks : Kinds) → TakenRows ks (run_end_encodings ks)
run_end_taken ks =
    two_taken (run_end_encodings ks) (run_end_two ks) ks
    (λ f ends values rs j e h. let r = runs_at f.len 0 ends values rs j e (omega (arith, runs_long f.len 0 ends values rs e)) in (r.0, r.2, r.3))

pub run_end_keeps : (ks : Kinds) → LawfulKinds ks → LawfulSteps ks (run_end_encodings ks) (flattening_steps ks (run_end_encodings ks))
run_end_keeps ks kinds = flattening_keeps ks kinds (run_end_encodings ks) refl (λ f os has. refl) (run_end_taken ks)

-- ---- the appending of all rows
-- the rows that come from row `at` on, with run k
abbrev pub coming : Kinds → Memory → ℕ → ℕ → ℕ → Option (List Row)
coming ks m i at k = runs_from (node_at m i).len at (drop k (rows_in ks m i 0)) (drop k (rows_in ks m i 1))

-- the rows of k runs are appended, and these end before row `at`
abbrev pub RunPart : Kinds → Memory → ℕ → Builder → Memory → Builder → ℕ → ℕ → Type 0
RunPart ks m i a q b at k = Partly ks m a (coming ks m i 0 0) q b at (coming ks m i at k)

module _ (ks : Kinds) (kinds : LawfulKinds ks) (m : Memory) (i : ℕ) (a : Builder) (none : a.filled ≡ 0) (fill : Filling ks (run_end_encodings ks) m i a.node) where
  abbrev own : Encodings
  own = run_end_encodings ks

  abbrev two : OfTwo (run_end_encodings ks)
  two = run_end_two ks

  abbrev ends : List Row
  ends = rows_in ks m i 0

  abbrev values : List Row
  values = rows_in ks m i 1

  pub run_end_children : Children ks (run_end_encodings ks) m i a.node
  run_end_children = two_children own two ks kinds m i a none fill

  -- ends and values are read, and k runs were
  module _ (q : Memory) (b : Builder) (at k : ℕ) (part : RunPart ks m i a q b at k) (nd vd : Node) (ends_are : nd ≡ node_at m (child_in m i 0)) (values_are : vd ≡ node_at m (child_in m i 1)) where
    pub ends_within : nd.start + nd.run ≤ length q.words
    ends_within = first_within own two ks kinds m i a none fill part.rows q b part.so_far nd ends_are

    pub values_within : vd.start + vd.run ≤ length q.words
    values_within = second_within own two ks kinds m i a none fill part.rows q b part.so_far vd values_are

    ends_long : length ends ≡ nd.len
    ends_long = first_long own two ks kinds m i a none fill part.rows q b part.so_far nd ends_are

    values_long : length values ≡ vd.len
    values_long = second_long own two ks kinds m i a none fill part.rows q b part.so_far vd values_are

    both_long : nd.len ≡ vd.len
    both_long = ap (λ (x : Node). x.len) ends_are ∙ eqb-true (node_at m (child_in m i 0)).len (node_at m (child_in m i 1)).len run_end_children.lengths ∙ sym (ap (λ (x : Node). x.len) values_are)

    same_filled : (r : Result Unit StepFault) → Filled ks m q a.node (coming ks m i 0 0) r → Filled ks m q a.node (flat_given ks (run_end_encodings ks) m i) r
    same_filled r = subst (λ (o : Option (List Row)). Filled ks m q a.node o r) (sym run_end_children.rows)

    refused : coming ks m i at k ≡ None → Filled ks m q a.node (flat_given ks (run_end_encodings ks) m i) (Err NoRows)
    refused e = same_filled (Err NoRows) (none_come ks m a (coming ks m i 0 0) q b at (coming ks m i at k) part none e)

    -- all runs were read
    pub run_end_done : nd.len ≤ k → at ≡ (node_at m i).len → Filled ks m q a.node (flat_given ks (run_end_encodings ks) m i) (Ok tt)
    run_end_done h e =
        same_filled (Ok tt)
        (all_came ks m a (coming ks m i 0 0) q b at (coming ks m i at k) part none (runs_end (node_at m i).len at ends values k (omega (arith, ends_long)) e))

    pub run_end_short : nd.len ≤ k → (at ≢ (node_at m i).len) → Filled ks m q a.node (flat_given ks (run_end_encodings ks) m i) (Err NoRows)
    run_end_short h e = refused (runs_short (node_at m i).len at ends values k (omega (arith, ends_long)) e)

    -- end k is read
    module _ (inside : k < nd.len) (end : ℕ) (read : end ≡ (number.row nd.len (words.part q.words nd.start nd.run) k).value) where
      end_is : end ≡ (row_at ends k).value
      end_is = read ∙ first_number own two ks kinds m i a none fill part.rows q b part.so_far nd ends_are k inside

      in_ends : k < length ends
      in_ends = omega (arith, inside, ends_long)

      as_many : length ends ≡ length values
      as_many = omega (arith, ends_long, values_long, both_long)

      pub end_refused : (end ≤ at) ⊎ ((node_at m i).len < end) → Filled ks m q a.node (flat_given ks (run_end_encodings ks) m i) (Err NoRows)
      end_refused out = refused (runs_none (node_at m i).len at ends values k in_ends as_many (subst (λ (e : ℕ). (e ≤ at) ⊎ ((node_at m i).len < e)) end_is out))

      -- and its value
      module _ (above : at < end) (low : end ≤ (node_at m i).len) (r : Row) (value : r ≡ (ks.kind vd.kind).row vd.len (words.part q.words vd.start vd.run) k) where
        pub run_open : (x : ℕ) → x < end - at → Open ks q b.node (b.filled + x) r
        run_open x short = second_open own two ks kinds m i a none fill part.rows q b part.so_far vd values_are k x r value (omega (arith, part.many))

        pub run_more : (z : Memory) (c : Builder) → z ≡ append_rows ks q b.node b.filled (replicate (end - at) r) → c.node ≡ b.node → c.filled ≡ b.filled + (end - at) → RunPart ks m i a z c end (k + 1)
        run_more z c after node filled =
            let is : r ≡ row_at values k = value ∙ second_row own two ks kinds m i a none fill part.rows q b part.so_far vd values_are k (omega (arith, both_long)) in
            let long : length (replicate (end - at) r) ≡ end - at = length-replicate (end - at) r in
            more_come ks m a (coming ks m i 0 0) q b at (coming ks m i at k) part (replicate (end - at) r) (coming ks m i end (k + 1)) z c end
            (runs_next (node_at m i).len at ends values k in_ends as_many (omega (arith, end_is)) (omega (arith, end_is))
            ∙ (λ t. followed (replicate (sym end_is t - at) (sym is t)) (coming ks m i (sym end_is t) (k + 1))))
            after node (omega (arith, long)) (omega (arith, long))
