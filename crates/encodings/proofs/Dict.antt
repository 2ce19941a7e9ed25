-- Dict: the rows are the values that its codes number.
use Rattle.std.proofs.Common.{◌≡◌, ℕ, zero, suc, ◌+◌, ◌<◌, ◌≤◌, true, false, Bool, ltb, ◌==◌, List, [], ◌∷◌, length, get_or, drop, Some, None, Ok, Err, Option, Result, sym, refl, ap, ◌∙◌, subst, arith, rules}
use Rattle.std.specs.Option.{is_some}
use Rattle.std.proofs.lemmas.Bool.{eqb-true, ltb-true, lt-ltb, le-ltb, and_parts}
use Rattle.std.proofs.lemmas.List.{get_or_default, drop_all, drop_more}
use Rattle.std.proofs.lemmas.Option.{none-some, same_Some}
use Rattle.rows.specs.declared.row.Row.{Row}
use Rattle.rows.specs.Kind.{Kinds}
use Rattle.rows.specs.Ours.{LawfulKinds, number}
use Rattle.pool.specs.declared.builder.Builder.{Builder}
use Rattle.pool.specs.declared.node.Node.{Node}
use Rattle.pool.specs.Memory.{Memory, node_at}
use Rattle.pool.specs.Memory as words
use Rattle.pool.specs.Building.{append_row, Open}
use Rattle.encodings.specs.declared.fields.Fields.{Fields}
use Rattle.encodings.specs.declared.step.StepFault.{StepFault}
use Rattle.encodings.specs.declared.step.StepFault.TheVariants.{NoRows}
use Rattle.encodings.specs.Meaning.{Encodings, LawfulEncodings, in_range, present, Sized}
use Rattle.encodings.specs.Rows.{fields_of, rows_of, given}
use Rattle.encodings.specs.Step.{LawfulSteps}
use Rattle.encodings.specs.Flattening.{flattening_steps, flat_given, Filling, Filled}
use Rattle.encodings.specs.Dict.{looked_up, dict_encodings}
use Rattle.encodings.specs.Pinned.{row_at, children_rows, DictRows}
use Rattle.encodings.proofs.Undivided.{one_piece_lawful}
use Rattle.encodings.proofs.FlatteningLaw.{TakenRows, flattening_keeps}
use Rattle.encodings.proofs.Looked.{some_there, looked_long, looked_rows}
use Rattle.encodings.proofs.Coming.{followed, Partly, more_come, all_came, none_come}
use Rattle.encodings.proofs.Twos.{OfTwo, child_in, rows_in, Children, two_parts, two_given, two_shapes, two_sized, two_taken, two_children, first_within, first_number, first_long, second_within, second_row, second_long, second_open}

-- each code numbers a value
abbrev InDict : List Row → ℕ → Type 0
InDict codes n = (j : ℕ) → j < length codes → (row_at codes j).value < n

-- the first code and value of those looked up, and what follows
looked_parts : (c : Row) (cs vs rs : List Row) → looked_up (c ∷ cs) vs ≡ Some rs
    → (c.value < length vs) × ((later : List Row) × (looked_up cs vs ≡ Some later) × (rs ≡ row_at vs c.value ∷ later))
looked_parts c cs vs rs = go (ltb c.value (length vs)) refl (looked_up cs vs) refl
  where
    go : (b : Bool) → ltb c.value (length vs) ≡ b → (o : Option (List Row)) → looked_up cs vs ≡ o
        → elim b as (λ _. Option (List Row)) [ true ↦ elim o [ None ↦ None | Some l ↦ Some (get_or vs c.value c ∷ l) ] | false ↦ None ] ≡ Some rs
        → (c.value < length vs) × ((later : List Row) × (looked_up cs vs ≡ Some later) × (rs ≡ row_at vs c.value ∷ later))
    go true t None q e = absurd (none-some rs e)
    go true t (Some l) q e =
        let low : c.value < length vs = ltb-true c.value (length vs) t in
        (low, (l, q, sym (same_Some (get_or vs c.value c ∷ l) rs e) ∙ ap (λ (r : Row). r ∷ l) (get_or_default vs c.value c (record { value = 0 }) low)))
    go false t o q e = absurd (none-some rs e)

-- codes that all number values are looked up
looked_exist : (cs vs : List Row) → InDict cs (length vs) → is_some (looked_up cs vs) ≡ true
looked_exist [] vs low = refl
looked_exist (c ∷ cs) vs low = go (looked_up cs vs) (looked_exist cs vs (λ j h. low (suc j) (omega arith)))
  where
    go : (o : Option (List Row)) → is_some o ≡ true
        → is_some (elim (ltb c.value (length vs)) as (λ _. Option (List Row)) [ true ↦ elim o [ None ↦ None | Some l ↦ Some (get_or vs c.value c ∷ l) ] | false ↦ None ]) ≡ true
    go None e = absurd (search rules)
    go (Some l) e = rw (lt-ltb c.value (length vs) (low 0 (omega arith))) refl

looked_codes_long : (cs vs rs : List Row) → looked_up cs vs ≡ Some rs → length rs ≡ length cs
looked_codes_long [] vs rs e = ap (λ (l : List Row). length l) (sym (same_Some [] rs e))
looked_codes_long (c ∷ cs) vs rs e =
    let p = looked_parts c cs vs rs e in
    ap (λ (l : List Row). length l) p.1.2 ∙ ap suc (looked_codes_long cs vs p.1.0 p.1.1)

-- row j is the value of code j
looked_at : (cs vs rs : List Row) (j : ℕ) → looked_up cs vs ≡ Some rs → j < length cs → ((row_at cs j).value < length vs) × (row_at rs j ≡ row_at vs (row_at cs j).value)
looked_at [] vs rs j e h = absurd (omega arith)
looked_at (c ∷ cs) vs rs zero e h = let p = looked_parts c cs vs rs e in (p.0, ap (λ (l : List Row). row_at l 0) p.1.2)
looked_at (c ∷ cs) vs rs (suc j) e h =
    let p = looked_parts c cs vs rs e in
    let r = looked_at cs vs p.1.0 j p.1.1 (omega arith) in
    (r.0, ap (λ (l : List Row). row_at l (suc j)) p.1.2 ∙ r.1)

-- ---- code by code
-- a code that numbers a value, and then those after it
looked_first : (c : Row) (cs vs : List Row) → c.value < length vs → looked_up (c ∷ cs) vs ≡ followed (row_at vs c.value ∷ []) (looked_up cs vs)
looked_first c cs vs low = go (looked_up cs vs)
  where
    go : (o : Option (List Row)) → elim (ltb c.value (length vs)) as (λ _. Option (List Row)) [ true ↦ elim o [ None ↦ None | Some l ↦ Some (get_or vs c.value c ∷ l) ] | false ↦ None ] ≡ followed (row_at vs c.value ∷ []) o
    go None = rw (lt-ltb c.value (length vs) low) refl
    go (Some l) = rw (lt-ltb c.value (length vs) low) (ap (λ (r : Row). Some (r ∷ l)) (get_or_default vs c.value c (record { value = 0 }) low))

looked_next : (cs vs : List Row) (k : ℕ) → k < length cs → (row_at cs k).value < length vs → looked_up (drop k cs) vs ≡ followed (row_at vs (row_at cs k).value ∷ []) (looked_up (drop (k + 1) cs) vs)
looked_next cs vs k h low = ap (λ (l : List Row). looked_up l vs) (drop_more cs k (record { value = 0 }) h) ∙ looked_first (row_at cs k) (drop (k + 1) cs) vs low

looked_none : (cs vs : List Row) (k : ℕ) → k < length cs → length vs ≤ (row_at cs k).value → looked_up (drop k cs) vs ≡ None
looked_none cs vs k h high = ap (λ (l : List Row). looked_up l vs) (drop_more cs k (record { value = 0 }) h) ∙ rw (le-ltb (row_at cs k).value (length vs) high, looked_up) refl

looked_end : (cs vs : List Row) (k : ℕ) → length cs ≤ k → looked_up (drop k cs) vs ≡ Some []
looked_end cs vs k h = ap (λ (l : List Row). looked_up l vs) (drop_all k cs h)

-- ---- arrays
dict_two : (ks : Kinds) → OfTwo (dict_encodings ks)
dict_two ks = record {
  none = λ f. refl;
  one = λ f a. refl;
  more = λ f a b c cs. refl;
  kinds = λ f h i. refl;
  kinds_none = λ f. refl;
  kinds_one = λ f h. refl;
  kinds_more = λ f h i s ss. refl;
}

pub dict_rows_are : DictRows dict_encodings
dict_rows_are ks es m hs k look =
    let own : Encodings = dict_encodings ks in
    let f : Fields = fields_of (node_at m k) in
    let cs : Option (List (List Row)) = children_rows ks es m k in
    let is : rows_of ks es m k ≡ given own f cs = looked_rows ks own es m hs k 4 look refl refl in
    record {
      exist = λ p. ap is_some (is ∙ ap (given own f) p.2) ∙ looked_exist p.0 p.1 p.3;
      only = λ e.
          let some = some_there (rows_of ks es m k) e in
          let p = two_given own (dict_two ks) f cs some.0 (sym is ∙ some.1) in
          (p.0, p.1, p.2, λ j h. (looked_at p.0 p.1 some.0 j p.3 h).0);
      long = looked_long ks own es m hs k 4 look refl;
      each = λ rs j e h.
          let p = two_given own (dict_two ks) f cs rs (sym is ∙ e) in
          let long : length rs ≡ (node_at m k).len = looked_long ks own es m hs k 4 look refl rs e in
          (p.0, p.1, p.2, (looked_at p.0 p.1 rs j p.3 (omega (arith, long, looked_codes_long p.0 p.1 rs p.3))).1);
    }

pub dict_lawful : (ks : Kinds) → LawfulEncodings ks (dict_encodings ks)
dict_lawful ks =
    one_piece_lawful ks (dict_encodings ks)
    (record {
      builder_none = refl;
      flat_none = refl;
      ranged = λ f has fit. (and_parts (in_range ks f) (f.parameter == 0) fit).0;
      long = λ f ss cs r fit sized e.
          let p = two_parts (dict_encodings ks) (dict_two ks) f cs r e in
          let s = two_shapes (dict_encodings ks) (dict_two ks) f ss fit.slots in
          let long = two_sized (dict_encodings ks) (dict_two ks) f ss p.0 p.1 s (subst (λ (l : List (List Row)). Sized (present l) ss) p.2 sized) in
          looked_codes_long p.0 p.1 r p.3 ∙ long.0 ∙ eqb-true s.first.len f.len s.lengths;
      rest = λ f os. refl;
      rest_length = λ f os. refl;
    })

pub dict_taken : (ks : Kinds) → TakenRows ks (dict_encodings ks)
dict_taken ks =
    two_taken (dict_encodings ks) (dict_two ks) ks
    (λ f codes values rs j e h. let p = looked_at codes values rs j e (omega (arith, looked_codes_long codes values rs e)) in ((row_at codes j).value, p.0, p.1))

pub dict_keeps : (ks : Kinds) → LawfulKinds ks → LawfulSteps ks (dict_encodings ks) (flattening_steps ks (dict_encodings ks))
dict_keeps ks kinds = flattening_keeps ks kinds (dict_encodings ks) refl (λ f os has. refl) (dict_taken ks)

-- ---- the appending of all rows
-- the rows that come from code k on
abbrev pub coming : Kinds → Memory → ℕ → ℕ → Option (List Row)
coming ks m i k = looked_up (drop k (rows_in ks m i 0)) (rows_in ks m i 1)

-- the rows of k codes are appended
abbrev pub DictPart : Kinds → Memory → ℕ → Builder → Memory → Builder → ℕ → Type 0
DictPart ks m i a q b k = Partly ks m a (coming ks m i 0) q b k (coming ks m i k)

module _ (ks : Kinds) (kinds : LawfulKinds ks) (m : Memory) (i : ℕ) (a : Builder) (none : a.filled ≡ 0) (fill : Filling ks (dict_encodings ks) m i a.node) where
  abbrev own : Encodings
  own = dict_encodings ks

  abbrev two : OfTwo (dict_encodings ks)
  two = dict_two ks

  abbrev codes : List Row
  codes = rows_in ks m i 0

  abbrev values : List Row
  values = rows_in ks m i 1

  pub dict_children : Children ks (dict_encodings ks) m i a.node
  dict_children = two_children own two ks kinds m i a none fill

  -- the codes and the values are read, and k codes were
  module _ (q : Memory) (b : Builder) (k : ℕ) (part : DictPart ks m i a q b k) (nd vd : Node) (codes_are : nd ≡ node_at m (child_in m i 0)) (values_are : vd ≡ node_at m (child_in m i 1)) where
    pub codes_within : nd.start + nd.run ≤ length q.words
    codes_within = first_within own two ks kinds m i a none fill part.rows q b part.so_far nd codes_are

    pub values_within : vd.start + vd.run ≤ length q.words
    values_within = second_within own two ks kinds m i a none fill part.rows q b part.so_far vd values_are

    codes_long : length codes ≡ nd.len
    codes_long = first_long own two ks kinds m i a none fill part.rows q b part.so_far nd codes_are

    values_long : length values ≡ vd.len
    values_long = second_long own two ks kinds m i a none fill part.rows q b part.so_far vd values_are

    codes_fit : nd.len ≡ (node_at m i).len
    codes_fit = ap (λ (x : Node). x.len) codes_are ∙ eqb-true (node_at m (child_in m i 0)).len (node_at m i).len dict_children.lengths

    same_filled : (r : Result Unit StepFault) → Filled ks m q a.node (coming ks m i 0) r → Filled ks m q a.node (flat_given ks (dict_encodings ks) m i) r
    same_filled r = subst (λ (o : Option (List Row)). Filled ks m q a.node o r) (sym dict_children.rows)

    pub dict_done : nd.len ≤ k → Filled ks m q a.node (flat_given ks (dict_encodings ks) m i) (Ok tt)
    dict_done h = same_filled (Ok tt) (all_came ks m a (coming ks m i 0) q b k (coming ks m i k) part none (looked_end codes values k (omega (arith, codes_long))))

    -- code k is read
    module _ (inside : k < nd.len) (code : ℕ) (read : code ≡ (number.row nd.len (words.part q.words nd.start nd.run) k).value) where
      code_is : code ≡ (row_at codes k).value
      code_is = read ∙ first_number own two ks kinds m i a none fill part.rows q b part.so_far nd codes_are k inside

      pub dict_refused : vd.len ≤ code → Filled ks m q a.node (flat_given ks (dict_encodings ks) m i) (Err NoRows)
      dict_refused high = same_filled (Err NoRows) (none_come ks m a (coming ks m i 0) q b k (coming ks m i k) part none (looked_none codes values k (omega (arith, codes_long)) (omega (arith, code_is, values_long))))

      -- and its value
      module _ (low : code < vd.len) (r : Row) (value : r ≡ (ks.kind vd.kind).row vd.len (words.part q.words vd.start vd.run) code) where
        pub dict_open : Open ks q b.node b.filled r
        dict_open =
            let short : length part.rows + 0 < (node_at m i).len = omega (arith, part.many, inside, codes_fit) in
            subst (λ (x : ℕ). Open ks q b.node x r) (omega arith) (second_open own two ks kinds m i a none fill part.rows q b part.so_far vd values_are code 0 r value short)

        pub dict_more : (z : Memory) (c : Builder) → z ≡ append_row ks q b.node b.filled r → c.node ≡ b.node → c.filled ≡ b.filled + 1 → DictPart ks m i a z c (k + 1)
        dict_more z c after node filled =
            let is : r ≡ row_at values (row_at codes k).value = value ∙ second_row own two ks kinds m i a none fill part.rows q b part.so_far vd values_are code low ∙ ap (row_at values) code_is in
            more_come ks m a (coming ks m i 0) q b k (coming ks m i k) part (r ∷ []) (coming ks m i (k + 1)) z c (k + 1)
            (looked_next codes values k (omega (arith, codes_long)) (omega (arith, code_is, values_long)) ∙ ap (λ (x : Row). followed (x ∷ []) (coming ks m i (k + 1))) (sym is))
            after node filled refl
