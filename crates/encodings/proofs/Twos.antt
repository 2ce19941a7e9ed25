-- Encodings of two children: numbers, and values of the array's kind, which each of its rows is one of.
use Rattle.std.proofs.Common.{◌≡◌, ℕ, suc, ◌+◌, ◌<◌, ◌≤◌, true, false, ◌&&◌, ◌==◌, List, [], ◌∷◌, map, length, get_or, Some, None, Option, sym, refl, ap, ◌∙◌, subst, arith}
use Rattle.std.specs.Option.{unwrap_or}
use Rattle.std.proofs.lemmas.Bool.{true≢false, eqb-true, and_parts}
use Rattle.std.proofs.lemmas.Option.{none-some}
use Rattle.rows.specs.declared.row.Row.{Row}
use Rattle.rows.specs.Kind.{Kind, Kinds, Taken}
use Rattle.rows.specs.Ours.{LawfulKinds, number}
use Rattle.rows.proofs.Appending.{rows_long, taken_at}
use Rattle.pool.specs.declared.builder.Builder.{Builder}
use Rattle.pool.specs.declared.node.Node.{Node}
use Rattle.pool.specs.Memory.{Memory, node_at, part, run_of}
use Rattle.pool.specs.Counts.{names}
use Rattle.pool.specs.Slots.{slot_at}
use Rattle.pool.specs.Building.{Open}
use Rattle.pool.proofs.Filling.{SoFar}
use Rattle.encodings.specs.declared.fields.Fields.{Fields}
use Rattle.encodings.specs.declared.fields.Shape.{Shape}
use Rattle.encodings.specs.Meaning.{Encodings, slots_fit, present, Sized}
use Rattle.encodings.specs.Rows.{fields_of, shape_of, slots_of, flat_rows, given}
use Rattle.encodings.specs.Flattening.{Filling, flat_given}
use Rattle.encodings.specs.Pinned.{row_at}
use Rattle.encodings.proofs.FlatteningLaw.{KindTaken, TakenRows}
use Rattle.encodings.proofs.Appended.{ChildAt, filling_given, filling_shaped, filling_child, more_open, child_within, child_read, child_number}

-- rows of which each is taken
taken_each : (kd : Kind) (rs : List Row) → ((j : ℕ) → j < length rs → kd.takes (row_at rs j) ≡ true) → Taken kd rs
taken_each kd [] each = tt
taken_each kd (r ∷ rs) each = (each 0 (omega arith), taken_each kd rs (λ j h. each (suc j) (omega arith)))

-- An encoding that has rows of two children only.
pub record OfTwo (own : Encodings) : Type 0 where
  pub none : (f : Fields) → own.rows f [] ≡ None
  pub one : (f : Fields) (a : List Row) → own.rows f (a ∷ []) ≡ None
  pub more : (f : Fields) (a b c : List Row) (cs : List (List Row)) → own.rows f (a ∷ b ∷ c ∷ cs) ≡ None
  pub kinds : (f : Fields) (h i : Shape) → own.kinds_fit f (h ∷ i ∷ []) ≡ (h.kind == 1 && i.kind == f.kind)
  pub kinds_none : (f : Fields) → own.kinds_fit f [] ≡ false
  pub kinds_one : (f : Fields) (h : Shape) → own.kinds_fit f (h ∷ []) ≡ false
  pub kinds_more : (f : Fields) (h i s : Shape) (ss : List Shape) → own.kinds_fit f (h ∷ i ∷ s ∷ ss) ≡ false

-- two shapes that fit
pub record Shapes (own : Encodings) (f : Fields) (ss : List Shape) : Type 0 where
  pub first : Shape
  pub second : Shape
  pub are : ss ≡ first ∷ second ∷ []
  pub first_kind : first.kind ≡ 1
  pub second_kind : second.kind ≡ f.kind
  pub lengths : own.lengths_fit f (first ∷ second ∷ []) ≡ true

-- the child in slot x of i, and its rows, where it is Flat
abbrev pub child_in : Memory → ℕ → ℕ → ℕ
child_in m i x = unwrap_or (slot_at m i x) 0

abbrev pub rows_in : Kinds → Memory → ℕ → ℕ → List Row
rows_in ks m i x = flat_rows ks m (child_in m i x)

-- the two children of an array that is appended to builder j
pub record Children (ks : Kinds) (own : Encodings) (m : Memory) (i j : ℕ) : Type 0 where
  pub at_first : ChildAt m i j 0 (child_in m i 0)
  pub at_second : ChildAt m i j 1 (child_in m i 1)
  pub first_kind : (node_at m (child_in m i 0)).kind ≡ 1
  pub second_kind : (node_at m (child_in m i 1)).kind ≡ (node_at m i).kind
  pub lengths : own.lengths_fit (fields_of (node_at m i)) (shape_of (node_at m (child_in m i 0)) ∷ shape_of (node_at m (child_in m i 1)) ∷ []) ≡ true
  pub rows : flat_given ks own m i ≡ own.rows (fields_of (node_at m i)) (rows_in ks m i 0 ∷ rows_in ks m i 1 ∷ [])

module _ (own : Encodings) (two : OfTwo own) where
  -- where there are rows there are two children
  pub two_parts : (f : Fields) (cs : List (List Row)) (rs : List Row) → own.rows f cs ≡ Some rs → (a b : List Row) × (cs ≡ a ∷ b ∷ []) × (own.rows f (a ∷ b ∷ []) ≡ Some rs)
  two_parts f [] rs e = absurd (none-some rs (sym (two.none f) ∙ e))
  two_parts f (a ∷ []) rs e = absurd (none-some rs (sym (two.one f a) ∙ e))
  two_parts f (a ∷ b ∷ []) rs e = (a, b, refl, e)
  two_parts f (a ∷ b ∷ c ∷ cs) rs e = absurd (none-some rs (sym (two.more f a b c cs) ∙ e))

  pub two_given : (f : Fields) (o : Option (List (List Row))) (rs : List Row) → given own f o ≡ Some rs → (a b : List Row) × (o ≡ Some (a ∷ b ∷ [])) × (own.rows f (a ∷ b ∷ []) ≡ Some rs)
  two_given f None rs e = absurd (none-some rs e)
  two_given f (Some cs) rs e = let p = two_parts f cs rs e in (p.0, p.1, ap (λ (l : List (List Row)). Some l) p.2, p.3)

  -- where shapes fit there are two
  pub two_shapes : (f : Fields) (ss : List Shape) → slots_fit own f ss ≡ true → Shapes own f ss
  two_shapes f ss fit = go ss (and_parts (own.kinds_fit f ss) (own.lengths_fit f ss) (and_parts (own.count_fits f) (own.kinds_fit f ss && own.lengths_fit f ss) fit).1)
    where
      go : (ss : List Shape) → (own.kinds_fit f ss ≡ true) × (own.lengths_fit f ss ≡ true) → Shapes own f ss
      go [] p = absurd (true≢false (sym p.0 ∙ two.kinds_none f))
      go (h ∷ []) p = absurd (true≢false (sym p.0 ∙ two.kinds_one f h))
      go (h ∷ i ∷ []) p =
          let k = and_parts (h.kind == 1) (i.kind == f.kind) (sym (two.kinds f h i) ∙ p.0) in
          record {
            first = h;
            second = i;
            are = refl;
            first_kind = eqb-true h.kind 1 k.0;
            second_kind = eqb-true i.kind f.kind k.1;
            lengths = p.1;
          }
      go (h ∷ i ∷ s ∷ ss) p = absurd (true≢false (sym p.0 ∙ two.kinds_more f h i s ss))

  -- and two children have the lengths of theirs
  pub two_sized : (f : Fields) (ss : List Shape) (a b : List Row) (s : Shapes own f ss) → Sized (present (a ∷ b ∷ [])) ss → (length a ≡ s.first.len) × (length b ≡ s.second.len)
  two_sized f ss a b s sized = let p = subst (λ (l : List Shape). Sized (present (a ∷ b ∷ [])) l) s.are sized in (p.0, p.1.0)

  -- each row is one of the values, and so the kind takes it
  pub two_taken : (ks : Kinds) → ((f : Fields) (a b rs : List Row) (j : ℕ) → own.rows f (a ∷ b ∷ []) ≡ Some rs → j < length rs → (i : ℕ) × (i < length b) × (row_at rs j ≡ row_at b i)) → TakenRows ks own
  two_taken ks among f ss cs rs has fit slots sized taken e =
      let p = two_parts f cs rs e in
      let s = two_shapes f ss slots in
      let both : KindTaken ks f.kind (p.0 ∷ p.1 ∷ []) (s.first ∷ s.second ∷ []) = subst (λ (l : List Shape). KindTaken ks f.kind (p.0 ∷ p.1 ∷ []) l) s.are (subst (λ (l : List (List Row)). KindTaken ks f.kind l ss) p.2 taken) in
      taken_each (ks.kind f.kind) rs
      (λ j h. let at = among f p.0 p.1 rs j p.3 h in
      ap (ks.kind f.kind).takes at.2 ∙ taken_at (ks.kind f.kind) p.1 at.0 (record { value = 0 }) at.1 (both.1.0 s.second_kind))

  -- ---- children that are Flat
  module _ (ks : Kinds) (kinds : LawfulKinds ks) (m : Memory) (i : ℕ) (a : Builder) (none : a.filled ≡ 0) (fill : Filling ks own m i a.node) where
    abbrev f : Fields
    f = fields_of (node_at m i)

    abbrev ns : List ℕ
    ns = names (slots_of (node_at m i))

    -- the two that the slots name
    two_named : (cs : List ℕ) → ns ≡ cs → Shapes own f (map (λ c. shape_of (node_at m c)) cs) → Children ks own m i a.node
    two_named [] e s = absurd (omega (arith, ap length s.are))
    two_named (x ∷ []) e s = absurd (omega (arith, ap length s.are))
    two_named (x ∷ y ∷ []) e s =
        let long : length ns ≡ 2 = ap length e in
        let px : ChildAt m i a.node 0 x = subst (λ (l : List ℕ). ChildAt m i a.node 0 (get_or l 0 0)) e (filling_child ks kinds own m i a none fill 0 (omega arith)) in
        let py : ChildAt m i a.node 1 y = subst (λ (l : List ℕ). ChildAt m i a.node 1 (get_or l 1 0)) e (filling_child ks kinds own m i a none fill 1 (omega arith)) in
        let at_x : x ≡ child_in m i 0 = ap (λ (o : Option ℕ). unwrap_or o 0) (sym px.slot) in
        let at_y : y ≡ child_in m i 1 = ap (λ (o : Option ℕ). unwrap_or o 0) (sym py.slot) in
        let same : shape_of (node_at m x) ∷ shape_of (node_at m y) ∷ [] ≡ s.first ∷ s.second ∷ [] = s.are in
        record {
          at_first = subst (λ (c : ℕ). ChildAt m i a.node 0 c) at_x px;
          at_second = subst (λ (c : ℕ). ChildAt m i a.node 1 c) at_y py;
          first_kind = ap (λ (c : ℕ). (node_at m c).kind) (sym at_x) ∙ ap (λ (l : List Shape). (get_or l 0 s.first).kind) same ∙ s.first_kind;
          second_kind = ap (λ (c : ℕ). (node_at m c).kind) (sym at_y) ∙ ap (λ (l : List Shape). (get_or l 1 s.first).kind) same ∙ s.second_kind;
          lengths = (λ t. own.lengths_fit f (shape_of (node_at m (sym at_x t)) ∷ shape_of (node_at m (sym at_y t)) ∷ [])) ∙ ap (λ (l : List Shape). own.lengths_fit f l) same ∙ s.lengths;
          rows = filling_given ks kinds own m i a none fill
              ∙ ap (λ (l : List ℕ). own.rows f (map (flat_rows ks m) l)) e
              ∙ (λ t. own.rows f (flat_rows ks m (at_x t) ∷ flat_rows ks m (at_y t) ∷ []));
        }
    two_named (x ∷ y ∷ z ∷ cs) e s = absurd (omega (arith, ap length s.are))

    pub two_children : Children ks own m i a.node
    two_children =
        two_named ns refl (two_shapes f (map (λ c. shape_of (node_at m c)) ns)
        (subst (λ (l : List Shape). slots_fit own f l ≡ true) (sym (filling_shaped ks kinds own m i a none fill)) fill.stands.slots_fit))

    -- The nodes of both are read while the rows rs are appended.
    module _ (rs : List Row) (q : Memory) (b : Builder) (so : SoFar ks m a rs q b) (nd : Node) where
      module _ (is : nd ≡ node_at m (child_in m i 0)) where
        pub first_within : nd.start + nd.run ≤ length q.words
        first_within = child_within ks kinds own m i a none fill rs q b so nd (child_in m i 0) is

        pub first_number : (k : ℕ) → k < nd.len → (number.row nd.len (part q.words nd.start nd.run) k).value ≡ (row_at (rows_in ks m i 0) k).value
        first_number k h =
            ap (λ (r : Row). r.value)
            (child_number ks kinds own m i a none fill rs q b so nd (child_in m i 0) is two_children.at_first.beside k (record { value = 0 }) h (ap (λ (x : Node). x.kind) is ∙ two_children.first_kind))

        pub first_long : length (rows_in ks m i 0) ≡ nd.len
        first_long = rows_long (ks.kind (node_at m (child_in m i 0)).kind) (node_at m (child_in m i 0)).len (run_of m (child_in m i 0)) ∙ sym (ap (λ (x : Node). x.len) is)

      module _ (is : nd ≡ node_at m (child_in m i 1)) where
        pub second_within : nd.start + nd.run ≤ length q.words
        second_within = child_within ks kinds own m i a none fill rs q b so nd (child_in m i 1) is

        pub second_row : (k : ℕ) → k < nd.len → (ks.kind nd.kind).row nd.len (part q.words nd.start nd.run) k ≡ row_at (rows_in ks m i 1) k
        second_row k h = child_read ks kinds own m i a none fill rs q b so nd (child_in m i 1) is two_children.at_second.beside k (record { value = 0 }) h

        pub second_long : length (rows_in ks m i 1) ≡ nd.len
        second_long = rows_long (ks.kind (node_at m (child_in m i 1)).kind) (node_at m (child_in m i 1)).len (run_of m (child_in m i 1)) ∙ sym (ap (λ (x : Node). x.len) is)

        -- the builder is open for such a row, x rows on
        pub second_open : (k x : ℕ) (r : Row) → r ≡ (ks.kind nd.kind).row nd.len (part q.words nd.start nd.run) k → length rs + x < (node_at m i).len → Open ks q b.node (b.filled + x) r
        second_open k x r e short =
            let taken : (ks.kind (node_at m i).kind).takes r ≡ true
            = ap (λ (y : ℕ). (ks.kind y).takes r) (sym (ap (λ (n : Node). n.kind) is ∙ two_children.second_kind)) ∙ ap (ks.kind nd.kind).takes e ∙ (kinds.lawful nd.kind).row_taken nd.len (part q.words nd.start nd.run) k in
            more_open ks kinds own m i a none fill rs q b so x r short taken
