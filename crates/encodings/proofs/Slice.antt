-- Slice keeps the law, and each of its rows is its child's, the offset further on.
use Rattle.std.proofs.Common.{◌≡◌, ℕ, zero, suc, ◌+◌, ◌<◌, ◌≤◌, ◌&&◌, true, false, List, [], ◌∷◌, map, length, get_or, take, drop, is_some, Some, None, Option, nat_le, ◌==◌, sym, refl, ap, ◌∙◌, subst, arith}
use Rattle.std.proofs.lemmas.Bool.{and_parts, eqb-true, leb-true, true≢false}
use Rattle.std.proofs.lemmas.Option.{none-some, same_Some}
use Rattle.std.proofs.lemmas.List.{length-map, length-take, length-take-le, length-drop, get_or-take, get_or-drop}
use Rattle.rows.specs.declared.row.Row.{Row}
use Rattle.rows.specs.Kind.{Kind, Kinds, Taken}
use Rattle.rows.specs.Ours.{LawfulKinds}
use Rattle.rows.proofs.Appending.{rows_long}
use Rattle.pool.specs.declared.builder.Builder.{Builder}
use Rattle.pool.specs.declared.node.Node.{Node}
use Rattle.pool.specs.Memory.{Memory, node_at, part, run_of}
use Rattle.pool.specs.Counts.{names}
use Rattle.pool.specs.Building.{append_row, Open}
use Rattle.pool.proofs.Filling.{SoFar}
use Rattle.encodings.specs.declared.fields.Fields.{Fields}
use Rattle.encodings.specs.declared.fields.Shape.{Shape}
use Rattle.encodings.specs.Meaning.{Encodings, LawfulEncodings, slots_fit, present, Sized}
use Rattle.encodings.specs.Rows.{fields_of, shape_of, slots_of, flat_rows, rows_of, given}
use Rattle.encodings.specs.Step.{LawfulSteps}
use Rattle.encodings.specs.Flattening.{flat_given, flattening_steps, Filling}
use Rattle.encodings.specs.Slice.{slice_rows, slice_encodings}
use Rattle.encodings.specs.Pinned.{row_at, children_rows, SliceRows}
use Rattle.encodings.proofs.Undivided.{one_piece_lawful}
use Rattle.encodings.proofs.FlatteningLaw.{KindTaken, TakenRows, flattening_keeps}
use Rattle.encodings.proofs.Appended.{Shaped, ChildAt, filling_given, filling_shaped, filling_child, more_open, child_read, next_row}
use Rattle.encodings.proofs.Looked.{some_there, looked_long, looked_rows}

-- the one child, with the rows of it
record OneChild (f : Fields) (cs : List (List Row)) (rs : List Row) : Type 0 where
  pub child : List Row
  pub only : cs ≡ child ∷ []
  pub rows : take f.len (drop f.parameter child) ≡ rs

one_child : (f : Fields) (cs : List (List Row)) (rs : List Row) → slice_rows f cs ≡ Some rs → OneChild f cs rs
one_child f [] rs e = absurd (none-some rs e)
one_child f (c ∷ []) rs e = record { child = c; only = refl; rows = same_Some (take f.len (drop f.parameter c)) rs e }
one_child f (c ∷ d ∷ cs) rs e = absurd (none-some rs e)

-- the shape of the one child: of the array's kind, and long enough
record OneShape (f : Fields) (shapes : List Shape) : Type 0 where
  pub shape : Shape
  pub only : shapes ≡ shape ∷ []
  pub kind : shape.kind ≡ f.kind
  pub long : f.parameter + f.len ≤ shape.len

one_shape : (ks : Kinds) (f : Fields) (shapes : List Shape) → slots_fit (slice_encodings ks) f shapes ≡ true → OneShape f shapes
one_shape ks f [] e = absurd (true≢false (sym (and_parts (f.arity == 1) false e).1))
one_shape ks f (h ∷ []) e =
    let fit = and_parts (h.kind == f.kind) (nat_le (f.parameter + f.len) h.len) (and_parts (f.arity == 1) (h.kind == f.kind && nat_le (f.parameter + f.len) h.len) e).1 in
    record { shape = h; only = refl; kind = eqb-true h.kind f.kind fit.0; long = leb-true (f.parameter + f.len) h.len fit.1 }
one_shape ks f (h ∷ s ∷ ss) e = absurd (true≢false (sym (and_parts (f.arity == 1) false e).1))

-- what holds of children and shapes holds of the one
at_one : (f : Fields) (cs : List (List Row)) (rs : List Row) (shapes : List Shape) (o : OneChild f cs rs) (s : OneShape f shapes) (P : List (List Row) → List Shape → Type 0) → P cs shapes → P (o.child ∷ []) (s.shape ∷ [])
at_one f cs rs shapes o s P p = subst (λ (l : List Shape). P (o.child ∷ []) l) s.only (subst (λ (l : List (List Row)). P l shapes) o.only p)

-- rows that are taken are so where some are left out
taken_take : (kd : Kind) (n : ℕ) (rs : List Row) → Taken kd rs → Taken kd (take n rs)
taken_take kd zero rs t = tt
taken_take kd (suc n) [] t = t
taken_take kd (suc n) (r ∷ rs) t = (t.0, taken_take kd n rs t.1)

taken_drop : (kd : Kind) (n : ℕ) (rs : List Row) → Taken kd rs → Taken kd (drop n rs)
taken_drop kd zero rs t = t
taken_drop kd (suc n) [] t = t
taken_drop kd (suc n) (r ∷ rs) t = taken_drop kd n rs t.1

slice_long : (ks : Kinds) (f : Fields) (shapes : List Shape) (cs : List (List Row)) (rs : List Row) → slots_fit (slice_encodings ks) f shapes ≡ true → Sized (present cs) shapes → slice_rows f cs ≡ Some rs → length rs ≡ f.len
slice_long ks f shapes cs rs fit sized e =
    let o = one_child f cs rs e in
    let s = one_shape ks f shapes fit in
    let size : length o.child ≡ s.shape.len = (at_one f cs rs shapes o s (λ l ss. Sized (present l) ss) sized).0 in
    ap length (sym o.rows) ∙ length-take-le f.len (drop f.parameter o.child) (omega (arith, length-drop f.parameter o.child, size, s.long))

pub slice_lawful : (ks : Kinds) → LawfulEncodings ks (slice_encodings ks)
slice_lawful ks =
    one_piece_lawful ks (slice_encodings ks)
    (record {
      builder_none = refl;
      flat_none = refl;
      ranged = λ f has fit. fit;
      long = λ f ss cs r fit. slice_long ks f ss cs r fit.slots;
      rest = λ f os. refl;
      rest_length = λ f os. refl;
    })

pub slice_taken : (ks : Kinds) → TakenRows ks (slice_encodings ks)
slice_taken ks f shapes cs rs has fit slots sized taken e =
    let o = one_child f cs rs e in
    let s = one_shape ks f shapes slots in
    let child : Taken (ks.kind f.kind) o.child = (at_one f cs rs shapes o s (KindTaken ks f.kind) taken).0 s.kind in
    subst (λ (l : List Row). Taken (ks.kind f.kind) l) o.rows (taken_take (ks.kind f.kind) f.len (drop f.parameter o.child) (taken_drop (ks.kind f.kind) f.parameter o.child child))

pub slice_keeps : (ks : Kinds) → LawfulKinds ks → LawfulSteps ks (slice_encodings ks) (flattening_steps ks (slice_encodings ks))
slice_keeps ks kinds = flattening_keeps ks kinds (slice_encodings ks) refl (λ f os has. refl) (slice_taken ks)

-- ---- its rows
-- the rows of some children are those of the one there
one_of : (ks : Kinds) (f : Fields) (o : Option (List (List Row))) (rs : List Row) → given (slice_encodings ks) f o ≡ Some rs → (cs : List (List Row)) × (o ≡ Some cs) × OneChild f cs rs
one_of ks f None rs e = absurd (none-some rs e)
one_of ks f (Some cs) rs e = (cs, refl, one_child f cs rs e)

pub slice_rows_are : SliceRows slice_encodings
slice_rows_are ks es m hs k l =
    let own : Encodings = slice_encodings ks in
    let f : Fields = fields_of (node_at m k) in
    let is : rows_of ks es m k ≡ given own f (children_rows ks es m k) = looked_rows ks own es m hs k 6 l refl refl in
    let whole = looked_long ks own es m hs k 6 l refl in
    let of = λ (rs : List Row) (e : rows_of ks es m k ≡ Some rs). one_of ks f (children_rows ks es m k) rs (sym is ∙ e) in
    record {
      exist = λ p. ap is_some (is ∙ ap (given own f) p.1);
      only = λ h. let r = some_there (rows_of ks es m k) h in let o = of r.0 r.1 in (o.2.child, o.1 ∙ ap (λ (cs : List (List Row)). Some cs) o.2.only);
      long = whole;
      each = λ rs j e h.
          let o = of rs e in
          let child : List Row = o.2.child in
          let rest : List Row = drop f.parameter child in
          let all : length (take f.len rest) ≡ f.len = ap length o.2.rows ∙ whole rs e in (
            child,
            o.1 ∙ ap (λ (cs : List (List Row)). Some cs) o.2.only,
            omega (arith, all, length-take f.len rest, length-drop f.parameter child, h),
            ap (λ (xs : List Row). row_at xs j) (sym o.2.rows) ∙ get_or-take f.len rest j (record { value = 0 }) h ∙ get_or-drop f.parameter child j (record { value = 0 }),
          );
    }

-- ---- its rows, appended one by one
-- the rows of a slice whose child is Flat
abbrev pub sliced : Kinds → Memory → ℕ → List Row
sliced ks m i = take (node_at m i).len (drop (node_at m i).parameter (flat_rows ks m (get_or (names (slots_of (node_at m i))) 0 0)))

one_name : (cs : List ℕ) (m : Memory) (h : Shape) → Shaped m cs (h ∷ []) → (cs ≡ get_or cs 0 0 ∷ []) × (shape_of (node_at m (get_or cs 0 0)) ≡ h)
one_name [] m h e = let z : ◌≡◌ {A = ℕ} 0 1 = ap (λ (l : List Shape). length l) e in absurd (omega arith)
one_name (c ∷ []) m h e = (refl, ap (λ (l : List Shape). get_or l 0 h) e)
one_name (c ∷ d ∷ cs) m h e = let z : length cs + 2 ≡ 1 = omega (arith, ap (λ (l : List Shape). length l) e, length-map cs (λ x. shape_of (node_at m x))) in absurd (omega arith)

-- Builder a, which has no rows yet, is filled from i.
module _ {ks : Kinds} (kinds : LawfulKinds ks) {m : Memory} {i : ℕ} (a : Builder) (none : a.filled ≡ 0) (fill : Filling ks (slice_encodings ks) m i a.node) where
  child : ℕ
  child = get_or (names (slots_of (node_at m i))) 0 0

  shape : OneShape (fields_of (node_at m i)) fill.stands.shapes
  shape = one_shape ks (fields_of (node_at m i)) fill.stands.shapes fill.stands.slots_fit

  one : (names (slots_of (node_at m i)) ≡ child ∷ []) × (shape_of (node_at m child) ≡ shape.shape)
  unfolding child
  one = one_name (names (slots_of (node_at m i))) m shape.shape (filling_shaped ks kinds (slice_encodings ks) m i a none fill ∙ shape.only)

  pub slice_child : ChildAt m i a.node 0 (get_or (names (slots_of (node_at m i))) 0 0)
  slice_child = filling_child ks kinds (slice_encodings ks) m i a none fill 0 (omega (arith, ap (λ (l : List ℕ). length l) one.0))

  pub slice_given : flat_given ks (slice_encodings ks) m i ≡ Some (sliced ks m i)
  unfolding child
  slice_given =
      filling_given ks kinds (slice_encodings ks) m i a none fill
      ∙ ap (λ (cs : List ℕ). slice_rows (fields_of (node_at m i)) (map (flat_rows ks m) cs)) one.0

  child_long : (node_at m i).parameter + (node_at m i).len ≤ (node_at m child).len
  child_long = omega (arith, shape.long, ap (λ (h : Shape). h.len) one.1)

  child_kind : (node_at m child).kind ≡ (node_at m i).kind
  child_kind = ap (λ (h : Shape). h.kind) one.1 ∙ shape.kind

  pub sliced_long : length (sliced ks m i) ≡ (node_at m i).len
  unfolding child
  sliced_long =
      let rs : List Row = flat_rows ks m child in
      length-take-le (node_at m i).len (drop (node_at m i).parameter rs)
      (omega (arith, child_long, length-drop (node_at m i).parameter rs, rows_long (ks.kind (node_at m child).kind) (node_at m child).len (run_of m child)))

  -- k rows are appended so far, and row k is read from the child
  module _ {k : ℕ} (h : k < (node_at m i).len) {q : Memory} {b : Builder} (so : SoFar ks m a (take k (sliced ks m i)) q b)
      {nd : Node} (is : nd ≡ node_at m (get_or (names (slots_of (node_at m i))) 0 0)) {r : Row} (read : r ≡ (ks.kind nd.kind).row nd.len (part q.words nd.start nd.run) ((node_at m i).parameter + k)) where
    row_is : (d : Row) → r ≡ get_or (sliced ks m i) k d
    unfolding child
    row_is d =
        let rest : List Row = drop (node_at m i).parameter (flat_rows ks m child) in
        read
        ∙ child_read ks kinds (slice_encodings ks) m i a none fill (take k (sliced ks m i)) q b so nd child is slice_child.beside ((node_at m i).parameter + k) d (omega (arith, child_long, ap (λ (x : Node). x.len) is))
        ∙ sym (get_or-take (node_at m i).len rest k d h ∙ get_or-drop (node_at m i).parameter (flat_rows ks m child) k d)

    pub slice_open : Open ks q b.node b.filled r
    unfolding child
    slice_open =
        let kind : nd.kind ≡ (node_at m i).kind = ap (λ (x : Node). x.kind) is ∙ child_kind in
        subst (λ (x : ℕ). Open ks q b.node x r) (omega arith)
        (more_open ks kinds (slice_encodings ks) m i a none fill (take k (sliced ks m i)) q b so 0 r
        (omega (arith, h, length-take-le k (sliced ks m i) (omega (arith, sliced_long))))
        (ap (λ (x : Row). (ks.kind (node_at m i).kind).takes x) read
        ∙ ap (λ (x : ℕ). (ks.kind (node_at m i).kind).takes ((ks.kind x).row nd.len (part q.words nd.start nd.run) ((node_at m i).parameter + k))) kind
        ∙ (kinds.lawful (node_at m i).kind).row_taken nd.len (part q.words nd.start nd.run) ((node_at m i).parameter + k)))

    pub slice_next : (z : Memory) (c : Builder) → z ≡ append_row ks q b.node b.filled r → c.node ≡ b.node → c.filled ≡ b.filled + 1 → SoFar ks m a (take (k + 1) (sliced ks m i)) z c
    slice_next = next_row ks m a (sliced ks m i) k r q b so (omega (arith, sliced_long)) r (row_is r)
