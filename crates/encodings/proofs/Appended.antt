-- Rows appended to a builder one by one, read from the Flat children of an array.
use Rattle.std.proofs.Common.{◌≡◌, ℕ, zero, suc, ◌+◌, ◌<◌, ◌≤◌, ⊎_elim, true, List, [], ◌∷◌, ◌++◌, map, length, get_or, take, drop, Some, None, Option, sym, refl, ap, ◌∙◌, subst, arith}
use Rattle.std.specs.Option.{unwrap_or}
use Rattle.std.proofs.lemmas.Bool.{true≢false}
use Rattle.std.proofs.lemmas.List.{take_more, length-take-le, length-drop}
use Rattle.std.proofs.lemmas.List.FromFn.{get_or-map-range_with_len}
use Rattle.rows.specs.declared.row.Row.{Row}
use Rattle.rows.specs.Kind.{Kind, Kinds, LawfulKind, rows, appended}
use Rattle.rows.specs.Ours.{LawfulKinds, number}
use Rattle.rows.proofs.Appending.{appended_long}
use Rattle.pool.specs.declared.builder.Builder.{Builder}
use Rattle.pool.specs.declared.node.Node.{Node}
use Rattle.pool.specs.Memory.{Memory, node_at, slots_at, start_at, run_at, part, run_of}
use Rattle.pool.specs.Counts.{names, times}
use Rattle.pool.specs.Slots.{slot_at}
use Rattle.pool.specs.Building.{append_row, append_rows, Open}
use Rattle.pool.proofs.Counted.{times_here}
use Rattle.pool.proofs.Spared.{part_apart}
use Rattle.pool.proofs.Building.{append_rows_is}
use Rattle.pool.proofs.Filling.{SoFar, words_appended, row_more, open_so_far}
use Rattle.encodings.specs.declared.fields.Shape.{Shape}
use Rattle.encodings.specs.Meaning.{Encodings, no_gap}
use Rattle.encodings.specs.Rows.{fields_of, shape_of, slots_of, flat_rows, Fills, given}
use Rattle.encodings.specs.Flattening.{flat_given, Beside, Filling}
use Rattle.encodings.proofs.FlatteningLaw.{slot_among, gathered_flat}

-- row k of those that a run means
row_read : (kd : Kind) (n : ℕ) (run : List ℕ) (k : ℕ) (d : Row) → k < n → kd.row n run k ≡ get_or (rows kd n run) k d
row_read kd n run k d h = sym (get_or-map-range_with_len (kd.row n run) 0 n k k d h (omega arith))

-- a run beside the builder's is as it was before rows were appended
run_beside : (ks : Kinds) (m : Memory) (j k : ℕ) (rs : List Row) (c : ℕ) → j < length m.nodes → start_at m.nodes j + run_at m.nodes j ≤ length m.words → LawfulKind (ks.kind (node_at m j).kind) → Beside m c j
    → part (append_rows ks m j k rs).words (start_at m.nodes c) (run_at m.nodes c) ≡ run_of m c
run_beside ks m j k rs c inside fits law beside =
    let s : ℕ = start_at m.nodes j in
    let w : ℕ = run_at m.nodes j in
    let xs : List ℕ = appended (ks.kind (node_at m j).kind) (node_at m j).len (run_of m j) k rs in
    let long : length xs ≡ w = appended_long law (node_at m j).len (run_of m j) k rs ∙ length-take-le w (drop s m.words) (omega (arith, length-drop s m.words)) in
    ap (λ (x : Memory). part x.words (start_at m.nodes c) (run_at m.nodes c)) (append_rows_is ks m j k rs inside fits law)
    ∙ part_apart m.words s w xs fits long (start_at m.nodes c) (run_at m.nodes c)
    (λ i a b d e. ⊎_elim (λ (l : start_at m.nodes c + run_at m.nodes c ≤ s). omega arith) (λ (l : s + w ≤ start_at m.nodes c). omega arith) (beside (omega arith) (omega arith)))

-- ---- slots of which none is absent
-- what they name is in them, in their order
slots_named : (ss : List (Option ℕ)) (x : ℕ) → no_gap ss ≡ true → x < length (names ss) → get_or ss x None ≡ Some (get_or (names ss) x 0)
slots_named [] x e h = absurd (omega arith)
slots_named (None ∷ ss) x e h = absurd (true≢false (sym e))
slots_named (Some c ∷ ss) zero e h = refl
slots_named (Some c ∷ ss) (suc x) e h = slots_named ss x e (omega arith)

named_at : (cs : List ℕ) (x : ℕ) → x < length cs → 0 < times (get_or cs x 0) cs
named_at [] x h = absurd (omega arith)
named_at (c ∷ cs) zero h = times_here c cs
named_at (c ∷ cs) (suc x) h = omega (arith, named_at cs x (omega arith))

-- and the shapes are those of what they name
abbrev pub Shaped : Memory → List ℕ → List Shape → Type 0
Shaped m cs shapes = map (λ c. shape_of (node_at m c)) cs ≡ shapes

fills_shaped : (m : Memory) (ss : List (Option ℕ)) (shapes : List Shape) → no_gap ss ≡ true → Fills m ss shapes → Shaped m (names ss) shapes
fills_shaped m [] [] e f = refl
fills_shaped m [] (h ∷ hs) e f = absurd f
fills_shaped m (None ∷ ss) shapes e f = absurd (true≢false (sym e))
fills_shaped m (Some c ∷ ss) [] e f = absurd f
fills_shaped m (Some c ∷ ss) (h ∷ hs) e f = λ i. f.0 i ∷ fills_shaped m ss hs e f.1 i

-- slot x of i has the child c, whose run is beside j's
pub record ChildAt (m : Memory) (i j x c : ℕ) : Type 0 where
  pub inside : c < length m.nodes
  pub slot : slot_at m i x ≡ Some c
  pub beside : Beside m c j

-- Builder a, which has no rows yet, is filled from i.
module _ (ks : Kinds) (kinds : LawfulKinds ks) (own : Encodings) (m : Memory) (i : ℕ) (a : Builder) (none : a.filled ≡ 0) (fill : Filling ks own m i a.node) where
  -- i has the rows that its encoding gives from those of its children
  pub filling_given : flat_given ks own m i ≡ own.rows (fields_of (node_at m i)) (map (flat_rows ks m) (names (slots_of (node_at m i))))
  filling_given = ap (λ (o : Option (List (List Row))). given own (fields_of (node_at m i)) o) (gathered_flat ks m (slots_of (node_at m i)) fill.present)

  pub filling_shaped : Shaped m (names (slots_of (node_at m i))) fill.stands.shapes
  filling_shaped = fills_shaped m (slots_of (node_at m i)) fill.stands.shapes fill.present fill.stands.fills

  pub filling_child : (x : ℕ) → x < length (names (slots_of (node_at m i))) → ChildAt m i a.node x (get_or (names (slots_of (node_at m i))) x 0)
  filling_child x h =
      let c : ℕ = get_or (names (slots_of (node_at m i))) x 0 in
      let it = fill.children c (named_at (names (slots_of (node_at m i))) x h) in
      record {
        inside = it.0;
        slot = slot_among (node_at m i).arity x c (slots_at m.nodes i) (slots_named (slots_of (node_at m i)) x fill.present h);
        beside = it.1;
      }

  -- the builder is open for each row of i
  filling_open : (k : ℕ) (r : Row) → k < (node_at m i).len → (ks.kind (node_at m i).kind).takes r ≡ true → Open ks m a.node k r
  filling_open k r short taken =
      let kind : (node_at m i).kind ≡ (node_at m a.node).kind = sym fill.same_kind in
      let len : (node_at m i).len ≡ (node_at m a.node).len = sym fill.same_len in
      record {
        inside = fill.inside;
        within = fill.within a.node;
        whole = fill.run ∙ (λ t. (ks.kind (kind t)).words (len t));
        short = omega (arith, len);
        taken = subst (λ (x : ℕ). (ks.kind x).takes r ≡ true) kind taken;
      }

  -- builder a is b now, with these rows, and m is q
  module _ (rs : List Row) (q : Memory) (b : Builder) (so : SoFar ks m a rs q b) where
    law : LawfulKind (ks.kind (node_at m a.node).kind)
    law = kinds.lawful (node_at m a.node).kind

    -- the builder is open for a row, x rows on
    pub more_open : (x : ℕ) (r : Row) → length rs + x < (node_at m i).len → (ks.kind (node_at m i).kind).takes r ≡ true → Open ks q b.node (b.filled + x) r
    more_open x r short taken =
        open_so_far ks m a rs q b so (b.filled + x) r law (filling_open (b.filled + x) r (omega (arith, so.filled, none)) taken)

    -- what a child's node says is within the words, and says the rows that the child had
    module _ (nd : Node) (c : ℕ) (is : nd ≡ node_at m c) where
      pub child_within : nd.start + nd.run ≤ length q.words
      child_within =
          let long = words_appended ks m a.node a.filled rs fill.inside (fill.within a.node) law in
          omega (arith, fill.within c, long, ap (λ (x : Memory). length x.words) so.after, ap (λ (x : Node). x.start) is, ap (λ (x : Node). x.run) is)

      module _ (beside : Beside m c a.node) (k : ℕ) (d : Row) (h : k < nd.len) where
        run_is : part q.words nd.start nd.run ≡ run_of m c
        run_is =
            (λ t. part (so.after t).words (is t).start (is t).run)
            ∙ run_beside ks m a.node a.filled rs c fill.inside (fill.within a.node) law beside

        pub child_read : (ks.kind nd.kind).row nd.len (part q.words nd.start nd.run) k ≡ get_or (flat_rows ks m c) k d
        child_read =
            (λ t. (ks.kind (is t).kind).row (is t).len (run_is t) k)
            ∙ row_read (ks.kind (node_at m c).kind) (node_at m c).len (run_of m c) k d (omega (arith, ap (λ (x : Node). x.len) is))

        pub child_number : nd.kind ≡ 1 → number.row nd.len (part q.words nd.start nd.run) k ≡ get_or (flat_rows ks m c) k d
        child_number same =
            ap (λ (kd : Kind). kd.row nd.len (part q.words nd.start nd.run) k) (sym (ap (λ (x : ℕ). ks.kind x) same ∙ kinds.is_number)) ∙ child_read

    pub all_appended : q ≡ append_rows ks m a.node 0 rs
    all_appended = so.after ∙ ap (λ (x : ℕ). append_rows ks m a.node x rs) none

-- the next row of those that are appended one by one
pub next_row : (ks : Kinds) (m : Memory) (a : Builder) (rs : List Row) (k : ℕ) (d : Row) (q : Memory) (b : Builder) → SoFar ks m a (take k rs) q b → k < length rs
    → (r : Row) → r ≡ get_or rs k d → (z : Memory) (c : Builder) → z ≡ append_row ks q b.node b.filled r → c.node ≡ b.node → c.filled ≡ b.filled + 1 → SoFar ks m a (take (k + 1) rs) z c
next_row ks m a rs k d q b so h r is z c after node filled =
    subst (λ (xs : List Row). SoFar ks m a xs z c) (ap (λ (x : Row). take k rs ++ x ∷ []) is ∙ sym (take_more rs k d h))
    (row_more ks m a (take k rs) q b so r z c after node filled)

-- the node that is read from a slot with a child
pub child_node : {m : Memory} {i j x c : ℕ} {nd : Node} → ChildAt m i j x c → nd ≡ node_at m (unwrap_or (slot_at m i x) 0) → nd ≡ node_at m c
child_node {m} at e = e ∙ ap (λ (o : Option ℕ). node_at m (unwrap_or o 0)) at.slot
