-- The rows of an array in a pool, and when an array is whole.
use Rattle.std.specs.Prelude.{◌≡◌, ℕ, zero, suc, ◌<◌, true, false, List, [], ◌∷◌, take, drop, Some, None, Option, ◌==◌, ◌≢◌}
use Rattle.rows.specs.declared.row.Row.{Row}
use Rattle.rows.specs.Kind.{Kinds, rows}
use Rattle.pool.specs.declared.node.Node.{Node}
use Rattle.pool.specs.Memory.{Memory, node_at, height_at, slots_at, run_at, run_of}
use Rattle.pool.specs.Counts.{names, times, Reaches}
use Rattle.encodings.specs.declared.fields.Fields.{Fields}
use Rattle.encodings.specs.declared.fields.Shape.{Shape}
use Rattle.encodings.specs.Meaning.{Encodings, slots_fit}

abbrev pub fields_of : Node → Fields
fields_of nd = record { encoding = nd.encoding; kind = nd.kind; len = nd.len; parameter = nd.parameter; arity = nd.arity }

abbrev pub shape_of : Node → Shape
shape_of nd = record { kind = nd.kind; len = nd.len }

-- the slots that an array has
abbrev pub slots_of : Node → List (Option ℕ)
slots_of nd = take nd.arity nd.slots

-- what each slot's child gives, none where a slot is absent or a child gives none
abbrev pub gathered : {A : Type 0} → (ℕ → Option A) → List (Option ℕ) → Option (List A)
gathered g [] = Some []
gathered g (None ∷ ss) = None
gathered g (Some c ∷ ss) = elim (g c) [ None ↦ None | Some r ↦ elim (gathered g ss) [ None ↦ None | Some rs ↦ Some (r ∷ rs) ] ]

-- what each present child gives, and where a slot is absent; none where a present child gives none
abbrev pub offered : {A : Type 0} → (ℕ → Option A) → List (Option ℕ) → Option (List (Option A))
offered g [] = Some []
offered g (None ∷ ss) = elim (offered g ss) [ None ↦ None | Some os ↦ Some (None ∷ os) ]
offered g (Some c ∷ ss) = elim (g c) [ None ↦ None | Some r ↦ elim (offered g ss) [ None ↦ None | Some os ↦ Some (Some r ∷ os) ] ]

-- the rows that a Flat array's words mean
abbrev pub flat_rows : Kinds → Memory → ℕ → List Row
flat_rows ks m k = rows (ks.kind (node_at m k).kind) (node_at m k).len (run_of m k)

-- the rows of k, or where a slot is absent the rest; the number is above k's height
abbrev pub rows_at : Kinds → Encodings → ℕ → Memory → ℕ → Option (List Row)
rows_at ks es zero m k = None
rows_at ks es (suc f) m k =
    elim ((node_at m k).encoding == 1) [
      | true ↦ Some (flat_rows ks m k)
      | false ↦ elim (offered (rows_at ks es f m) (slots_of (node_at m k))) [ None ↦ None | Some os ↦ es.rest (fields_of (node_at m k)) os ]
    ]

-- The rows of the array at k, if it has any; where a slot is absent, the rest that it still owes.
unfoldable pub rows_of : Kinds → Encodings → Memory → ℕ → Option (List Row)
rows_of ks es m k = rows_at ks es (suc (height_at m.nodes k)) m k

-- rows that were there are there still
abbrev pub Carries : Option (List Row) → Option (List Row) → Type 0
Carries before after = (xs : List Row) → before ≡ Some xs → after ≡ Some xs

abbrev pub shapes_of : Memory → List (Option ℕ) → Option (List Shape)
shapes_of m ss = gathered (λ c. Some (shape_of (node_at m c))) ss

-- the children have shapes that fit, and no slot is absent
abbrev pub SlotsFit : Encodings → Fields → Option (List Shape) → Type 0
SlotsFit es f None = ⊥
SlotsFit es f (Some ss) = slots_fit es f ss ≡ true

-- k is of the set, fits, and has no absent slot; a Flat array has the words of its rows, and no bit past them is set; any other array has no words
pub record WholeAt (ks : Kinds) (es : Encodings) (m : Memory) (k : ℕ) : Type 0 where
  pub known : es.has (node_at m k).encoding ≡ true
  pub fields_fit : es.fields_fit (fields_of (node_at m k)) ≡ true
  pub slots_fit : SlotsFit es (fields_of (node_at m k)) (shapes_of m (slots_of (node_at m k)))
  pub no_more : names (drop (node_at m k).arity (slots_at m.nodes k)) ≡ []
  pub flat_run : (node_at m k).encoding ≡ 1 → run_at m.nodes k ≡ (ks.kind (node_at m k).kind).words (node_at m k).len
  pub flat_tidy : (node_at m k).encoding ≡ 1 → (ks.kind (node_at m k).kind).tidy (node_at m k).len (run_of m k) ≡ true
  pub bare : (node_at m k).encoding ≢ 1 → run_at m.nodes k ≡ 0

-- the array at k, with every node that it reaches, is whole
abbrev pub AllWhole : Kinds → Encodings → Memory → ℕ → Type 0
AllWhole ks es m k = (j : ℕ) → Reaches m.nodes k j → WholeAt ks es m j

-- ---- arrays of which some slots are absent
-- the shapes are those of the slots, and any where a slot is absent
abbrev pub Fills : Memory → List (Option ℕ) → List Shape → Type 0
Fills m [] [] = Unit {0}
Fills m [] (h ∷ hs) = ⊥
Fills m (None ∷ ss) [] = ⊥
Fills m (Some c ∷ ss) [] = ⊥
Fills m (None ∷ ss) (h ∷ hs) = Fills m ss hs
Fills m (Some c ∷ ss) (h ∷ hs) = (shape_of (node_at m c) ≡ h) × Fills m ss hs

-- the array at k is of the set, and some shapes in its absent slots make it fit; if it is not Flat, it has no words
pub record StandsAt (es : Encodings) (m : Memory) (k : ℕ) : Type 0 where
  pub known : es.has (node_at m k).encoding ≡ true
  pub fields_fit : es.fields_fit (fields_of (node_at m k)) ≡ true
  pub shapes : List Shape
  pub fills : Fills m (slots_of (node_at m k)) shapes
  pub slots_fit : slots_fit es (fields_of (node_at m k)) shapes ≡ true
  pub no_more : names (drop (node_at m k).arity (slots_at m.nodes k)) ≡ []
  pub bare : (node_at m k).encoding ≢ 1 → run_at m.nodes k ≡ 0

-- all that the slots of k reach is whole
abbrev pub ChildrenWhole : Kinds → Encodings → Memory → ℕ → Type 0
ChildrenWhole ks es m k = (c : ℕ) → 0 < times c (names (slots_of (node_at m k))) → AllWhole ks es m c

-- the lengths of the children that stand in slots
abbrev pub lens_of : Memory → List (Option ℕ) → List (Option ℕ)
lens_of m [] = []
lens_of m (None ∷ ss) = None ∷ lens_of m ss
lens_of m (Some c ∷ ss) = Some (node_at m c).len ∷ lens_of m ss

-- the rest that an array with the fields of k and with these slots owes, and its length, even where it has none
abbrev pub rest_by : Kinds → Encodings → Memory → ℕ → List (Option ℕ) → Option (List Row)
rest_by ks es m k ss = elim (offered (rows_of ks es m) ss) [ None ↦ None | Some os ↦ es.rest (fields_of (node_at m k)) os ]

abbrev pub owed_by : Encodings → Memory → ℕ → List (Option ℕ) → ℕ
owed_by es m k ss = es.rest_length (fields_of (node_at m k)) (lens_of m ss)

-- the rows that an encoding gives from its children's rows, none where a child has none
abbrev pub given : Encodings → Fields → Option (List (List Row)) → Option (List Row)
given es f None = None
given es f (Some cs) = es.rows f cs
