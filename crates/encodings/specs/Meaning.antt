-- What a set of encodings means: which fields and children fit, and which rows an array has.
use Rattle.std.specs.Prelude.{◌≡◌, ℕ, Bool, true, false, ◌&&◌, List, [], ◌∷◌, map, length, Some, None, Option, ◌==◌, ◌≢◌, nat_le}
use Rattle.rows.specs.declared.row.Row.{Row}
use Rattle.rows.specs.Kind.{Kinds}
use Rattle.encodings.specs.declared.fields.Fields.{Fields}
use Rattle.encodings.specs.declared.fields.Shape.{Shape}

-- Encodings told apart by id. The rows of Flat arrays lie in their words; all others come from the fields and the rows
-- of the children, in the order of the slots.
pub record Encodings : Type 0 where
  pub has : ℕ → Bool
  -- the fields are in range
  pub fields_fit : Fields → Bool
  -- so many slots, children of these kinds, and of these lengths
  pub count_fits : Fields → Bool
  pub kinds_fit : Fields → List Shape → Bool
  pub lengths_fit : Fields → List Shape → Bool
  -- the rows, from those of the children; none where it has none
  pub rows : Fields → List (List Row) → Option (List Row)
  -- the rows that an array whose slots are partly absent still owes, and how many these are, even where there are none
  pub rest : Fields → List (Option (List Row)) → Option (List Row)
  pub rest_length : Fields → List (Option ℕ) → ℕ

-- the three tests of the slots, in their order
abbrev pub slots_fit : Encodings → Fields → List Shape → Bool
slots_fit es f ss = es.count_fits f && (es.kinds_fit f ss && es.lengths_fit f ss)

-- a kind that exists, at most 1,024 rows, and at most 8 slots
abbrev pub in_range : Kinds → Fields → Bool
in_range ks f = ks.has f.kind && (nat_le f.len 1024 && nat_le f.arity 8)

abbrev pub no_shapes : List Shape → Bool
no_shapes [] = true
no_shapes (h ∷ hs) = false

-- ---- children of which some are absent
-- no slot is absent
abbrev pub no_gap : {A : Type 0} → List (Option A) → Bool
no_gap [] = true
no_gap (None ∷ os) = false
no_gap (Some a ∷ os) = no_gap os

-- all are present
abbrev pub present : {A : Type 0} → List A → List (Option A)
present xs = map Some xs

-- the lengths of the children that are present
abbrev pub lengths : List (Option (List Row)) → List (Option ℕ)
lengths [] = []
lengths (None ∷ os) = None ∷ lengths os
lengths (Some r ∷ os) = Some (length r) ∷ lengths os

-- rows of these lengths, where they are present
abbrev pub Sized : List (Option (List Row)) → List Shape → Type 0
Sized [] [] = Unit {0}
Sized [] (h ∷ hs) = ⊥
Sized (None ∷ rs) [] = ⊥
Sized (Some r ∷ rs) [] = ⊥
Sized (None ∷ rs) (h ∷ hs) = Sized rs hs
Sized (Some r ∷ rs) (h ∷ hs) = (length r ≡ h.len) × Sized rs hs

-- what is in each slot, none where a slot is absent
abbrev pub all_present : {A : Type 0} → List (Option A) → Option (List A)
all_present [] = Some []
all_present (None ∷ os) = None
all_present (Some a ∷ os) = elim (all_present os) [ None ↦ None | Some xs ↦ Some (a ∷ xs) ]

-- the rest of an encoding that owes its rows in one piece: there is none while a slot is absent
abbrev pub undivided : (Fields → List (List Row) → Option (List Row)) → Fields → List (Option (List Row)) → Option (List Row)
undivided rows f os = elim (all_present os) [ None ↦ None | Some cs ↦ rows f cs ]

-- ---- what a set of encodings owes
-- a Flat array has no parameter and no slots
abbrev pub flat_fields : Kinds → Fields → Bool
flat_fields ks f = in_range ks f && f.parameter == 0

pub record FlatIn (ks : Kinds) (es : Encodings) : Type 0 where
  pub fields : (f : Fields) → f.encoding ≡ 1 → es.fields_fit f ≡ flat_fields ks f
  pub count : (f : Fields) → f.encoding ≡ 1 → es.count_fits f ≡ (f.arity == 0)
  pub kinds : (f : Fields) (ss : List Shape) → f.encoding ≡ 1 → es.kinds_fit f ss ≡ no_shapes ss
  pub lengths : (f : Fields) (ss : List Shape) → f.encoding ≡ 1 → es.lengths_fit f ss ≡ no_shapes ss

-- An array that is not Flat, of a set, whose fields and slots fit.
pub record Fitting (es : Encodings) (f : Fields) (ss : List Shape) : Type 0 where
  pub known : es.has f.encoding ≡ true
  pub not_flat : f.encoding ≢ 1
  pub fields : es.fields_fit f ≡ true
  pub slots : slots_fit es f ss ≡ true

pub record LawfulEncodings (ks : Kinds) (es : Encodings) : Type 0 where
  -- nobody has id 0, which marks an open builder, and id 1 is Flat's
  pub builder_none : es.has 0 ≡ false
  pub flat : es.has 1 ≡ true → FlatIn ks es
  -- fields that fit are in range
  pub ranged : (f : Fields) → es.has f.encoding ≡ true → es.fields_fit f ≡ true → in_range ks f ≡ true
  -- rows are as long as the array
  pub long : (f : Fields) (ss : List Shape) (cs : List (List Row)) (r : List Row) → Fitting es f ss → Sized (present cs) ss → es.rows f cs ≡ Some r → length r ≡ f.len
  -- with no slot absent the rest is the rows, and its length the array's
  pub rest_whole : (f : Fields) (ss : List Shape) (cs : List (List Row)) → Fitting es f ss → Sized (present cs) ss → es.rest f (present cs) ≡ es.rows f cs
  pub rest_length_whole : (f : Fields) (ss : List Shape) (os : List (Option ℕ)) → Fitting es f ss → os ≡ map (λ h. Some h.len) ss → es.rest_length f os ≡ f.len
  -- a rest that exists is as long as the rest's length says
  pub rest_long : (f : Fields) (ss : List Shape) (os : List (Option (List Row))) (r : List Row) → Fitting es f ss → Sized os ss → es.rest f os ≡ Some r → length r ≡ es.rest_length f (lengths os)

-- A lawful set with Flat in it.
pub record LawfulSet (ks : Kinds) (es : Encodings) : Type 0 where
  pub lawful : LawfulEncodings ks es
  pub has_flat : es.has 1 ≡ true

-- The set `own` lies within the set `es`, which gives its ids what it gives them, but for the rows of Flat arrays, which
-- lie in their words.
pub record Within (own es : Encodings) : Type 0 where
  pub has : (id : ℕ) → own.has id ≡ true → es.has id ≡ true
  pub fields_fit : (f : Fields) → own.has f.encoding ≡ true → es.fields_fit f ≡ own.fields_fit f
  pub count_fits : (f : Fields) → own.has f.encoding ≡ true → es.count_fits f ≡ own.count_fits f
  pub kinds_fit : (f : Fields) → own.has f.encoding ≡ true → (ss : List Shape) → es.kinds_fit f ss ≡ own.kinds_fit f ss
  pub lengths_fit : (f : Fields) → own.has f.encoding ≡ true → (ss : List Shape) → es.lengths_fit f ss ≡ own.lengths_fit f ss
  pub rows : (f : Fields) → own.has f.encoding ≡ true → (f.encoding ≢ 1) → (cs : List (List Row)) → es.rows f cs ≡ own.rows f cs
  pub rest : (f : Fields) → own.has f.encoding ≡ true → (f.encoding ≢ 1) → (os : List (Option (List Row))) → es.rest f os ≡ own.rest f os
  pub rest_length : (f : Fields) → own.has f.encoding ≡ true → (f.encoding ≢ 1) → (os : List (Option ℕ)) → es.rest_length f os ≡ own.rest_length f os
