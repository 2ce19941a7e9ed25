-- What each of the six encodings is, whatever its meaning and its steps are said to be: when an array has rows, which
-- rows these are, and what its step needs and answers.
use Rattle.std.specs.Prelude.{◌≡◌, ℕ, suc, ◌+◌, ◌<◌, ◌≤◌, true, false, List, [], ◌∷◌, length, is_some, Some, None, Ok, Err, Option, ◌≢◌, slice_index_or}
use Rattle.rows.specs.declared.row.Row.{Row}
use Rattle.rows.specs.Kind.{Kinds}
use Rattle.rows.specs.Ours.{LawfulKinds}
use Rattle.pool.specs.Memory.{Memory, no_slots, node_at, count_at, start_at}
use Rattle.pool.specs.Order.{Ordered}
use Rattle.pool.specs.Finding.{find_run, LowestNode}
use Rattle.encodings.specs.declared.step.ExecutionStep.{ExecutionStep}
use Rattle.encodings.specs.declared.step.ExecutionStep.TheVariants.{ExecuteSlot, AppendChild, Done}
use Rattle.encodings.specs.declared.step.StepFault.TheVariants.{NoRows}
use Rattle.encodings.specs.Meaning.{Encodings, LawfulSet, Within, no_gap}
use Rattle.encodings.specs.Rows.{slots_of, gathered, offered, flat_rows, rows_of, AllWhole}
use Rattle.encodings.specs.Step.{Need, Steps, Steppable, fresh, all_flat}
use Rattle.encodings.specs.Flattening.{flat_need, no_need}
use Rattle.encodings.specs.Chunked.{joined, joined_present}

abbrev pub row_at : List Row → ℕ → Row
row_at rs k = slice_index_or rs k (record { value = 0 })

-- An array k with the encoding id, whole, in a pool in order; `own` has the encoding, and lies within the lawful set es.
pub record Looked (ks : Kinds) (own es : Encodings) (m : Memory) (hs : List ℕ) (k id : ℕ) : Type 0 where
  pub kinds : LawfulKinds ks
  pub set : LawfulSet ks es
  pub within : Within own es
  pub ordered : Ordered m hs
  pub used : 0 < count_at m.nodes k
  pub encoding : (node_at m k).encoding ≡ id
  pub whole : AllWhole ks es m k

-- the rows of the children of k, none where a child has none
abbrev pub children_rows : Kinds → Encodings → Memory → ℕ → Option (List (List Row))
children_rows ks es m k = gathered (rows_of ks es m) (slots_of (node_at m k))

-- There are rows exactly where P holds; then there are n, and R holds of each and its place.
pub record RowsAre (rows : Option (List Row)) (n : ℕ) (P : Type 0) (R : ℕ → Row → Type 0) : Type 0 where
  pub exist : P → is_some rows ≡ true
  pub only : is_some rows ≡ true → P
  pub long : (rs : List Row) → rows ≡ Some rs → length rs ≡ n
  pub each : (rs : List Row) (k : ℕ) → rows ≡ Some rs → k < n → R k (row_at rs k)

-- a set has an encoding, with the meaning that it has by itself
abbrev pub Has : (Kinds → Encodings) → (Kinds → Encodings) → Type 0
Has own_of set_of = (ks : Kinds) → Within (own_of ks) (set_of ks)

-- ---- Flat: its words mean its rows
abbrev pub FlatRows : (Kinds → Encodings) → Type 0
FlatRows own_of = (ks : Kinds) (es : Encodings) (m : Memory) (hs : List ℕ) (k : ℕ) → Looked ks (own_of ks) es m hs k 1 → rows_of ks es m k ≡ Some (flat_rows ks m k)

-- ---- Constant: each row is its value
abbrev pub ConstantRows : (Kinds → Encodings) → Type 0
ConstantRows own_of = (ks : Kinds) (es : Encodings) (m : Memory) (hs : List ℕ) (k : ℕ) → Looked ks (own_of ks) es m hs k 2
    → RowsAre (rows_of ks es m k) (node_at m k).len (Unit {0}) (λ j r. r ≡ (ks.kind (node_at m k).kind).constant (node_at m k).parameter)

-- ---- RunEnd: each row is the value at the first end above it
-- ends are positive and rise, and the last is n; none are for no rows
pub record EndsRise (n : ℕ) (ends : List Row) : Type 0 where
  pub positive : (i : ℕ) → i < length ends → 0 < (row_at ends i).value
  pub rising : (i j : ℕ) → i < j → j < length ends → (row_at ends i).value < (row_at ends j).value
  pub last : (i : ℕ) → suc i ≡ length ends → (row_at ends i).value ≡ n
  pub none : ends ≡ [] → n ≡ 0

-- end i is above row j, and it is the first that is
pub record FirstAbove (ends : List Row) (j i : ℕ) : Type 0 where
  pub inside : i < length ends
  pub above : j < (row_at ends i).value
  pub before : (h : ℕ) → h < i → (row_at ends h).value ≤ j

abbrev pub RunEndRows : (Kinds → Encodings) → Type 0
RunEndRows own_of = (ks : Kinds) (es : Encodings) (m : Memory) (hs : List ℕ) (k : ℕ) → Looked ks (own_of ks) es m hs k 3
    → RowsAre (rows_of ks es m k) (node_at m k).len
    ((ends values : List Row) × (children_rows ks es m k ≡ Some (ends ∷ values ∷ [])) × EndsRise (node_at m k).len ends)
    (λ j r. (ends values : List Row) × (i : ℕ) × (children_rows ks es m k ≡ Some (ends ∷ values ∷ [])) × FirstAbove ends j i × (i < length values) × (r ≡ row_at values i))

-- ---- Dict: each row is the value at its code
abbrev pub DictRows : (Kinds → Encodings) → Type 0
DictRows own_of = (ks : Kinds) (es : Encodings) (m : Memory) (hs : List ℕ) (k : ℕ) → Looked ks (own_of ks) es m hs k 4
    → RowsAre (rows_of ks es m k) (node_at m k).len
    ((codes values : List Row) × (children_rows ks es m k ≡ Some (codes ∷ values ∷ [])) × ((j : ℕ) → j < length codes → (row_at codes j).value < length values))
    (λ j r. (codes values : List Row) × (children_rows ks es m k ≡ Some (codes ∷ values ∷ [])) × (r ≡ row_at values (row_at codes j).value))

-- ---- Chunked: the rows of its children, one child after another; so is the rest, of the children that are present
abbrev pub ChunkedRows : (Kinds → Encodings) → Type 0
ChunkedRows own_of = (ks : Kinds) (es : Encodings) (m : Memory) (hs : List ℕ) (k : ℕ) → Looked ks (own_of ks) es m hs k 5
    → RowsAre (rows_of ks es m k) (node_at m k).len
    ((cs : List (List Row)) × (children_rows ks es m k ≡ Some cs))
    (λ j r. (cs : List (List Row)) × (children_rows ks es m k ≡ Some cs) × (r ≡ row_at (joined cs) j))

abbrev pub ChunkedRest : (Kinds → Encodings) → Type 0
ChunkedRest own_of = (ks : Kinds) (es : Encodings) (m : Memory) (hs : List ℕ) (i : ℕ) → LawfulKinds ks → LawfulSet ks es → Within (own_of ks) es → Steppable ks es (own_of ks) m hs i
    → (rows_of ks es m i ≡ None → offered (rows_of ks es m) (slots_of (node_at m i)) ≡ None)
    × ((rs : List Row) → rows_of ks es m i ≡ Some rs → (os : List (Option (List Row))) × (offered (rows_of ks es m) (slots_of (node_at m i)) ≡ Some os) × (rs ≡ joined_present os))

-- ---- Slice: each row is its child's, the offset further on
abbrev pub SliceRows : (Kinds → Encodings) → Type 0
SliceRows own_of = (ks : Kinds) (es : Encodings) (m : Memory) (hs : List ℕ) (k : ℕ) → Looked ks (own_of ks) es m hs k 6
    → RowsAre (rows_of ks es m k) (node_at m k).len
    ((child : List Row) × (children_rows ks es m k ≡ Some (child ∷ [])))
    (λ j r. (child : List Row) × (children_rows ks es m k ≡ Some (child ∷ [])) × ((node_at m k).parameter + j < length child) × (r ≡ row_at child ((node_at m k).parameter + j)))

-- ---- steps
-- the child in slot x
abbrev pub in_slot : List (Option ℕ) → ℕ → Option ℕ
in_slot ss x = slice_index_or ss x None

-- slot x is the first whose child is not Flat
pub record FirstEncoded (m : Memory) (ss : List (Option ℕ)) (x : ℕ) : Type 0 where
  pub child : ℕ
  pub present : in_slot ss x ≡ Some child
  pub encoded : (node_at m child).encoding ≢ 1
  pub before : (y c : ℕ) → y < x → in_slot ss y ≡ Some c → (node_at m c).encoding ≡ 1

-- every slot is present, with a Flat child
abbrev pub AllFlat : Memory → List (Option ℕ) → Type 0
AllFlat m ss = (y : ℕ) → y < length ss → (c : ℕ) × (in_slot ss y ≡ Some c) × ((node_at m c).encoding ≡ 1)

-- j is the Flat array of the rows rs that was made in the place of i: at the lowest free node and the lowest run, and no
-- more was made than the need n says
pub record FlatMade (ks : Kinds) (n : Need) (m q : Memory) (i : ℕ) (rs : List Row) (j : ℕ) : Type 0 where
  pub lowest : LowestNode m.nodes (Some j)
  pub start : find_run m n.words ≡ Some (start_at q.nodes j)
  pub encoding : (node_at q j).encoding ≡ 1
  pub kind : (node_at q j).kind ≡ (node_at m i).kind
  pub len : (node_at q j).len ≡ (node_at m i).len
  pub parameter : (node_at q j).parameter ≡ 0
  pub arity : (node_at q j).arity ≡ 0
  pub slots : (node_at q j).slots ≡ no_slots
  pub count : (node_at q j).count ≡ 1
  pub rows : flat_rows ks q j ≡ rs
  pub nodes_made : fresh m.nodes q.nodes ≡ n.nodes
  pub words_made : (node_at q j).run ≡ n.words
  pub height_made : (node_at q j).height ≡ n.height

-- an accepted step of i made a Flat array of i's rows in its place
abbrev pub Makes : Kinds → Encodings → Steps → Memory → ℕ → Type 0
Makes ks es st m i =
    (a : ExecutionStep) → (st.stepped m i).0 ≡ Ok a
    → (j : ℕ) × (rs : List Row) × (a ≡ Done j) × (rows_of ks es m i ≡ Some rs) × FlatMade ks (st.need m i) m (st.stepped m i).1 i rs j

-- The step of Constant, RunEnd, Dict and Slice: the first slot that is not Flat is asked for; with every slot present and
-- Flat it makes a Flat array. With a slot absent there is no rest, and where none is to be asked for no step.
pub record Flattens (ks : Kinds) (es : Encodings) (st : Steps) (m : Memory) (i : ℕ) : Type 0 where
  pub asks : (x : ℕ) → FirstEncoded m (slots_of (node_at m i)) x → (st.need m i ≡ no_need m i) × (st.stepped m i ≡ (Ok (ExecuteSlot x 1), m))
  pub needs : AllFlat m (slots_of (node_at m i)) → st.need m i ≡ flat_need ks m i
  pub makes : AllFlat m (slots_of (node_at m i)) → Makes ks es st m i
  pub no_rest : no_gap (slots_of (node_at m i)) ≡ false → rows_of ks es m i ≡ None
  pub no_step : no_gap (slots_of (node_at m i)) ≡ false → all_flat m (slots_of (node_at m i)) ≡ true → (st.need m i ≡ no_need m i) × (st.stepped m i ≡ (Err NoRows, m))

abbrev pub Flattening : (Kinds → Encodings) → (Kinds → Steps) → Type 0
Flattening own_of steps_of =
    (ks : Kinds) (es : Encodings) (m : Memory) (hs : List ℕ) (i : ℕ) → LawfulKinds ks → LawfulSet ks es → Within (own_of ks) es → Steppable ks es (own_of ks) m hs i
    → Flattens ks es (steps_of ks) m i

-- slot x is the first that is present, with the child c
pub record FirstPresent (ss : List (Option ℕ)) (x c : ℕ) : Type 0 where
  pub present : in_slot ss x ≡ Some c
  pub before : (y : ℕ) → y < x → in_slot ss y ≡ None

-- the step of Chunked
pub record Chunks (ks : Kinds) (es : Encodings) (st : Steps) (m : Memory) (i : ℕ) : Type 0 where
  pub appends : (x c : ℕ) → FirstPresent (slots_of (node_at m i)) x c → (node_at m c).encoding ≡ 1 → st.stepped m i ≡ (Ok (AppendChild x), m)
  pub asks : (x c : ℕ) → FirstPresent (slots_of (node_at m i)) x c → (node_at m c).encoding ≢ 1 → st.stepped m i ≡ (Ok (ExecuteSlot x 1), m)
  pub done : 0 < (node_at m i).arity → ((y : ℕ) → in_slot (slots_of (node_at m i)) y ≡ None) → st.stepped m i ≡ (Ok (Done i), m)
  pub needs_none : 0 < (node_at m i).arity → st.need m i ≡ no_need m i
  pub empty_needs : (node_at m i).arity ≡ 0 → st.need m i ≡ flat_need ks m i
  pub empty_makes : (node_at m i).arity ≡ 0 → Makes ks es st m i

abbrev pub Chunking : (Kinds → Encodings) → (Kinds → Steps) → Type 0
Chunking own_of steps_of = (ks : Kinds) (es : Encodings) (m : Memory) (hs : List ℕ) (i : ℕ) → LawfulKinds ks → LawfulSet ks es → Within (own_of ks) es → Steppable ks es (own_of ks) m hs i → Chunks ks es (steps_of ks) m i

-- the step of Flat
abbrev pub Staying : (Kinds → Steps) → Type 0
Staying steps_of = (ks : Kinds) (m : Memory) (i : ℕ) → ((steps_of ks).need m i ≡ no_need m i) × ((steps_of ks).stepped m i ≡ (Ok (Done i), m))
