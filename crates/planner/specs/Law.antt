-- The law over whole lists of calls.
use Rattle.std.specs.Prelude.{◌≡◌, ℕ, ◌<◌, ◌≤◌, Bool, true, false, List, [], ◌∷◌, length, replicate, Some, None, Option, ◌==◌, ◌≢◌, slice_index_or, slice_set}
use Rattle.rows.specs.declared.row.Row.{Row}
use Rattle.rows.specs.Kind as kinds
use Rattle.rows.specs.Kind.{Kinds}
use Rattle.pool.specs.Memory.{node_at, count_at, start_at, run_of}
use Rattle.pool.specs.Counts.{names, Counts, Heights, Reaches, Exact}
use Rattle.pool.specs.Order.{Low, Within, Apart, SameAt}
use Rattle.encodings.specs.Meaning.{Encodings, present}
use Rattle.encodings.specs.Rows.{gathered, given, rows_of, Carries, WholeAt}
use Rattle.planner.specs.Calls.{Told, make, assemble, share, release, read, Said, done, rows, refused}
use Rattle.planner.specs.Called.{State, new_state, root_at, parsed_rows, called}

-- One call with the answer that it got, and the state then.
pub record Moment : Type 0 where
  pub call : Told
  pub answer : Said
  pub after : State

-- The moments since a planner was made, the newest first.
abbrev pub History : Type 0
History = List Moment

-- the state after a history
abbrev pub state_after : History → State
state_after [] = new_state
state_after (m ∷ h) = m.after

-- P of each moment: of the state before it, its call, its answer, and the state after it
abbrev pub Always : (State → Told → Said → State → Type 0) → History → Type 0
Always P [] = Unit {0}
Always P (m ∷ h) = P (state_after h) m.call m.answer m.after × Always P h

-- each answer, and each state, is what the checks and the work of the call give on the state before
abbrev pub Answered : Kinds → Encodings → History → Type 0
Answered ks es h = Always (λ s c a t. (a, t) ≡ called ks es s c) h

-- a planner in the state s has come there by the history h
pub record Reached (ks : Kinds) (es : Encodings) (h : History) (s : State) : Type 0 where
  pub answered : Answered ks es h
  pub here : state_after h ≡ s

abbrev pub accepted : Said → Bool
accepted done = true
accepted (rows kind n place words) = true
accepted (refused e) = false

-- ---- the ledger: for each root nothing, or an entry, which is rows or "no rows"; it is fed calls and answers alone
abbrev pub Entry : Type 0
Entry = Option (List Row)

-- the rows that are entered for a root, none where it has no entry or one of no rows
abbrev pub rows_entered : List (Option Entry) → ℕ → Option (List Row)
rows_entered l r = elim (slice_index_or l r None) [ None ↦ None | Some e ↦ e ]

abbrev pub entered : Kinds → Encodings → List (Option Entry) → Told → List (Option Entry)
entered ks es l (make root kind n bytes) = slice_set l root (Some (parsed_rows (ks.kind kind) n bytes))
entered ks es l (assemble root f rs) = slice_set l root (Some (given es f (gathered (rows_entered l) (present rs))))
entered ks es l (share to from) = slice_set l to (slice_index_or l from None)
entered ks es l (release root) = slice_set l root None
entered ks es l (read root) = l

abbrev pub ledger : Kinds → Encodings → History → List (Option Entry)
ledger ks es [] = replicate 32 None
ledger ks es (m ∷ h) = elim (accepted m.answer) [ true ↦ entered ks es (ledger ks es h) m.call | false ↦ ledger ks es h ]

-- ---- rows in a state
abbrev pub rows_under : Kinds → Encodings → State → ℕ → Option (List Row)
rows_under ks es s r = elim (root_at s r) [ None ↦ None | Some k ↦ rows_of ks es s.memory k ]

-- the rows under each of these roots, none where one has none
abbrev pub rows_under_each : Kinds → Encodings → State → List ℕ → Option (List (List Row))
rows_under_each ks es s rs = gathered (rows_under ks es s) (present rs)

-- a root with no entry is empty, and one with an entry is not; where the entry has rows, these are under the root
abbrev pub Entered : Kinds → Encodings → State → ℕ → Option Entry → Type 0
Entered ks es s r None = root_at s r ≡ None
Entered ks es s r (Some None) = (k : ℕ) × (root_at s r ≡ Some k)
Entered ks es s r (Some (Some xs)) = ((k : ℕ) × (root_at s r ≡ Some k)) × (rows_under ks es s r ≡ Some xs)

-- a call that puts another array under the root r
abbrev pub renews : Told → ℕ → Bool
renews (make root kind n bytes) r = root == r
renews (assemble root f rs) r = root == r
renews (share to from) r = to == r
renews (release root) r = false
renews (read root) r = false

abbrev pub renewed : Moment → ℕ → Bool
renewed m r = elim (accepted m.answer) [ true ↦ renews m.call r | false ↦ false ]

-- rows found under r at any moment since an array was last put there, that moment included, are what is there now
abbrev pub Found : Kinds → Encodings → ℕ → History → Option (List Row) → Type 0
Found ks es r [] present = Unit {0}
Found ks es r (m ∷ h) present =
    Carries (rows_under ks es m.after r) present
    × (elim (renewed m r) [ true ↦ Unit {0} | false ↦ Found ks es r h present ])

-- ---- what one call does
-- the root that a call is about
abbrev pub own_root : Told → ℕ
own_root (make root kind n bytes) = root
own_root (assemble root f rs) = root
own_root (share to from) = to
own_root (release root) = root
own_root (read root) = root

-- an accepted making puts the rows there that its bytes stand for, or those that its encoding gives from the rows then
-- under the roots that it names
abbrev pub Makes : Kinds → Encodings → State → Told → Said → State → Type 0
Makes ks es s (make root kind n bytes) done t = rows_under ks es t root ≡ parsed_rows (ks.kind kind) n bytes
Makes ks es s (make root kind n bytes) (rows a b c d) t = ⊥
Makes ks es s (make root kind n bytes) (refused e) t = Unit {0}
Makes ks es s (assemble root f rs) done t = rows_under ks es t root ≡ given es f (rows_under_each ks es s rs)
Makes ks es s (assemble root f rs) (rows a b c d) t = ⊥
Makes ks es s (assemble root f rs) (refused e) t = Unit {0}
Makes ks es s (share to from) a t = Unit {0}
Makes ks es s (release root) a t = Unit {0}
Makes ks es s (read root) a t = Unit {0}

-- an accepted sharing puts the rows, or none, under its root that were then under its source
abbrev pub Shares : Kinds → Encodings → State → Told → Said → State → Type 0
Shares ks es s (make root kind n bytes) a t = Unit {0}
Shares ks es s (assemble root f rs) a t = Unit {0}
Shares ks es s (share to from) done t = rows_under ks es t to ≡ rows_under ks es s from
Shares ks es s (share to from) (rows a b c d) t = ⊥
Shares ks es s (share to from) (refused e) t = Unit {0}
Shares ks es s (release root) a t = Unit {0}
Shares ks es s (read root) a t = Unit {0}

-- what an accepted reading of the root r hands out: the words of the array there, as they lie in the pool from its place on
pub record Hands (ks : Kinds) (es : Encodings) (s : State) (r kind n place : ℕ) (words : List ℕ) : Type 0 where
  pub array : ℕ
  pub under : root_at s r ≡ Some array
  pub kind_is : (node_at s.memory array).kind ≡ kind
  pub len_is : (node_at s.memory array).len ≡ n
  pub place_is : start_at s.memory.nodes array ≡ place
  pub few : n ≤ 1024
  pub words_are : run_of s.memory array ≡ words
  pub words_long : length words ≡ (ks.kind kind).words n
  pub rows_are : rows_under ks es s r ≡ Some (kinds.rows (ks.kind kind) n words)
  pub tidy : (ks.kind kind).tidy n words ≡ true

abbrev pub Reads : Kinds → Encodings → State → Told → Said → State → Type 0
Reads ks es s (make root kind n bytes) a t = Unit {0}
Reads ks es s (assemble root f rs) a t = Unit {0}
Reads ks es s (share to from) a t = Unit {0}
Reads ks es s (release root) a t = Unit {0}
Reads ks es s (read root) done t = ⊥
Reads ks es s (read root) (rows kind n place words) t = Hands ks es s root kind n place words
Reads ks es s (read root) (refused e) t = Unit {0}

-- a refusal changes nothing
abbrev pub Unchanged : State → Said → State → Type 0
Unchanged s done t = Unit {0}
Unchanged s (rows kind n place words) t = t ≡ s
Unchanged s (refused e) t = t ≡ s

-- In every array under another root nothing but share counts may differ.
pub record Spares (s t : State) (r : ℕ) : Type 0 where
  pub same_root : root_at t r ≡ root_at s r
  pub same_array : (k j : ℕ) → root_at s r ≡ Some k → Reaches s.memory.nodes k j → SameAt s.memory t.memory j

abbrev pub Others : State → Told → State → Type 0
Others s c t = (r : ℕ) → (r ≢ own_root c) → Spares s t r

-- the nodes and the words in a state
pub record Whole (ks : Kinds) (es : Encodings) (s : State) : Type 0 where
  pub each : (k : ℕ) → 0 < count_at s.memory.nodes k → WholeAt ks es s.memory k
  pub heights : Heights s.memory.nodes
  pub low : Low s.memory.nodes
  pub within : Within s.memory.nodes s.memory.words
  pub apart : Apart s.memory.nodes

-- The law of a history: what must hold after any list of calls, the refused included.
pub record Law (ks : Kinds) (es : Encodings) (h : History) : Type 0 where
  pub answered : Answered ks es h
  pub entries : (r : ℕ) → r < 32 → Entered ks es (state_after h) r (slice_index_or (ledger ks es h) r None)
  pub found : (r k : ℕ) → root_at (state_after h) r ≡ Some k → Found ks es r h (rows_under ks es (state_after h) r)
  pub made : Always (Makes ks es) h
  pub shared : Always (Shares ks es) h
  pub read : Always (Reads ks es) h
  pub counted : Counts (state_after h).memory.nodes (names (state_after h).roots)
  pub reached : Exact (state_after h).memory.nodes (names (state_after h).roots)
  pub unchanged : Always (λ s c a t. Unchanged s a t) h
  pub others : Always (λ s c a t. Others s c t) h
  pub whole : Whole ks es (state_after h)

-- a call that was answered is one moment more, and the law holds of the longer history
pub record Extends (ks : Kinds) (es : Encodings) (h : History) (c : Told) (a : Said) (t : State) : Type 0 where
  pub reached : Reached ks es (record { call = c; answer = a; after = t } ∷ h) t
  pub law : Law ks es (record { call = c; answer = a; after = t } ∷ h)
