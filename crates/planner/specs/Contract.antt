-- What every public call of a planner promises.
use Rattle.std.specs.Prelude.{◌≡◌, ℕ, ◌+◌, List, [], ◌∷◌, ◌++◌, Some, None, Ok, Err, Option, Result}
use Rattle.std.specs.Option.{unwrap_or}
use Rattle.std.specs.Fn.{FnOnceReturns, Once}
use Rattle.std.specs.Borrow.{Bor, MutBor}
use Rattle.rows.specs.declared.row.Row.{Row}
use Rattle.rows.specs.Kind.{Kind, Kinds}
use Rattle.pool.specs.Memory.{Memory, free_node, node_at}
use Rattle.encodings.specs.declared.fields.Shape.{Shape}
use Rattle.encodings.specs.Meaning.{Encodings}
use Rattle.encodings.specs.Rows.{shape_of}
use Rattle.planner.specs.declared.call.Refusal.{Refusal}
use Rattle.planner.specs.declared.call.Reply.{Reply}
use Rattle.planner.specs.declared.call.Reading.{Reading}
use Rattle.planner.specs.Calls.{Told, Said, said, done, rows, refused}
use Rattle.planner.specs.Called.{State, parsed_rows, called}
use Rattle.planner.specs.Law.{History, state_after, Reached, Extends}

-- an outcome as an answer
abbrev pub outcome : Result (Unit {0}) Refusal → Said
outcome (Ok u) = done
outcome (Err e) = refused e

abbrev pub read_outcome : Result Reading Refusal → Said
read_outcome (Ok r) = rows r.kind r.len r.place r.words.now
read_outcome (Err e) = refused e

-- the rows that the bytes of n rows stand for, where each of them stands for one
abbrev pub rows_parsed : Kind → ℕ → List ℕ → List Row
rows_parsed kd n bytes = unwrap_or (parsed_rows kd n bytes) []

-- what an array sees of what a slot names; an absent slot has the shape of a free node
abbrev pub shape_in : Memory → Option ℕ → Shape
shape_in m None = shape_of free_node
shape_in m (Some c) = shape_of (node_at m c)

-- The answer and the state after a call are those of its definition, and whatever history led to the state before,
-- this call is one moment more of it, and the law holds of the longer history.
pub record Does (ks : Kinds) (es : Encodings) (s : State) (c : Told) (a : Said) (t : State) : Type 0 where
  pub value : (a, t) ≡ called ks es s c
  pub law : (h : History) → Reached ks es h s → Extends ks es h c a t

-- The function f was given the kinds, an answer that says a, and the value x, which it gave back as y with the result r.
abbrev pub Handed : {K S R F : Type 0} → Once F (Bor K × (Result Reply Refusal × (MutBor S × Unit {0}))) (R × (MutBor S × Unit {0})) → F → K → Said → S → R → S → Type 0
Handed {K} {S} g f kinds a x r y = (k : Bor K) × (b : Result Reply Refusal) × (from to : MutBor S) × (k.now ≡ kinds) × (said b ≡ a) × (from.now ≡ x) × (to.now ≡ y) × FnOnceReturns g f (k, (b, (from, tt))) (r, (to, tt))

-- the history of a list of calls on a new planner, the first call first
abbrev pub played : Kinds → Encodings → History → List Told → History
played ks es h [] = h
played ks es h (c ∷ cs) = played ks es (record { call = c; answer = (called ks es (state_after h) c).0; after = (called ks es (state_after h) c).1 } ∷ h) cs

-- the answers of a history, the oldest first
abbrev pub answers : History → List Said
answers [] = []
answers (m ∷ h) = answers h ++ m.answer ∷ []

-- the roots that hold an array
abbrev pub roots_used : List (Option ℕ) → ℕ
roots_used [] = 0
roots_used (None ∷ rs) = roots_used rs
roots_used (Some k ∷ rs) = 1 + roots_used rs
