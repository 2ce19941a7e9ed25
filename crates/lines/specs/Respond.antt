-- What a line is answered, and what it leaves.
use Rattle.std.specs.Prelude.{◌≡◌, ℕ, ◌≤◌, true, is_ok, Some, None, vec_capacity, Option, Result, Vec}
use Rattle.rows.specs.Kind.{Kinds}
use Rattle.encodings.specs.Meaning.{Encodings}
use Rattle.planner.specs.declared.call.Refusal.TheVariants.{Line}
use Rattle.planner.specs.Calls.{Told, Said, refused}
use Rattle.planner.specs.Called.{State, called}
use Rattle.planner.specs.declared.planner.Planner.{Planner}
use Rattle.planner.specs.Law.{History, Reached, Law, Extends}
use Rattle.planner.specs.Seen.{state_of, means_in}
use Rattle.lines.specs.Append.{Wrote}
use Rattle.lines.specs.Parse.{longest}
use Rattle.lines.specs.Written.{written}

-- the planner's answer to the call that a line stands for; a line that stands for no call changes nothing
abbrev pub responded : Kinds → Encodings → State → Option Told → Said × State
responded ks es s None = (refused Line, s)
responded ks es s (Some c) = called ks es s c

-- what the planner p answers, and the state that it leaves
abbrev pub responded_on : {K E B M : Type 0} → (K → Kinds) → (E → Kinds → Encodings) → Planner K E B M → Option Told → Said × State
responded_on kinds_of means_of p call = responded (kinds_of p.session.kinds) (means_in kinds_of means_of p.session) (state_of p) call

-- the history goes on by the call, if there is one, and the law holds of it
abbrev pub GoesOn : Kinds → Encodings → History → State → Option Told → State → Type 0
GoesOn ks es h s None t = Reached ks es h t × Law ks es h
GoesOn ks es h s (Some c) t = Extends ks es h c (called ks es s c).0 t

-- The planner p was given the line that stands for the call, if any, and is now q; the digits of the answer were to be
-- written in place of what the buffer held.
pub record Responds {K E B M X Y Z : Type 0} (kinds_of : K → Kinds) (means_of : E → Kinds → Encodings) (p q : Planner K E B M) (call : Option Told) (r : Result X Y) (old new : Vec ℕ Z) : Type 0 where
  -- the state after is that of the planner's definition
  pub state : state_of q ≡ (responded_on kinds_of means_of p call).1
  -- the digits are those of the planner's answer
  pub digits : Wrote r old new (written (kinds_of p.session.kinds) (responded_on kinds_of means_of p call).0)
  -- the law holds, whatever history led to the state before
  pub law : (h : History) → Reached (kinds_of p.session.kinds) (means_in kinds_of means_of p.session) h (state_of p) → GoesOn (kinds_of p.session.kinds) (means_in kinds_of means_of p.session) h (state_of p) call (state_of q)
  -- a buffer with the room of the longest call has room for every answer
  pub capacity : vec_capacity old ≤ vec_capacity new
  pub room : (h : History) → Reached (kinds_of p.session.kinds) (means_in kinds_of means_of p.session) h (state_of p) → longest (kinds_of p.session.kinds) ≤ vec_capacity old → is_ok r ≡ true
  -- it works with the same kinds, encodings, bank and matcher
  pub session : q.session ≡ p.session
