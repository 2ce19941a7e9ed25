-- The state of a planner, and what each of its public calls promises.
use Rattle.std.specs.Prelude.{◌≡◌, List, []}
use Rattle.rows.specs.Kind.{Kinds}
use Rattle.encodings.specs.Meaning.{Encodings}
use Rattle.planner.specs.declared.planner.Planner.{Planner}
use Rattle.planner.specs.declared.session.Session.{Session}
use Rattle.planner.specs.Calls.{Told, Said}
use Rattle.planner.specs.Called.{State, called}
use Rattle.planner.specs.Contract.{Does, played}
use Rattle.planner.specs.Law.{History}

abbrev pub state_of : {K E B M : Type 0} → Planner K E B M → State
state_of p = record { memory = record { nodes = p.pool.nodes.now; words = p.pool.words.now }; roots = p.roots }

-- what the encodings of a session mean, over its kinds
abbrev pub means_in : {K E B M : Type 0} → (K → Kinds) → (E → Kinds → Encodings) → Session K E B M → Encodings
means_in kinds_of means_of x = means_of x.encodings (kinds_of x.kinds)

-- what the planner p answers to the call c, and the state that it leaves
abbrev pub called_on : {K E B M : Type 0} → (K → Kinds) → (E → Kinds → Encodings) → Planner K E B M → Told → Said × State
called_on kinds_of means_of p c = called (kinds_of p.session.kinds) (means_in kinds_of means_of p.session) (state_of p) c

-- the history of a list of calls on a new planner with the session x
abbrev pub played_in : {K E B M : Type 0} → (K → Kinds) → (E → Kinds → Encodings) → Session K E B M → List Told → History
played_in kinds_of means_of x cs = played (kinds_of x.kinds) (means_in kinds_of means_of x) [] cs

-- The planner p was given the call c, answered a, and is now q: the call did what it promises, over the meaning of the
-- kinds and encodings of its session, and q has the same session.
pub record Answers {K E B M : Type 0} (kinds_of : K → Kinds) (means_of : E → Kinds → Encodings) (p q : Planner K E B M) (c : Told) (a : Said) : Type 0 where
  pub does : Does (kinds_of p.session.kinds) (means_in kinds_of means_of p.session) (state_of p) c a (state_of q)
  pub session : q.session ≡ p.session
