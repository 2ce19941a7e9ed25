-- What a planner is asked for when the arrays under its roots are stepped.
use Rattle.std.specs.Prelude.{ℕ, Ok, Err, Result}
use Rattle.rows.specs.Kind.{Kinds}
use Rattle.encodings.specs.declared.step.ExecutionStep.{ExecutionStep}
use Rattle.encodings.specs.declared.step.ExecutionStep.TheVariants.{ExecuteSlot, AppendChild, Done}
use Rattle.encodings.specs.declared.step.StepFault.{StepFault}
use Rattle.encodings.specs.Meaning.{Encodings}
use Rattle.planner.specs.declared.planner.Planner.{Planner}
use Rattle.planner.specs.Law.{History, Reached}
use Rattle.planner.specs.Seen.{state_of, means_in}

-- some history led to the planner's state
abbrev pub Led : {K E B M : Type 0} → (K → Kinds) → (E → Kinds → Encodings) → Planner K E B M → Type 0
Led kinds_of means_of p = (h : History) × Reached (kinds_of p.session.kinds) (means_in kinds_of means_of p.session) h (state_of p)

-- what the holder of k has once a step of it is answered so
abbrev pub held_after : ℕ → Result ExecutionStep StepFault → ℕ
held_after k (Ok (ExecuteSlot x t)) = k
held_after k (Ok (AppendChild x)) = k
held_after k (Ok (Done j)) = j
held_after k (Err e) = k
