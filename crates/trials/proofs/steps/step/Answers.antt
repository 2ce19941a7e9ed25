use Rattle.std.proofs.Common.{ℕ, List, set, Some, Option, sym, ◌∙◌, subst}
use Rattle.pool.specs.Seen.{memory_of}
use Rattle.planner.specs.Seen.{state_of}
use Rattle.planner.proofs.Invariant.{Ghosts}
use Rattle.trials.proofs.Stepping.{taken, stands, stepped_ghosts}
use Rattle.trials.proofs.steps.step.Goals as goal

pub execute-answer-requires-clause-held : goal.execute-answer-requires-clause-held
execute-answer-requires-clause-held g c =
    taken _ _ (g.met.K.RowKinds.lawful _) (g.met.E.EncodingSet.complete _ _) (state_of c.args.planner.now) c.requires.led c.args.root c.unwrap-array.result
    (sym c.take.ensures.value ∙ c.unwrap-array.ensures)

pub execute-answer-requires-clause-stands : goal.execute-answer-requires-clause-stands
execute-answer-requires-clause-stands g c =
    stands _ _ (g.met.K.RowKinds.lawful _) (g.met.E.EncodingSet.complete _ _) (state_of c.args.planner.now) c.requires.led c.args.root c.unwrap-array.result
    (sym c.take.ensures.value ∙ c.unwrap-array.ensures)

pub invariant_of-planner : goal.invariant_of-planner
invariant_of-planner g c =
    subst (λ (rs : List (Option ℕ)). Ghosts (memory_of c.execute-answer.new.pool) rs)
    (λ i. set (set c.args.planner.now.roots c.args.root (sym c.take.ensures.after i)) c.args.root (Some (sym c.held_after.ensures i)))
    (stepped_ghosts _ _ (g.met.K.RowKinds.lawful _) (g.met.E.EncodingSet.complete _ _) (state_of c.args.planner.now) c.requires.led c.args.root c.unwrap-array.result
    (sym c.take.ensures.value ∙ c.unwrap-array.ensures)
    (g.E.Encoding.steps c.args.planner.now.session.encodings (g.K.RowKinds.kinds c.args.planner.now.session.kinds))
    (g.met.E.Encoding.keeps _ _ (g.met.K.RowKinds.lawful _))
    c.execute-answer.result (memory_of c.execute-answer.new.pool) c.execute-answer.ensures)
