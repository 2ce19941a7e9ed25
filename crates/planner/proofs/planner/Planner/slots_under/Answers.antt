use Rattle.std.proofs.Common.{ℕ, List, Err, sym, refl, ap, ◌∙◌, arith}
use Rattle.std.proofs.lemmas.List.{take_all}
use Rattle.std.proofs.lemmas.Result.{err_from_is_err_and}
use Rattle.planner.specs.Called.{slots_under}
use Rattle.planner.specs.Seen.{state_of}
use Rattle.planner.proofs.Taking.{slots_more, slots_none}
use Rattle.planner.proofs.planner.Planner.slots_under.Goals as goal

pub loop-slot-init : goal.loop-slot-init
loop-slot-init g c = refl

pub returns-in_err-held : goal.returns-in_err-held
returns-in_err-held g c =
    let p = err_from_is_err_and c.from_residual.result c.from_residual.ensures.1 in
    p.1 ∙ ap (λ x. Err x) p.2
    ∙ slots_none (state_of c.args.self.now) c.args.roots.now c.requires.exist c.loop-slot.slot c.in_err-held.field-0.0 c.loop-slot-test.true (sym c.in_err-held.was ∙ c.held.ensures)

pub loop-slot-preserved : goal.loop-slot-preserved
loop-slot-preserved g c =
    slots_more (state_of c.args.self.now) c.args.roots.now c.requires.few c.loop-slot.slot c.in_ok-held.field-0 c.loop-slot.slots c.loop-slot-test.true c.loop-slot.invariant (sym c.in_ok-held.was ∙ c.held.ensures)

pub returns : goal.returns
returns g c =
    sym c.loop-slot.invariant
    ∙ ap (λ (l : List ℕ). slots_under (state_of c.args.self.now) l) (take_all c.loop-slot.slot c.args.roots.now (omega arith))
