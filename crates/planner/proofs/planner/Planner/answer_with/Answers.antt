use Rattle.std.proofs.Common.{rules, ◌≡◌, ap, refl, ◌∙◌}
use Rattle.planner.specs.declared.planner.Planner.{Planner}
use Rattle.planner.specs.declared.session.Session.{Session}
use Rattle.planner.specs.Calls.{told}
use Rattle.planner.specs.Contract.{outcome}
use Rattle.planner.specs.Seen.{called_on}
use Rattle.planner.proofs.Outcomes.{answers_called}
use Rattle.planner.proofs.planner.Planner.answer_with.Goals as goal
use Rattle.planner.proofs.planner.Planner.answer_with.Goals.{in-Make, in-Assemble, in-Share, in-Release}

pub returns-in-Read-clause-handed : goal.returns-in-Read-clause-handed
returns-in-Read-clause-handed g c = (_, _, _, _, refl, search rules, refl, refl, c.hand.ensures)

pub returns-clause-handed : goal.returns-clause-handed
returns-clause-handed g c =
    let kept : c.match-call.self.session ≡ c.args.self.now.session
    = elim c.match-call.branch [
      | in-Make w ↦ ap (λ (p : Planner _ _ _ _). p.session) w.self-is ∙ w.make-res.ensures.session
      | in-Assemble w ↦ ap (λ (p : Planner _ _ _ _). p.session) w.self-is ∙ w.assemble-res.ensures.session
      | in-Share w ↦ ap (λ (p : Planner _ _ _ _). p.session) w.self-is ∙ w.share-res.ensures.session
      | in-Release w ↦ ap (λ (p : Planner _ _ _ _). p.session) w.self-is ∙ w.release-res.ensures.session
    ] in
    let said_so : outcome c.match-call.res ≡ (called_on g.K.RowKinds.kinds g.E.Encoding.means c.args.self.now (told c.args.call)).0
    = elim c.match-call.branch [ in-Make w ↦ search rules | in-Assemble w ↦ search rules | in-Share w ↦ search rules | in-Release w ↦ search rules ] in
    (_, _, _, _, ap (λ (x : Session _ _ _ _). x.kinds) kept, c.answer.ensures ∙ said_so, refl, refl, c.hand-2.ensures)

pub returns-clause-answers : goal.returns-clause-answers
returns-clause-answers g c =
    elim c.match-call.branch [
      | in-Make w ↦ search (rules, answers_called)
      | in-Assemble w ↦ search (rules, answers_called)
      | in-Share w ↦ search (rules, answers_called)
      | in-Release w ↦ search (rules, answers_called)
    ]
