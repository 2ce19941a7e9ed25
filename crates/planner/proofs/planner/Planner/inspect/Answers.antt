use Rattle.std.proofs.Common.{rules, ◌≡◌, is_some, ◌∙◌}
use Rattle.std.proofs.iter.runs.Made.{chains}
use Rattle.std.specs.Prelude.{count_by}
use Rattle.planner.proofs.Counting.{used_counted}
use Rattle.planner.proofs.Histories.{history_law}
use Rattle.planner.proofs.planner.Planner.inspect.Goals as goal

pub returns-clause-roots : goal.returns-clause-roots
returns-clause-roots g c =
    let counted : c.count.result ≡ count_by is_some c.args.self.now.roots = search (rules, chains) in
    counted ∙ used_counted c.args.self.now.roots

pub returns-clause-law : goal.returns-clause-law
returns-clause-law g c = λ h r. (history_law _ (g.met.K.RowKinds.lawful _) _ (g.met.E.EncodingSet.complete _ _) h r.answered).1
