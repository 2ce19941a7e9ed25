use Rattle.std.proofs.Common.{refl, rules}
use Rattle.planner.specs.Seen.{means_in}
use Rattle.planner.proofs.Histories.{history_law}
use Rattle.lines.proofs.respond.respond.Goals as goal

pub returns-in-None : goal.returns-in-None
returns-in-None g c =
    let planner = c.args.planner.now in
    rw (← c.in-None.ensures) (record {
      state = search rules;
      digits = search rules;
      law = λ h r. (r, (history_law (g.K.RowKinds.kinds planner.session.kinds) (g.met.K.RowKinds.lawful _) (means_in g.K.RowKinds.kinds g.E.Encoding.means planner.session) (g.met.E.EncodingSet.complete _ _) h r.answered).1);
      capacity = search rules;
      room = search rules;
      session = refl;
    })
