use Rattle.std.proofs.Common.{◌∙◌, rules, tests}
use Rattle.std.proofs.lemmas.Iterator.{YieldsList-from_slice, YieldsList-from_take}
use Rattle.std.proofs.lemmas.Iterator.Consumers.{YieldsList-at}
use Rattle.std.proofs.lemmas.Iterator.Search.{any_from_yields_List}
use Rattle.encodings.specs.Rows.{slots_of}
use Rattle.encodings.proofs.Fillings.{absent, gaps_any}
use Rattle.encodings.proofs.flatten.has_gap.Goals as goal

pub returns : goal.returns
returns c =
    any_from_yields_List absent _ _ c.any.result c.any.ensures.ran
    (YieldsList-from_take c.args.node.now.arity (YieldsList-at c.take.ensures.source (YieldsList-from_slice c.args.node.now.slots (search rules))) (search rules))
    (λ x b q k. search (rules, tests))
    ∙ gaps_any (slots_of c.args.node.now)
