use Rattle.std.proofs.Common.{◌≡◌, ℕ, List, [], ◌∷◌, is_some, Some, None, Option, refl, ◌∙◌, rules, tests}
use Rattle.std.specs.List.{list_all}
use Rattle.std.proofs.lemmas.Iterator.{YieldsList-from_slice, YieldsList-from_take}
use Rattle.std.proofs.lemmas.Iterator.Consumers.{YieldsList-at}
use Rattle.std.proofs.lemmas.Iterator.Search.{all_from_yields_List}
use Rattle.encodings.specs.Meaning.{no_gap}
use Rattle.encodings.specs.Rows.{slots_of}
use Rattle.trials.proofs.stack.all_present.Goals as goal

all_some : (ss : List (Option ℕ)) → list_all is_some ss ≡ no_gap ss
all_some [] = refl
all_some (None ∷ ss) = refl
all_some (Some c ∷ ss) = all_some ss

pub returns : goal.returns
returns c =
    all_from_yields_List is_some _ _ c.all.result c.all.ensures.ran
    (YieldsList-from_take c.args.node.now.arity (YieldsList-at c.take.ensures.source (YieldsList-from_slice c.args.node.now.slots (search rules))) (search rules))
    (λ x b q k. search (rules, tests))
    ∙ all_some (slots_of c.args.node.now)
