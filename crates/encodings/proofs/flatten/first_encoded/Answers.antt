use Rattle.std.proofs.Common.{◌≡◌, ℕ, ◌<◌, length, Some, sym, ◌∙◌, rules, tests}
use Rattle.std.proofs.iter.runs.Made.{chains}
use Rattle.std.proofs.lemmas.Iterator.{YieldsList-from_slice}
use Rattle.std.proofs.lemmas.Iterator.Adapters.{serves_from_places, position_from-zero}
use Rattle.std.proofs.lemmas.Iterator.Search.{position_from_yields_List}
use Rattle.pool.specs.Seen.{memory_of}
use Rattle.encodings.proofs.Fillings.{encoded, slot_named, first_encoded_is}
use Rattle.encodings.proofs.flatten.first_encoded.Goals as goal

pub position-requires-clause-callable : goal.position-requires-clause-callable
position-requires-clause-callable c =
    serves_from_places (YieldsList-from_slice c.args.slots (search rules)) (λ x q r. search (rules, tests))
    (λ x k a b. let l : (y : ℕ) → x.now ≡ Some y → y < length c.args.pool.now.nodes.now = λ y e. c.requires y (slot_named c.args.slots k x.now a b y e) in search rules)

pub returns : goal.returns
returns c =
    let cast : c.map.result ≡ c.position.result = search (rules, chains) in
    cast
    ∙ position_from_yields_List (encoded (memory_of c.args.pool.now)) _ _ c.position.result c.position.ensures.ran (YieldsList-from_slice c.args.slots (search rules)) (λ x b q k. search (rules, tests))
    ∙ position_from-zero (encoded (memory_of c.args.pool.now)) c.args.slots
    ∙ sym (first_encoded_is (memory_of c.args.pool.now) c.args.slots 0)
