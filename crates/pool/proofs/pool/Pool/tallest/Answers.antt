use Rattle.std.proofs.Common.{ℕ, Option, unwrap_or, ap, ◌∙◌, sym, rules}
use Rattle.std.proofs.lemmas.Iterator.{YieldsList-from_map}
use Rattle.std.proofs.lemmas.Iterator.Adapters.{serves_from_places, option_map_id}
use Rattle.std.proofs.lemmas.Iterator.Consumers.{YieldsList-at, max_from_yields_List}
use Rattle.pool.specs.Memory.{height_at}
use Rattle.pool.proofs.Naming.{names_given, times_at, tallest_named}
use Rattle.pool.proofs.pool.Pool.tallest.Goals as goal

pub max-requires-clause-can : goal.max-requires-clause-can
max-requires-clause-can c = (
  search rules,
  serves_from_places (names_given c.args.slots (search rules) (search rules) (λ x r q k. search rules)) (λ x q r. search rules)
      (λ x k a b. let l = c.requires x (times_at _ k x a b) in search rules),
)

pub returns : goal.returns
returns c =
    let h : ℕ → ℕ = height_at c.args.self.now.nodes.now in
    c.unwrap_or.ensures
    ∙ ap (λ (o : Option ℕ). unwrap_or o 0)
    (sym (option_map_id c.max.result)
    ∙ max_from_yields_List c.map.result c.max.result c.max.ensures.ran
    (YieldsList-from_map _ h (YieldsList-at c.map.ensures.source (names_given c.args.slots (search rules) (search rules) (λ x r q k. search rules))) c.map.ensures.closure (λ x r q k. search rules)))
    ∙ tallest_named c.args.self.now.nodes.now c.args.slots
