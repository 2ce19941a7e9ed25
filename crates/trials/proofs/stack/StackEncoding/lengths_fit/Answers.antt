use Rattle.std.proofs.Common.{◌≡◌, eqb, ap₂, ◌∙◌, rules}
use Rattle.std.specs.List.{sum_by}
use Rattle.std.proofs.lemmas.Iterator.{YieldsList-from_slice, YieldsList-from_map}
use Rattle.std.proofs.lemmas.Iterator.Consumers.{YieldsList-at, sum_by_from_yields_List}
use Rattle.encodings.specs.declared.fields.Shape.{Shape}
use Rattle.encodings.proofs.Chunked.{lengths_summed}
use Rattle.trials.proofs.stack.StackEncoding.lengths_fit.Goals as goal

pub returns : goal.returns
returns g c =
    let sum : c.sum.result ≡ sum_by (λ (h : Shape). h.len) c.args.shapes.now
    = sum_by_from_yields_List (λ (h : Shape). h.len) c.args.shapes.now c.map.result c.sum.result c.sum.ensures.ran
    (YieldsList-from_map _ (λ (h : Shape). h.len) (YieldsList-at c.map.ensures.source (YieldsList-from_slice c.args.shapes.now (search rules))) c.map.ensures.closure (λ x r q k. search rules)) in
    ap₂ eqb (sum ∙ lengths_summed c.args.shapes.now) (search rules)
