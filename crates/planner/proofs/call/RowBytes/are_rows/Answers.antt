use Rattle.std.proofs.Common.{rules, tests, ℕ, List, drop, is_some, sym, refl, ap, ◌∙◌, zero-mul, arith}
use Rattle.std.proofs.lemmas.Iterator.{YieldsList-from_range}
use Rattle.std.proofs.lemmas.Iterator.Search.{all_from_yields_List}
use Rattle.rows.specs.Kind.{Kind}
use Rattle.planner.specs.Called.{parsed_row, parsed_rows}
use Rattle.planner.proofs.Making.{rows_are}
use Rattle.planner.proofs.Parsing.{parsed_all}
use Rattle.planner.proofs.call.RowBytes.are_rows.Goals as goal

pub returns-then-is_in_range : goal.returns-then-is_in_range
returns-then-is_in_range g c =
    let kd : Kind = (g.K.RowKinds.kinds c.args.kinds.now).kind c.args.self.now.kind in
    let n : ℕ = c.args.self.now.len in
    let bs : List ℕ = c.args.self.now.bytes.now in
    all_from_yields_List (λ k. is_some (parsed_row kd bs k)) _ _ c.all.result c.all.ensures.ran (YieldsList-from_range 0 n n refl (omega arith)) (λ x b q k. search (rules, tests))
    ∙ parsed_all kd n bs 0 ∙ ap (λ (x : ℕ). is_some (parsed_rows kd n (drop x bs))) (zero-mul kd.width)
    ∙ sym (ap (λ o. is_some o) (rows_are (g.K.RowKinds.kinds c.args.kinds.now) c.args.self.now.kind n bs (sym c.is_in_range.ensures ∙ c.if-is_in_range.true)))
