use Rattle.std.proofs.Common.{rules}
use Rattle.planner.specs.Contract.{shape_in}
use Rattle.planner.specs.Seen.{state_of}
use Rattle.planner.proofs.Arrays.{mapped}
use Rattle.planner.proofs.planner.Planner.shapes.Goals as goal

pub returns : goal.returns
returns g c = mapped _ (shape_in (state_of c.args.self.now).memory) _ (λ x y q k. search rules) c.args.slots c.map.result 8 (search rules) c.map.ensures.items
