use Rattle.std.proofs.Common.{◌≡◌, List, ◌++◌, map, take}
use Rattle.planner.specs.Calls.{Said, told}
use Rattle.planner.specs.Contract.{answers}
use Rattle.planner.specs.Law.{state_after}
use Rattle.planner.specs.Seen.{state_of, played_in}
use Rattle.planner.proofs.replay.replay.Given as goal

abbrev pub invariant-loop-call : goal.invariant-loop-call
invariant-loop-call g l =
    let h = played_in g.K.RowKinds.kinds g.E.Encoding.means l.initial.planner.session (map told (take l.call-index l.calls)) in
    ((before : List Said) → g.L.Listener.hears l.initial.listener before → g.L.Listener.hears l.listener (before ++ answers h))
    × (state_of l.planner ≡ state_after h)
    × (l.planner.session ≡ l.initial.planner.session)
