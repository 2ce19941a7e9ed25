use Rattle.std.proofs.Common.{◌≡◌, ◌*◌, ◌++◌, take, drop}
use Rattle.std.specs.Option.{option_map}
use Rattle.lines.specs.Text.{decoded}
use Rattle.lines.proofs.text.decode.Given as goal

abbrev pub invariant-loop-i : goal.invariant-loop-i
invariant-loop-i l = option_map (λ ys. take l.i l.line ++ ys) (decoded (drop (2 * l.i) l.line)) ≡ decoded l.initial.line
