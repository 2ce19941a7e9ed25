use Rattle.std.proofs.Common.{◌≡◌, ◌≤◌, ◌++◌, take, vec_items, vec_capacity}
use Rattle.lines.specs.Text.{spelled}
use Rattle.lines.proofs.text.push_bytes.Given as goal

abbrev pub invariant-loop-byte : goal.invariant-loop-byte
invariant-loop-byte l = (vec_items l.out ≡ vec_items l.initial.out ++ spelled (take l.byte-index l.bytes)) × (vec_capacity l.initial.out ≤ vec_capacity l.out)
