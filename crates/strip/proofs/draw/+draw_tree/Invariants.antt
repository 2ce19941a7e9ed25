use Rattle.std.proofs.Common.{◌-◌}
use Rattle.strip.proofs.draw.+draw_tree.Given as goal

-- how many levels there may be below
abbrev pub decreases-draw_tree : goal.decreases-draw_tree
decreases-draw_tree c = 33 - c.depth
