use Rattle.trials.specs.Wides.{wide_taken}
use Rattle.trials.proofs.fill.fill_wide.Goals as goal

pub fill-requires : goal.fill-requires
fill-requires c = record { few = c.requires.few; whole = c.requires.whole; taken = wide_taken c.args.given.now }
