use Rattle.std.proofs.Common.{◌∙◌}
use Rattle.network.proofs.Closing.{closes_up}
use Rattle.network.proofs.queue.close_up.Goals as goal

pub returns : goal.returns
returns g c = c.copy_within.ensures.after ∙ closes_up c.args.memory.now c.args.place c.args.len c.requires.0
