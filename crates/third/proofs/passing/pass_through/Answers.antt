use Rattle.third.proofs.PassedOn.{passed_on}
use Rattle.third.proofs.passing.pass_through.Goals as goal

pub returns : goal.returns
returns g c =
    passed_on c.args.network.now c.post.new.self c.take_out.new.network c.args.memory.now c.post.new.memory c.take_out.new.memory c.args.message c.take_out.result
    c.in_ok-post.ensures c.take_out.ensures
