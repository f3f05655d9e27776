use Rattle.delivery.proofs.Settling.{served_on}
use Rattle.delivery.proofs.hand.settle_and_serve.Goals as goal

pub returns : goal.returns
returns g c n within =
    served_on g.S.Timestamp.above g.S.Timestamp.lowest g.V.Value.initial_value n c.args.clients c.args.faulty c.args.servers.now c.args.listeners.now c.args.network.now c.args.messages.now c.args.message c.requires.fits
    c.settle.new.self c.serve.new.network c.settle.new.memory c.serve.new.memory c.serve.result c.serve.new.servers c.serve.new.listeners
    c.requires.few c.requires.client c.settle.ensures.network c.settle.ensures.memory (c.serve.ensures.served n within) (c.serve.ensures.kept n within)
