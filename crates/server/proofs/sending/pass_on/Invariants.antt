use Rattle.network.specs.Queues.{Sent}
use Rattle.server.specs.Serving.{passed_on}
use Rattle.server.specs.Receiving.{listener_in}
use Rattle.server.proofs.sending.pass_on.Given as goal

abbrev pub invariant-loop-client : goal.invariant-loop-client
invariant-loop-client g l =
    Sent l.initial.network l.initial.memory (passed_on g.S.Timestamp.above l.arrival.message.now (listener_in g.S.Timestamp.lowest l.arrival.listeners.now) l.client) l.network l.memory
