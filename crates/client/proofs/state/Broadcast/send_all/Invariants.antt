use Rattle.std.proofs.Common.{Some}
use Rattle.network.specs.Queues.{Sent}
use Rattle.client.specs.Showing.{messages_of}
use Rattle.client.proofs.state.Broadcast.send_all.Given as goal

abbrev pub invariant-loop-server : goal.invariant-loop-server
invariant-loop-server g l =
    Sent l.initial.network l.initial.memory (messages_of l.server l.client (Some l.self)) l.network l.memory
