use Rattle.std.proofs.Common.{◌+◌, [], ◌∷◌, length, Some, add-one, arith}
use Rattle.network.specs.Queues.{Room}
use Rattle.network.proofs.Sending.{posted_sent, sent_then, room_after}
use Rattle.client.specs.Showing.{messages_of}
use Rattle.client.proofs.Weighing.{length-messages}
use Rattle.client.proofs.state.Broadcast.send_all.Goals as goal

pub loop-server-preserved : goal.loop-server-preserved
loop-server-preserved g c =
    let i = c.loop-server.server in
    let sent = messages_of i c.args.client (Some c.args.self) in
    let before = c.args.network.now in
    let memory = c.args.memory.now in
    let few : Room before (length memory) (length sent + 1) = record {
      sizes = c.requires.sizes;
      none_lifted = c.requires.none_lifted;
      left = omega (arith, c.requires.left, length-messages i c.args.client (Some c.args.self));
    } in
    let room = room_after before c.loop-server.network memory c.loop-server.memory sent 1 c.loop-server.invariant few in
    let one = posted_sent c.loop-server.network c.post.new.self c.loop-server.memory c.post.new.memory c.message_for.result c.post.result room c.post.ensures in
    rw (add-one i, ← c.message_for.ensures)
    (sent_then before c.loop-server.network c.post.new.self memory c.loop-server.memory c.post.new.memory sent (c.message_for.result ∷ []) c.loop-server.invariant one)
