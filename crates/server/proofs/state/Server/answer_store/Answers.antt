use Rattle.std.proofs.Common.{[], ◌∷◌, length, ap, ◌∙◌, subst, arith}
use Rattle.network.specs.Queues.{Sent}
use Rattle.network.specs.declared.message.Message.{Message}
use Rattle.network.proofs.Sending.{sent_then, room_after}
use Rattle.network.specs.declared.message.Kind.TheVariants.{Ack}
use Rattle.server.specs.Serving.{reply, passed_on}
use Rattle.server.proofs.Passing.{room_fewer, passed_count}
use Rattle.server.specs.Receiving.{listener_in}
use Rattle.server.proofs.state.Server.answer_store.Goals as goal

pub pass_on-requires : goal.pass_on-requires
pass_on-requires g c =
    let row = c.args.arrival.now.listeners.now in
    let count = passed_count g.S.Timestamp.above c.args.arrival.now.message.now (listener_in g.S.Timestamp.lowest row) (length row) in
    room_after c.args.network.now c.send.new.network c.args.memory.now c.send.new.memory (c.reply.result ∷ []) _ c.send.ensures
    (room_fewer c.args.network.now (length c.args.memory.now) _ _ (omega (arith, count)) c.requires)

pub returns : goal.returns
returns g c =
    let row = c.args.arrival.now.listeners.now in
    let on = passed_on g.S.Timestamp.above c.args.arrival.now.message.now (listener_in g.S.Timestamp.lowest row) (length row) in
    let P : Message g.row.S.Denot g.row.V.Denot → Type 0 = λ m. Sent c.args.network.now c.args.memory.now (m ∷ on) c.pass_on.new.network c.pass_on.new.memory in
    record {
      state_after = c.hold.ensures row;
      sent_after =
          subst P (c.reply.ensures ∙ ap (reply c.args.arrival.now.message.now Ack c.args.arrival.now.message.now.timestamp) c.initial.ensures)
          (sent_then c.args.network.now c.send.new.network c.pass_on.new.network c.args.memory.now c.send.new.memory c.pass_on.new.memory
          (c.reply.result ∷ []) on c.send.ensures c.pass_on.ensures);
    }
