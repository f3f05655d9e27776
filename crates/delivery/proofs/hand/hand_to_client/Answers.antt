use Rattle.std.proofs.Common.{ℕ, ◌≤◌, length, Option, subst}
use Rattle.calls.specs.Answers.{answer_of}
use Rattle.calls.specs.declared.Answer.{Answer}
use Rattle.protocol.specs.Settings.{setting_of}
use Rattle.client.specs.Showing.{messages_of}
use Rattle.client.specs.declared.state.Broadcast.{Broadcast}
use Rattle.delivery.specs.Handing.{room_without, Replaced}
use Rattle.delivery.proofs.Settling.{client_full, client_fits}
use Rattle.delivery.proofs.hand.hand_to_client.Goals as goal

pub returns-in-Ok : goal.returns-in-Ok
returns-in-Ok g c m place within is =
    let q = c.args.system.now in
    let K = setting_of g.Q.QuorumSystem g.S.Timestamp g.V.Value q 0 0 0 in
    let net = c.args.network.now in
    let memory = c.args.messages.now in
    let given : Answer g.row.S.Denot g.row.V.Denot × Option (Broadcast g.row.S.Denot g.row.V.Denot) = (c.in-Ok.answer, c.in-Ok.broadcast) in
    let u = c.args.message.client in
    let P : ℕ → Type 0 = λ n. length (messages_of n u given.1) ≤ room_without net → Replaced net memory place (messages_of n u given.1) c.settle_and_send.new.network c.settle_and_send.new.messages in
    client_fits K m c.args.clients.now c.args.reports.now net memory c.args.message c.args.kind place c.requires.fits is
    c.room_without-room.result given c.attend.new.clients c.attend.new.reports c.settle_and_send.new.network c.settle_and_send.new.messages
    c.room_without-room.ensures (c.in-Ok.ensures.attended m within) (c.in-Ok.ensures.kept m within) (subst P c.servers.ensures (c.settle_and_send.ensures place is))

pub returns-in-Err : goal.returns-in-Err
returns-in-Err g c m place within is =
    let q = c.args.system.now in
    let K = setting_of g.Q.QuorumSystem g.S.Timestamp g.V.Value q 0 0 0 in
    client_full K m c.args.clients.now c.args.reports.now c.args.network.now c.args.messages.now c.args.message c.args.kind place c.requires.fits is
    c.room_without-room.result c.in-Err.refusal (answer_of c.refuse.result) c.attend.new.clients c.attend.new.reports c.refuse.new.network
    c.room_without-room.ensures (c.in-Err.ensures.attended m within) c.refuse.ensures.answer c.refuse.ensures.network
