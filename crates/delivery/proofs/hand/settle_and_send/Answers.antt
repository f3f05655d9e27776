use Rattle.std.proofs.Common.{◌≤◌, length, None, Some, Option, sym, subst}
use Rattle.client.specs.Showing.{messages_of}
use Rattle.client.specs.declared.state.Broadcast.{Broadcast}
use Rattle.delivery.specs.Handing.{room_without, Replaced}
use Rattle.delivery.proofs.Queues.{sent_none, dispatched_sent}
use Rattle.delivery.proofs.Settling.{sent_on}
use Rattle.delivery.proofs.hand.settle_and_send.Goals as goal

pub returns-in-Some : goal.returns-in-Some
returns-in-Some g c place is =
    let n = c.args.n in
    let client = c.args.client in
    let P : Option (Broadcast g.row.S.Denot g.row.V.Denot) → Type 0 = λ x. length (messages_of n client x) ≤ room_without c.args.network.now
    → Replaced c.args.network.now c.args.messages.now place (messages_of n client x) c.send.new.network c.send.new.memory in
    subst P (sym c.in-Some.is)
    (sent_on n client (Some c.in-Some.broadcast) c.args.network.now c.settle.new.self c.send.new.network c.args.messages.now c.settle.new.memory c.send.new.memory
    place c.requires.fits c.settle.ensures.network c.settle.ensures.memory
    (λ room. dispatched_sent n client c.in-Some.broadcast c.settle.new.self c.send.new.network c.settle.new.memory c.send.new.memory c.send.result room c.send.ensures) is)

pub returns-in_default : goal.returns-in_default
returns-in_default g c place is =
    let n = c.args.n in
    let client = c.args.client in
    let P : Option (Broadcast g.row.S.Denot g.row.V.Denot) → Type 0 = λ x. length (messages_of n client x) ≤ room_without c.args.network.now
    → Replaced c.args.network.now c.args.messages.now place (messages_of n client x) c.settle.new.self c.settle.new.memory in
    subst P (sym c.in_default.is)
    (sent_on n client None c.args.network.now c.settle.new.self c.settle.new.self c.args.messages.now c.settle.new.memory c.settle.new.memory
    place c.requires.fits c.settle.ensures.network c.settle.ensures.memory (λ room. sent_none c.settle.new.self c.settle.new.memory) is)
