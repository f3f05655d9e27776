use Rattle.std.proofs.Common.{◌≡◌, ◌<◌, ◌≤◌, arith}
use Rattle.calls.specs.Answers.{answer_of}
use Rattle.delivery.specs.Handing.{room_without}
use Rattle.delivery.proofs.Settling.{server_full, server_fits}
use Rattle.delivery.proofs.hand.hand_to_server.Goals as goal

pub returns-then-sending-room : goal.returns-then-sending-room
returns-then-sending-room g c n place within is =
    let net = c.args.network.now in
    let room : c.room_without-room.result ≡ room_without net = c.room_without-room.ensures in
    let many : room_without net < c.count_replies-sending.result = omega (arith, room, c.if-sending-room.true) in
    server_full g.S.Timestamp.above g.S.Timestamp.lowest g.V.Value.initial_value n c.args.clients c.args.faulty c.args.servers.now c.args.listeners.now net c.args.messages.now c.args.message c.requires.fits
    place c.count_replies-sending.result (answer_of c.refuse.result) c.refuse.new.network is (c.count_replies-sending.ensures n within) many c.refuse.ensures.answer c.refuse.ensures.network

pub returns : goal.returns
returns g c n place within is =
    let net = c.args.network.now in
    let room : c.room_without-room.result ≡ room_without net = c.room_without-room.ensures in
    let few : c.count_replies-sending.result ≤ room_without net = omega (arith, room, c.if-sending-room.false) in
    server_fits g.S.Timestamp.above g.S.Timestamp.lowest g.V.Value.initial_value n c.args.clients c.args.faulty c.args.servers.now c.args.listeners.now net c.args.messages.now c.args.message c.requires.fits
    place c.count_replies-sending.result c.settle_and_serve.new.servers c.settle_and_serve.new.listeners c.settle_and_serve.new.network c.settle_and_serve.new.messages
    is (c.count_replies-sending.ensures n within) few (c.settle_and_serve.ensures n within)
