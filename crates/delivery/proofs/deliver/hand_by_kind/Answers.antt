use Rattle.std.proofs.Common.{◌≡◌, Bool, true, false, sym, refl, subst}
use Rattle.calls.specs.Answers.{answer_of}
use Rattle.protocol.specs.Settings.{setting_of}
use Rattle.protocol.specs.Protocol.{from_server}
use Rattle.delivery.specs.Memory.{contents, sizes_of}
use Rattle.delivery.specs.Handing.{ToServer}
use Rattle.delivery.proofs.Limits.{limits, server_there, row_there, client_there, part_there}
use Rattle.delivery.proofs.Handing.{client_handed, server_handed}
use Rattle.delivery.proofs.deliver.hand_by_kind.Goals as goal

pub hand_to_client-requires : goal.hand_to_client-requires
hand_to_client-requires g c =
    let n = g.Q.QuorumSystem.size c.args.system.now in
    let net = c.args.network.now in
    let sizes = sizes_of (contents c.args.memory.now) in
    record {
      client = client_there n c.args.m net.capacity net.len sizes c.requires.enough c.args.message.client c.requires.client;
      server = c.requires.server;
      part = part_there n c.args.m net.capacity net.len sizes c.requires.enough c.args.message.client c.requires.client;
      fits = c.requires.fits;
    }

pub returns-then-is_from_server-clause-handed : goal.returns-then-is_from_server-clause-handed
returns-then-is_from_server-clause-handed g c place is =
    let q = c.args.system.now in
    let net = c.args.network.now in
    let K = setting_of g.Q.QuorumSystem g.S.Timestamp g.V.Value q c.args.m net.capacity 4294967295 in
    let comes : from_server c.args.kind ≡ true = sym c.if-is_from_server.ensures in
    client_handed K c.args.faulty c.args.memory.now.servers.now c.args.memory.now.clients.now c.args.memory.now.listeners.now c.args.memory.now.messages.now c.args.memory.now.reports.now net c.args.message c.args.kind place
    c.requires.fits is refl c.requires.enough
    (answer_of c.hand_to_client.result) c.hand_to_client.new.clients c.hand_to_client.new.reports c.hand_to_client.new.network c.hand_to_client.new.messages
    comes c.requires.client c.requires.named (c.hand_to_client.ensures c.args.m place c.requires.client is)

pub hand_to_server-requires : goal.hand_to_server-requires
hand_to_server-requires g c =
    let n = g.Q.QuorumSystem.size c.args.system.now in
    let net = c.args.network.now in
    let sizes = sizes_of (contents c.args.memory.now) in
    record {
      within = server_there n c.args.m net.capacity net.len sizes c.requires.enough c.args.message.server c.requires.server;
      row = row_there n c.args.m net.capacity net.len sizes c.requires.enough c.args.message.server c.requires.server;
      few = (limits n c.args.m net.capacity net.len sizes c.requires.enough).few;
      client = c.requires.client;
      fits = c.requires.fits;
    }

pub returns-clause-handed : goal.returns-clause-handed
returns-clause-handed g c place is =
    let q = c.args.system.now in
    let net = c.args.network.now in
    let K = setting_of g.Q.QuorumSystem g.S.Timestamp g.V.Value q c.args.m net.capacity 4294967295 in
    let ss = c.args.memory.now.servers.now in
    let ls = c.args.memory.now.listeners.now in
    let memory = c.args.memory.now.messages.now in
    let message = c.args.message in
    let goes : from_server c.args.kind ≡ false = sym c.if-is_from_server.ensures in
    let P : Bool → Type 0 = λ f. ToServer g.S.Timestamp.above g.S.Timestamp.lowest g.V.Value.initial_value (g.Q.QuorumSystem.size q) c.args.m f ss ls net memory message place
    (answer_of c.hand_to_server.result) c.hand_to_server.new.servers c.hand_to_server.new.listeners c.hand_to_server.new.network c.hand_to_server.new.messages in
    server_handed K c.args.faulty ss c.args.memory.now.clients.now ls memory c.args.memory.now.reports.now net message c.args.kind place c.requires.fits is refl c.requires.enough
    (answer_of c.hand_to_server.result) c.hand_to_server.new.servers c.hand_to_server.new.listeners c.hand_to_server.new.network c.hand_to_server.new.messages
    goes (subst P c.contains-is_faulty.ensures (c.hand_to_server.ensures (g.Q.QuorumSystem.size q) place c.requires.server is))
