use Rattle.std.proofs.Common.{◌≡◌, get_or, subst}
use Rattle.std.proofs.lemmas.List.{get_or_default}
use Rattle.reading.specs.Readings.{rules}
use Rattle.protocol.specs.Settings.{setting}
use Rattle.client.specs.Taking.{BegunWrite}
use Rattle.client.specs.declared.state.Client.{Client}
use Rattle.delivery.specs.Memory.{new_client}
use Rattle.register.proofs.Beginning.{begun_write_at}
use Rattle.register.proofs.begin.begin_write_at.Goals as goal

pub returns : goal.returns
returns g c m capacity most reports within inside =
    let q = c.args.system.now in
    let R = rules (g.Q.QuorumSystem.size q) (g.Q.QuorumSystem.quorum q) (g.Q.QuorumSystem.fail_prone q) g.S.Timestamp.above g.V.Value.same in
    let K = setting m capacity most R g.S.Timestamp.owner g.S.Timestamp.lowest g.S.Timestamp.successor g.V.Value.initial_value in
    let bare = setting 0 0 0 R g.S.Timestamp.owner g.S.Timestamp.lowest g.S.Timestamp.successor g.V.Value.initial_value in
    let first : Client g.row.S.Denot g.row.V.Denot = new_client g.S.Timestamp.lowest in
    let cs = c.args.clients.now in
    let u = c.args.client in
    let given : get_or cs u c.index-clients-place.result ≡ get_or cs u first = get_or_default cs u c.index-clients-place.result first c.requires in
    let P : Client g.row.S.Denot g.row.V.Denot → Type 0 = λ x.
    BegunWrite bare (g.S.Timestamp.lowest, g.V.Value.initial_value) x u c.args.value c.args.room c.begin_write.result c.begin_write.new.self in
    begun_write_at K cs reports u c.args.room within c.requires inside c.args.value c.begin_write.result c.begin_write.new.self (subst P given c.begin_write.ensures)
