use Rattle.std.proofs.Common.{◌≡◌, take, Some, None, sym, refl, ap, ◌∙◌, subst}
use Rattle.std.specs.List.{remove}
use Rattle.calls.specs.Answers.{answer_of}
use Rattle.calls.specs.declared.Refusal.TheVariants.{Memory}
use Rattle.network.specs.Kinds.{kind_of}
use Rattle.protocol.specs.Settings.{setting_of}
use Rattle.protocol.specs.Protocol.{Reply, taken}
use Rattle.delivery.specs.Memory.{contents, state_in}
use Rattle.delivery.specs.Handing.{kind_named, Handed}
use Rattle.delivery.proofs.Queues.{restored_as}
use Rattle.delivery.proofs.Handing.{kept_handed}
use Rattle.delivery.proofs.Delivering.{named_parts, taken_named, taken_unnamed}
use Rattle.delivery.proofs.deliver.hand_over.Goals as goal

pub hand_by_kind-requires : goal.hand_by_kind-requires
hand_by_kind-requires g c =
    let n = g.Q.QuorumSystem.size c.args.system.now in
    let is : kind_named n c.args.m c.args.message ≡ Some c.in-Some.kind = ap (λ k. kind_named k c.args.m c.args.message) (sym c.servers-n.ensures) ∙ sym c.in-Some.ensures in
    let there = named_parts n c.args.m c.args.message c.in-Some.kind is in
    record { client = there.client; server = there.server; named = there.kind_is; fits = c.requires.fits; enough = c.requires.enough }

pub returns-in-Some-clause-handed : goal.returns-in-Some-clause-handed
returns-in-Some-clause-handed g c place is =
    let q = c.args.system.now in
    let n = g.Q.QuorumSystem.size q in
    let net = c.args.network.now in
    let message = c.args.message in
    let K = setting_of g.Q.QuorumSystem g.S.Timestamp g.V.Value q c.args.m net.capacity 4294967295 in
    let x = contents c.args.memory.now in
    let x' = contents c.hand_by_kind.new.memory in
    let known : kind_named n c.args.m message ≡ Some c.in-Some.kind = ap (λ k. kind_named k c.args.m message) (sym c.servers-n.ensures) ∙ sym c.in-Some.ensures in
    let P : Reply g.row.S.Denot g.row.V.Denot → Type 0 = λ y. Handed K net.len c.args.faulty x message y (answer_of c.hand_by_kind.result) c.hand_by_kind.new.network.len x' in
    subst P (sym (taken_named K (state_in K net.len c.args.faulty x) (remove (take net.len c.args.memory.now.messages.now) place) message c.in-Some.kind known))
    (c.hand_by_kind.ensures.handed place is)

pub returns-in-None-clause-handed : goal.returns-in-None-clause-handed
returns-in-None-clause-handed g c place is =
    let q = c.args.system.now in
    let n = g.Q.QuorumSystem.size q in
    let net = c.args.network.now in
    let message = c.args.message in
    let K = setting_of g.Q.QuorumSystem g.S.Timestamp g.V.Value q c.args.m net.capacity 4294967295 in
    let x = contents c.args.memory.now in
    let σ = state_in K net.len c.args.faulty x in
    let rest = remove (take net.len c.args.memory.now.messages.now) place in
    let known : kind_named n c.args.m message ≡ None = ap (λ k. kind_named k c.args.m message) (sym c.servers-n.ensures) ∙ sym c.in-None.ensures in
    let back = c.refuse.ensures.network ∙ restored_as net c.args.memory.now.messages.now place c.requires.fits is in
    kept_handed K net.len c.refuse.new.network.len c.args.faulty x x message (taken K σ rest message (kind_of message.kind)) (answer_of c.refuse.result) Memory
    (taken_unnamed K σ rest message known) c.refuse.ensures.answer (ap (λ w. w.len) back) refl c.requires.enough
