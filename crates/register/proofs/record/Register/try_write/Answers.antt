use Rattle.std.proofs.Common.{◌+◌, ◌*◌, ◌<◌, ◌≤◌, length, sym, refl, ap, ◌∙◌, subst, arith}
use Rattle.std.proofs.lemmas.Bool.{ltb-true}
use Rattle.calls.specs.declared.Answer.{Answer}
use Rattle.calls.specs.declared.Call.TheVariants.{Write}
use Rattle.calls.proofs.Checks.{one_passes}
use Rattle.calls.proofs.Refusing.{refused_as}
use Rattle.protocol.specs.Clients.{begins_write}
use Rattle.delivery.specs.Memory.{lent}
use Rattle.delivery.specs.Parts.{clients_in}
use Rattle.delivery.proofs.Parts.{part_end}
use Rattle.register.specs.Beginning.{client_refuses}
use Rattle.register.specs.Calling.{kinds, Answers}
use Rattle.register.proofs.Enough.{parts}
use Rattle.register.proofs.Replies.{lacking}
use Rattle.register.proofs.Begins.{client_lacking, begin_refused, begin_room, begun}
use Rattle.register.proofs.record.Register.try_write.Goals as goal

pub returns-in_err-check_memory : goal.returns-in_err-check_memory
returns-in_err-check_memory g c =
    let h = c.args.self.now in
    let K = kinds g.Q.QuorumSystem g.S.Timestamp g.V.Value h in
    let x = lent c.args.servers.now c.args.clients.now c.args.listeners.now c.args.messages.now c.args.reports.now in
    let e = c.in_err-check_memory.field-0.0 in
    let P : Answer g.row.S.Denot g.row.V.Denot → Type 0 = λ a. Answers K h x (Write c.args.client c.args.value) a h x in
    subst P (sym (refused_as c.from_residual.result e c.from_residual.ensures.1))
    (lacking K h x _ e (sym c.check_memory.ensures ∙ c.in_err-check_memory.was))

pub returns-in_err-check_client : goal.returns-in_err-check_client
returns-in_err-check_client g c =
    let h = c.args.self.now in
    let K = kinds g.Q.QuorumSystem g.S.Timestamp g.V.Value h in
    let x = lent c.args.servers.now c.args.clients.now c.args.listeners.now c.args.messages.now c.args.reports.now in
    let u = c.args.client in
    let much = one_passes _ _ _ (sym c.check_memory.ensures ∙ c.in_ok-check_memory.was) in
    let e = c.in_err-check_client.field-0.0 in
    let P : Answer g.row.S.Denot g.row.V.Denot → Type 0 = λ a. Answers K h x (Write c.args.client c.args.value) a h x in
    subst P (sym (refused_as c.from_residual-in_err-check_client.result e c.from_residual-in_err-check_client.ensures.1))
    (client_lacking K h x much refl u _ e (sym c.check_client.ensures ∙ c.in_err-check_client.was))

pub begin_write_at-requires : goal.begin_write_at-requires
begin_write_at-requires g c =
    let h = c.args.self.now in
    let K = kinds g.Q.QuorumSystem g.S.Timestamp g.V.Value h in
    let x = lent c.args.servers.now c.args.clients.now c.args.listeners.now c.args.messages.now c.args.reports.now in
    let much = one_passes _ _ _ (sym c.check_memory.ensures ∙ c.in_ok-check_memory.was) in
    let u = c.args.client in
    let inside : u < h.clients = ltb-true u h.clients (one_passes _ _ _ (sym c.check_client.ensures ∙ c.in_ok-check_client.was)) in
    let p = parts K h.len x much in
    omega (arith, p.for_clients, inside)

pub returns-in_err-begun : goal.returns-in_err-begun
returns-in_err-begun g c =
    let h = c.args.self.now in
    let K = kinds g.Q.QuorumSystem g.S.Timestamp g.V.Value h in
    let x = lent c.args.servers.now c.args.clients.now c.args.listeners.now c.args.messages.now c.args.reports.now in
    let u = c.args.client in
    let much = one_passes _ _ _ (sym c.check_memory.ensures ∙ c.in_ok-check_memory.was) in
    let inside : u < h.clients = ltb-true u h.clients (one_passes _ _ _ (sym c.check_client.ensures ∙ c.in_ok-check_client.was)) in
    let was = clients_in K h.clients x.clients x.reports u in
    let n = K.rules.n in
    let p = parts K h.len x much in
    let ends : u * (n * (n + 1)) + n * (n + 1) ≤ length x.reports = (let e = part_end u h.clients (n * (n + 1)) inside in omega (arith, e, p.for_reports)) in
    let b = c.in_err-begun.ensures h.clients h.capacity 4294967295 x.reports inside ends in
    let e = c.in_err-begun.field-0.0 in
    let x' = lent x.servers c.begin_write_at.new.clients x.listeners x.messages x.reports in
    let P : Answer g.row.S.Denot g.row.V.Denot → Type 0 = λ a. Answers K h x (Write u c.args.value) a h x' in
    subst P (sym (refused_as c.from_residual-in_err-begun.result e c.from_residual-in_err-begun.ensures.1))
    (begin_refused K h x much refl u inside (begins_write K u was c.args.value) c.begin_write_at.new.clients x.reports e
    (ap (client_refuses K was) (sym c.room-room.ensures) ∙ b.0) b.1 refl)

pub send-requires : goal.send-requires
send-requires g c =
    let h = c.args.self.now in
    let K = kinds g.Q.QuorumSystem g.S.Timestamp g.V.Value h in
    let x = lent c.args.servers.now c.args.clients.now c.args.listeners.now c.args.messages.now c.args.reports.now in
    let u = c.args.client in
    let much = one_passes _ _ _ (sym c.check_memory.ensures ∙ c.in_ok-check_memory.was) in
    let inside : u < h.clients = ltb-true u h.clients (one_passes _ _ _ (sym c.check_client.ensures ∙ c.in_ok-check_client.was)) in
    let was = clients_in K h.clients x.clients x.reports u in
    let n = K.rules.n in
    let p = parts K h.len x much in
    let ends : u * (n * (n + 1)) + n * (n + 1) ≤ length x.reports = (let e = part_end u h.clients (n * (n + 1)) inside in omega (arith, e, p.for_reports)) in
    let b = c.in_ok-begun.ensures h.clients h.capacity 4294967295 x.reports inside ends in
    begin_room K h x much refl u inside (begins_write K u was c.args.value) x.clients x.reports (ap (client_refuses K was) (sym c.room-room.ensures) ∙ b.0) c.in_ok-begun.begun.1 refl

pub returns : goal.returns
returns g c =
    let h = c.args.self.now in
    let K = kinds g.Q.QuorumSystem g.S.Timestamp g.V.Value h in
    let x = lent c.args.servers.now c.args.clients.now c.args.listeners.now c.args.messages.now c.args.reports.now in
    let u = c.args.client in
    let much = one_passes _ _ _ (sym c.check_memory.ensures ∙ c.in_ok-check_memory.was) in
    let inside : u < h.clients = ltb-true u h.clients (one_passes _ _ _ (sym c.check_client.ensures ∙ c.in_ok-check_client.was)) in
    let was = clients_in K h.clients x.clients x.reports u in
    let n = K.rules.n in
    let p = parts K h.len x much in
    let ends : u * (n * (n + 1)) + n * (n + 1) ≤ length x.reports = (let e = part_end u h.clients (n * (n + 1)) inside in omega (arith, e, p.for_reports)) in
    let b = c.in_ok-begun.ensures h.clients h.capacity 4294967295 x.reports inside ends in
    begun K h x much refl u inside (begins_write K u was c.args.value) c.begin_write_at.new.clients x.reports _ refl (ap (client_refuses K was) (sym c.room-room.ensures) ∙ b.0)
    c.in_ok-begun.begun b.1 c.send.new.self c.send.new.messages refl c.send.ensures.record c.send.ensures.sent c.begin_write_at.auto.clients refl refl
