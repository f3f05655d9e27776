use Rattle.std.proofs.Common.{sym, refl, ◌∙◌, subst, arith}
use Rattle.calls.specs.declared.Answer.{Answer}
use Rattle.calls.specs.declared.Call.TheVariants.{Forge}
use Rattle.calls.proofs.Checks.{passed_ok, passed_err, one_passes}
use Rattle.calls.proofs.Refusing.{refused_as}
use Rattle.delivery.specs.Memory.{lent}
use Rattle.register.specs.Calling.{kinds, Answers}
use Rattle.register.proofs.Enough.{room_left}
use Rattle.register.proofs.Replies.{lacking}
use Rattle.register.proofs.Faulty.{forge_refused, forge_accepted, forge_room}
use Rattle.register.proofs.record.Register.try_forge.Goals as goal

pub returns-in_err-check_memory : goal.returns-in_err-check_memory
returns-in_err-check_memory g c =
    let h = c.args.self.now in
    let K = kinds g.Q.QuorumSystem g.S.Timestamp g.V.Value h in
    let x = lent c.args.servers.now c.args.clients.now c.args.listeners.now c.args.messages.now c.args.reports.now in
    let m = c.args.message in
    let e = c.in_err-check_memory.field-0.0 in
    let P : Answer g.row.S.Denot g.row.V.Denot → Type 0 = λ a. Answers K h x (Forge m.server m.client m.kind m.number m.timestamp m.value) a h x in
    subst P (sym (refused_as c.from_residual.result e c.from_residual.ensures.1))
    (lacking K h x _ e (sym c.check_memory.ensures ∙ c.in_err-check_memory.was))

pub returns-in_err-check_forging : goal.returns-in_err-check_forging
returns-in_err-check_forging g c =
    let h = c.args.self.now in
    let x = lent c.args.servers.now c.args.clients.now c.args.listeners.now c.args.messages.now c.args.reports.now in
    let m = c.args.message in
    let e = c.in_err-check_forging.field-0.0 in
    let P : Answer g.row.S.Denot g.row.V.Denot → Type 0 = λ a.
    Answers (kinds g.Q.QuorumSystem g.S.Timestamp g.V.Value h) h x (Forge m.server m.client m.kind m.number m.timestamp m.value) a h x in
    subst P (sym (refused_as c.from_residual-in_err-check_forging.result e c.from_residual-in_err-check_forging.ensures.1))
    (forge_refused _ _ _ (one_passes _ _ _ (sym c.check_memory.ensures ∙ c.in_ok-check_memory.was)) m e
    (passed_err _ _ (sym c.check_forging.ensures ∙ c.in_err-check_forging.was)))

pub post-requires : goal.post-requires
post-requires g c =
    let h = c.args.self.now in
    let K = kinds g.Q.QuorumSystem g.S.Timestamp g.V.Value h in
    let x = lent c.args.servers.now c.args.clients.now c.args.listeners.now c.args.messages.now c.args.reports.now in
    let much = one_passes _ _ _ (sym c.check_memory.ensures ∙ c.in_ok-check_memory.was) in
    let room = forge_room K h x much c.args.message (passed_ok _ _ (sym c.check_forging.ensures ∙ c.in_ok-check_forging.was)) in
    room_left K h x much refl 1 (omega (arith, room))

pub returns : goal.returns
returns g c =
    forge_accepted _ _ _ (one_passes _ _ _ (sym c.check_memory.ensures ∙ c.in_ok-check_memory.was)) c.args.message _ _ c.post.ensures.record c.post.ensures.memory
    (passed_ok _ _ (sym c.check_forging.ensures ∙ c.in_ok-check_forging.was))
