use Rattle.std.proofs.Common.{sym, ◌∙◌, subst}
use Rattle.calls.specs.declared.Answer.{Answer}
use Rattle.calls.specs.declared.Call.TheVariants.{Turn}
use Rattle.calls.proofs.Checks.{passed_ok, passed_err, one_passes}
use Rattle.calls.proofs.Refusing.{refused_as}
use Rattle.delivery.specs.Memory.{lent}
use Rattle.register.specs.Calling.{kinds, Answers}
use Rattle.register.proofs.Replies.{lacking}
use Rattle.register.proofs.Faulty.{turn_refused, turn_accepted}
use Rattle.register.proofs.record.Register.try_turn.Goals as goal

pub returns-in_err-check_memory : goal.returns-in_err-check_memory
returns-in_err-check_memory g c =
    let h = c.args.self.now in
    let K = kinds g.Q.QuorumSystem g.S.Timestamp g.V.Value h in
    let x = lent c.args.servers.now c.args.clients.now c.args.listeners.now c.args.messages.now c.args.reports.now in
    let e = c.in_err-check_memory.field-0.0 in
    let P : Answer g.row.S.Denot g.row.V.Denot → Type 0 = λ a. Answers K h x (Turn c.args.server) a h x in
    subst P (sym (refused_as c.from_residual.result e c.from_residual.ensures.1))
    (lacking K h x _ e (sym c.check_memory.ensures ∙ c.in_err-check_memory.was))

pub returns-in_err-check_turn : goal.returns-in_err-check_turn
returns-in_err-check_turn g c =
    let h = c.args.self.now in
    let x = lent c.args.servers.now c.args.clients.now c.args.listeners.now c.args.messages.now c.args.reports.now in
    let e = c.in_err-check_turn.field-0.0 in
    let P : Answer g.row.S.Denot g.row.V.Denot → Type 0 = λ a. Answers (kinds g.Q.QuorumSystem g.S.Timestamp g.V.Value h) h x (Turn c.args.server) a h x in
    subst P (sym (refused_as c.from_residual-in_err-check_turn.result e c.from_residual-in_err-check_turn.ensures.1))
    (turn_refused _ _ _ (one_passes _ _ _ (sym c.check_memory.ensures ∙ c.in_ok-check_memory.was)) c.args.server c.with-faulty.result
    (g.met.Q.QuorumSystem.lawful c.args.self.now.system).few_servers c.with-faulty.ensures
    e (passed_err _ _ (sym c.check_turn.ensures ∙ c.in_err-check_turn.was)))

pub returns : goal.returns
returns g c =
    turn_accepted _ _ _ (one_passes _ _ _ (sym c.check_memory.ensures ∙ c.in_ok-check_memory.was)) c.args.server c.with-faulty.result
    (g.met.Q.QuorumSystem.lawful c.args.self.now.system).few_servers c.with-faulty.ensures (passed_ok _ _ (sym c.check_turn.ensures ∙ c.in_ok-check_turn.was))
