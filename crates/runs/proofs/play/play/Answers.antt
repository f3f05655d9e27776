use Rattle.std.proofs.Common.{◌≡◌, true, Result, sym, subst}
use Rattle.calls.specs.declared.Refusal.{Refusal}
use Rattle.calls.proofs.Refusing.{err_as}
use Rattle.protocol.specs.Settings.{Setting, setting_of}
use Rattle.protocol.specs.Protocol.{opened}
use Rattle.delivery.specs.Memory.{lent, contents, enough}
use Rattle.register.specs.declared.record.Register.{Register}
use Rattle.register.specs.Calling.{kinds, state_of}
use Rattle.runs.specs.Playing.{Playing, Played}
use Rattle.runs.proofs.Whole.{few_answers, not_opened, run_played}
use Rattle.runs.proofs.play.play.Goals as goal

pub returns-then-answers-calls-clause-played : goal.returns-then-answers-calls-clause-played
returns-then-answers-calls-clause-played g c = few_answers _ _ _ _ c.if-answers-calls.true

pub play_all-requires : goal.play_all-requires
play_all-requires g c =
    let Kof : Register g.row.Q.Denot → Setting g.row.S.Denot g.row.V.Denot = λ r. kinds g.Q.QuorumSystem g.S.Timestamp g.V.Value r in
    let o = c.in_ok-register.ensures in
    let x' = lent c.open.new.servers c.open.new.clients c.open.new.listeners c.args.memory.now.messages.now c.args.memory.now.reports.now in
    let E : Register g.row.Q.Denot → Type 0 = λ r. enough (Kof r) r.len x' ≡ true in
    let F : Register g.row.Q.Denot → Type 0 = λ r. state_of (Kof r) c.in_ok-register.register x' ≡ opened (Kof r) in
    record {
      room = c.if-answers-calls.false;
      fits = subst E (sym o.record_is) o.enough_after;
      fresh = subst F (sym o.record_is) o.state_after;
    }

pub returns-clause-played : goal.returns-clause-played
returns-clause-played g c =
    let Kof : Register g.row.Q.Denot → Setting g.row.S.Denot g.row.V.Denot = λ r. kinds g.Q.QuorumSystem g.S.Timestamp g.V.Value r in
    let o = c.in_ok-register.ensures in
    let x' = lent c.open.new.servers c.open.new.clients c.open.new.listeners c.args.memory.now.messages.now c.args.memory.now.reports.now in
    let x'' = contents c.play_all.new.memory in
    let P : Register g.row.Q.Denot → Type 0 = λ r. Playing (Kof r) c.args.calls.now c.in_ok-register.register x' c.args.answers.now c.play_all.new.register x'' c.play_all.new.answers in
    run_played _ _ _ _ (record { quorums = g.met.Q.QuorumSystem.lawful c.args.system; timestamps = g.met.S.Timestamp.ordered; values = g.met.V.Value.exact })
    c.if-answers-calls.false c.args.system c.in_ok-register.register c.play_all.new.register x' x'' c.play_all.new.answers o (subst P o.record_is c.play_all.ensures.played)

pub returns-in_err-register-clause-played : goal.returns-in_err-register-clause-played
returns-in_err-register-clause-played g c =
    let o = c.in_err-register.ensures in
    let e = c.in_err-register.field-0.0 in
    let K = setting_of g.Q.QuorumSystem g.S.Timestamp g.V.Value c.args.system c.args.m c.args.capacity 4294967295 in
    let P : Result (Register g.row.Q.Denot) Refusal → Type 0 = λ r.
    Played K c.args.system c.args.calls.now (contents c.args.memory.now) c.args.answers.now r (lent c.open.new.servers c.open.new.clients c.open.new.listeners c.args.memory.now.messages.now c.args.memory.now.reports.now) c.args.answers.now in
    subst P (sym (err_as c.from_residual.result e c.from_residual.ensures.1))
    (not_opened _ _ _ _ c.if-answers-calls.false e _ o.0 o.1 o.2)
