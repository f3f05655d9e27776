use Rattle.std.proofs.Common.{◌≡◌, ℕ, length, Some, Result, sym, refl, ap, ◌∙◌, subst}
use Rattle.calls.specs.Refusals.{first_failed}
use Rattle.calls.specs.declared.Refusal.{Refusal}
use Rattle.calls.proofs.Checks.{passed_err}
use Rattle.calls.proofs.Refusing.{err_as}
use Rattle.network.specs.Queues.{Room}
use Rattle.server.specs.Serving.{reaction}
use Rattle.server.specs.Receiving.{state_of, receive_checks, Received}
use Rattle.server.proofs.Passing.{none_failed, checks_passed}
use Rattle.server.proofs.state.Server.receive.Goals as goal

pub returns-in_err-check_receipt : goal.returns-in_err-check_receipt
returns-in_err-check_receipt g c =
    let x = c.args in
    let row = x.listeners.now in
    let net = x.network.now in
    let e = c.in_err-check_receipt.field-0.0 in
    let P : Result (Unit {0}) Refusal → Type 0 = λ r.
    Received g.S.Timestamp.above g.S.Timestamp.lowest g.V.Value.initial_value x.faulty x.self.now row net x.memory.now x.message r x.self.now row net x.memory.now in
    let Q : ℕ → Type 0 = λ k. first_failed (receive_checks net (length x.memory.now) (length row) x.message.client k) ≡ Some e in
    subst P (sym (err_as c.from_residual.result e c.from_residual.ensures.1))
    (subst Q c.replies-sending.ensures (passed_err _ e (sym c.check_receipt.ensures ∙ c.in_err-check_receipt.was)), refl, refl, refl, refl)

pub react-requires : goal.react-requires
react-requires g c =
    let lowest = g.S.Timestamp.lowest in
    let row = c.args.listeners.now in
    let net = c.args.network.now in
    let room = length c.args.memory.now in
    let passed = checks_passed net room (length row) c.args.message.client c.replies-sending.result
    (none_failed _ _ (sym c.check_receipt.ensures ∙ c.in_ok-check_receipt.was)) in
    let counted : ◌≡◌ {A = ℕ} c.replies-sending.result
    (length (reaction g.S.Timestamp.above lowest g.V.Value.initial_value c.args.faulty (length row) (state_of lowest c.args.self.now row) c.args.message).sent) =
    c.replies-sending.ensures in
    let P : ℕ → Type 0 = λ k. Room net room k in
    rw (c.new-arrival.ensures.row, c.new-arrival.ensures.message) (
    subst P
    (counted ∙ ap (λ b. length (reaction g.S.Timestamp.above lowest g.V.Value.initial_value b (length row) (state_of lowest c.args.self.now row) c.args.message).sent) c.if-not-faulty.true)
    passed.2)
