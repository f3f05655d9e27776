use Rattle.std.proofs.Common.{◌≡◌, ℕ, length, sym, ap, ◌∙◌}
use Rattle.server.specs.Serving.{on_store, by_kind}
use Rattle.server.specs.Receiving.{state_of}
use Rattle.server.proofs.receive.replies_by_kind.Goals as goal

pub returns-in-Store : goal.returns-in-Store
returns-in-Store g c server =
    let above = g.S.Timestamp.above in
    let lowest = g.S.Timestamp.lowest in
    let initial = g.V.Value.initial_value in
    let row = c.args.listeners.now in
    let x = state_of lowest server row in
    let counted : ◌≡◌ {A = ℕ} c.replies_to_store.result (length (on_store above lowest initial (length row) x c.args.message).sent) = c.replies_to_store.ensures server in
    counted ∙ ap (λ k. length (by_kind above lowest initial k (length row) x c.args.message).sent) (sym c.in-Store.is)
