use Rattle.std.proofs.Common.{length, sym, subst}
use Rattle.network.specs.declared.message.Kind.{Kind}
use Rattle.server.specs.Serving.{by_kind}
use Rattle.server.specs.Receiving.{state_of, Reacted}
use Rattle.server.proofs.state.Server.react_by_kind.Goals as goal

pub returns-in-Query-clause-after : goal.returns-in-Query-clause-after
returns-in-Query-clause-after g c =
    let lowest = g.S.Timestamp.lowest in
    let row = c.args.arrival.now.listeners.now in
    let P : Kind → Type 0 = λ k.
    Reacted lowest c.args.network.now c.args.memory.now
    (by_kind g.S.Timestamp.above lowest g.V.Value.initial_value k (length row) (state_of lowest c.args.self.now row) c.args.arrival.now.message.now)
    c.args.self.now row c.answer_query.new.network c.answer_query.new.memory in
    subst P (sym c.in-Query.is) (c.answer_query.ensures row)
