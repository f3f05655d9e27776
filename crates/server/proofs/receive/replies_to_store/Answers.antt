use Rattle.std.proofs.Common.{length, arith}
use Rattle.std.proofs.lemmas.List.Sums.{count_by-le-length}
use Rattle.server.specs.Serving.{wants}
use Rattle.server.specs.Receiving.{listener_in}
use Rattle.server.proofs.Passing.{wanting_counted, passed_count}
use Rattle.server.proofs.receive.replies_to_store.Goals as goal

pub overflow_add-result : goal.overflow_add-result
overflow_add-result g c =
    let few = count_by-le-length (λ x. wants g.S.Timestamp.above x c.args.message.timestamp) c.args.listeners.now in
    omega (arith, few, c.count_wanting.ensures)

pub returns : goal.returns
returns g c server =
    let row = c.args.listeners.now in
    let counted = wanting_counted g.S.Timestamp.above g.S.Timestamp.lowest c.args.message.timestamp row in
    let count = passed_count g.S.Timestamp.above c.args.message (listener_in g.S.Timestamp.lowest row) (length row) in
    omega (arith, counted, count, c.count_wanting.ensures)
