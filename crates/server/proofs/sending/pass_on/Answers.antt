use Rattle.std.proofs.Common.{◌≡◌, List, [], ◌∷◌, length, sym, ap, ◌∙◌, subst}
use Rattle.network.specs.Queues.{Sent}
use Rattle.network.specs.declared.message.Message.{Message}
use Rattle.network.proofs.Sending.{sent_then, room_after}
use Rattle.server.specs.Serving.{wants, passed, passed_on}
use Rattle.server.specs.Receiving.{listener_in}
use Rattle.server.proofs.Passing.{passed_yes, passed_no, listener_read, room_next}
use Rattle.server.proofs.sending.pass_on.Goals as goal
use Rattle.server.proofs.sending.pass_on.Goals.{then-wants, else-wants}

pub send-requires : goal.send-requires
send-requires g c =
    let above = g.S.Timestamp.above in
    let row = c.args.arrival.now.listeners.now in
    let f = listener_in g.S.Timestamp.lowest row in
    let m = c.args.arrival.now.message.now in
    let i = c.loop-client.client in
    let is : f i ≡ c.listener-item.result =
    listener_read g.S.Timestamp.lowest row i c.listener-item.result c.loop-client-test.true c.listener-item.is in
    let want = ap (λ y. wants above y m.timestamp) is ∙ sym c.if-wants.ensures in
    room_after c.args.network.now c.loop-client.network c.args.memory.now c.loop-client.memory (passed_on above m f i) 1
    c.loop-client.invariant
    (room_next above m f c.args.network.now (length c.args.memory.now) i (length row) c.loop-client-test.true want c.requires)

pub loop-client-preserved : goal.loop-client-preserved
loop-client-preserved g c =
    let above = g.S.Timestamp.above in
    let row = c.args.arrival.now.listeners.now in
    let f = listener_in g.S.Timestamp.lowest row in
    let m = c.args.arrival.now.message.now in
    let i = c.loop-client.client in
    let x = c.listener-item.result in
    let is : f i ≡ x = listener_read g.S.Timestamp.lowest row i x c.loop-client-test.true c.listener-item.is in
    let tested : wants above (f i) m.timestamp ≡ c.wants.result = ap (λ y. wants above y m.timestamp) is ∙ sym c.wants.ensures in
    let M = Message g.row.S.Denot g.row.V.Denot in
    let P : List M → Type 0 = λ ms. Sent c.args.network.now c.args.memory.now ms c.if-wants.network c.if-wants.memory in
    elim c.if-wants.branch [
      | then-wants w ↦
          let this : w.passed.result ≡ passed m i (f i) = w.passed.ensures ∙ ap (passed m i) (sym is) in
          subst P (sym (passed_yes above m f i (tested ∙ w.if-wants.true)))
          (rw (w.network-is, w.memory-is, ← this)
          (sent_then c.args.network.now c.loop-client.network w.send.new.network c.args.memory.now c.loop-client.memory w.send.new.memory
          (passed_on above m f i) (w.passed.result ∷ []) c.loop-client.invariant w.send.ensures))
      | else-wants w ↦
          subst P (sym (passed_no above m f i (tested ∙ w.if-wants.false))) (rw (w.network-is, w.memory-is) c.loop-client.invariant)
    ]
