use Rattle.std.proofs.Common.{◌≡◌, true, false, length, sym, ap, ◌∙◌, subst, ap₂}
use Rattle.calls.specs.Answers.{answer_of}
use Rattle.calls.specs.declared.Answer.{Answer}
use Rattle.calls.proofs.Refusing.{refused_as}
use Rattle.network.specs.Queues.{fits}
use Rattle.delivery.specs.Answering.{Delivery}
use Rattle.network.specs.declared.queue.Network.{Network}
use Rattle.protocol.specs.Settings.{setting_of}
use Rattle.delivery.specs.Sizes.{enough_for}
use Rattle.delivery.specs.Memory.{contents, sizes_of}
use Rattle.delivery.specs.Handing.{HandedOver}
use Rattle.delivery.proofs.Limits.{limits}
use Rattle.delivery.proofs.Delivering.{lifted_fits, taken_inside, taken_past, delivery_short, delivery_handed, delivery_past}
use Rattle.delivery.proofs.deliver.try_deliver.Goals as goal

pub returns-then-not-suffice-clause-delivered : goal.returns-then-not-suffice-clause-delivered
returns-then-not-suffice-clause-delivered g c =
    let q = c.args.system.now in
    let n = g.Q.QuorumSystem.size q in
    let len = c.args.len.now in
    let K = setting_of g.Q.QuorumSystem g.S.Timestamp g.V.Value q c.args.m c.args.capacity 4294967295 in
    let x = contents c.args.memory.now in
    let was : enough_for n c.args.m c.args.capacity len (sizes_of x) ≡ false =
    sym (c.if-not-suffice.ensures ∙ ap₂ (λ k s. enough_for k c.args.m c.args.capacity len s) c.servers-n.ensures c.sizes.ensures) in
    delivery_short K len c.args.faulty x c.args.place was

pub hand_over-handed-requires : goal.hand_over-handed-requires
hand_over-handed-requires g c =
    let n = g.Q.QuorumSystem.size c.args.system.now in
    let len = c.args.len.now in
    let m = c.args.m in
    let capacity = c.args.capacity in
    let place = c.args.place in
    let room = length c.args.memory.now.messages.now in
    let sizes = sizes_of (contents c.args.memory.now) in
    let was : enough_for n m capacity len sizes ≡ true =
    sym (c.if-not-suffice.ensures ∙ ap₂ (λ k s. enough_for k m capacity len s) c.servers-n.ensures c.sizes.ensures) in
    let within = limits n m capacity len sizes was in
    let taken = c.in_ok-message.ensures in
    let low = taken_inside capacity len room place taken.0 in
    record {
      fits = ap (λ w. fits w room) taken.3 ∙ lifted_fits capacity len room place within.capacity_fits within.standing low;
      enough = ap (λ w. enough_for n m w.capacity w.len sizes) taken.3 ∙ was;
    }

pub returns-clause-delivered : goal.returns-clause-delivered
returns-clause-delivered g c =
    let q = c.args.system.now in
    let n = g.Q.QuorumSystem.size q in
    let len = c.args.len.now in
    let m = c.args.m in
    let capacity = c.args.capacity in
    let place = c.args.place in
    let K = λ (k : _). setting_of g.Q.QuorumSystem g.S.Timestamp g.V.Value q m k 4294967295 in
    let x = contents c.args.memory.now in
    let x' = contents c.hand_over-handed.new.memory in
    let was : enough_for n m capacity len (sizes_of x) ≡ true =
    sym (c.if-not-suffice.ensures ∙ ap₂ (λ k s. enough_for k m capacity len s) c.servers-n.ensures c.sizes.ensures) in
    let taken = c.in_ok-message.ensures in
    let low = taken_inside capacity len (length c.args.memory.now.messages.now) place taken.0 in
    let P : Network → Type 0 = λ w. HandedOver (K w.capacity) w c.args.faulty x c.in_ok-message.message (answer_of c.hand_over-handed.result) c.hand_over-handed.new.network x' in
    delivery_handed (K capacity) len c.args.faulty x place c.in_ok-message.message (answer_of c.hand_over-handed.result) c.hand_over-handed.new.network x' was low taken.1
    (subst P taken.3 c.hand_over-handed.ensures.handed)

pub returns-in_err-message-clause-delivered : goal.returns-in_err-message-clause-delivered
returns-in_err-message-clause-delivered g c =
    let q = c.args.system.now in
    let n = g.Q.QuorumSystem.size q in
    let len = c.args.len.now in
    let m = c.args.m in
    let capacity = c.args.capacity in
    let K = setting_of g.Q.QuorumSystem g.S.Timestamp g.V.Value q m capacity 4294967295 in
    let x = contents c.args.memory.now in
    let was : enough_for n m capacity len (sizes_of x) ≡ true =
    sym (c.if-not-suffice.ensures ∙ ap₂ (λ k s. enough_for k m capacity len s) c.servers-n.ensures c.sizes.ensures) in
    let within = limits n m capacity len (sizes_of x) was in
    let why = taken_past capacity len (length c.args.memory.now.messages.now) c.args.place c.in_err-message.field-0.0 within.capacity_fits within.standing c.in_err-message.ensures.0 in
    let e = c.in_err-message.field-0.0 in
    let P : Answer g.row.S.Denot g.row.V.Denot → Type 0 = λ a. Delivery K len c.args.faulty x c.args.place a len x in
    subst P (sym (refused_as c.from_residual.result e c.from_residual.ensures.1)) (delivery_past K len c.args.faulty x c.args.place e was why.0 why.1)
