use Rattle.std.proofs.Common.{◌≡◌, ℕ, ◌+◌, ◌-◌, ◌*◌, ◌≤◌, length, get_or, take, drop, set, sym, subst, arith, rules}
use borrow.Rule.Slice.PartMut.{put_mid}
use borrow.Author.Rules.{scaled_fits≤}
use Rattle.std.proofs.lemmas.List.{length-take-le, length-drop, get_or_default}
use Rattle.server.specs.Receiving.{Received}
use Rattle.server.specs.declared.state.Server.{Server}
use Rattle.delivery.specs.Memory.{part, new_server}
use Rattle.delivery.specs.Parts.{ServersKept, Served}
use Rattle.delivery.proofs.Serving.{kept, served}
use Rattle.delivery.proofs.serve.serve.Goals as goal

pub overflow_mul-first : goal.overflow_mul-first
overflow_mul-first g c = omega (arith, c.requires.row)

pub overflow_add-first : goal.overflow_add-first
overflow_add-first g c = omega (arith, c.requires.row)

pub offset_bounds-listeners-first : goal.offset_bounds-listeners-first
offset_bounds-listeners-first g c =
    let i : c.args.message.server * c.args.clients ≤ length c.args.listeners.now = omega (arith, c.requires.row) in
    search (rules, scaled_fits≤)

pub slice_bounds-receive-end : goal.slice_bounds-receive-end
slice_bounds-receive-end g c = omega (arith, c.requires.row)

pub returns-clause-served : goal.returns-clause-served
returns-clause-served g c n few =
    let above = g.S.Timestamp.above in
    let lowest = g.S.Timestamp.lowest in
    let initial = g.V.Value.initial_value in
    let ss = c.args.servers.now in
    let ls = c.args.listeners.now in
    let b = c.args.message.server in
    let m = c.args.clients in
    let inside : b * m + m ≤ length ls = c.requires.row in
    let width : b * m + m - b * m ≡ m = omega arith in
    let rest : length (drop (b * m) ls) ≡ length ls - b * m = length-drop (b * m) ls in
    let long : length (part m ls b) ≡ m = length-take-le m (drop (b * m) ls) (omega arith) in
    let given : get_or ss b c.index-servers-place.result ≡ get_or ss b (new_server lowest initial) = get_or_default ss b c.index-servers-place.result (new_server lowest initial) c.requires.within in
    let R : Server g.row.S.Denot g.row.V.Denot → ℕ → Type 0 = λ x k.
    Received above lowest initial c.args.faulty x (take k (drop (b * m) ls)) c.args.network.now c.args.memory.now c.args.message c.receive.result
    c.receive.new.self c.receive.new.listeners c.receive.new.network c.receive.new.memory in
    let received : R (get_or ss b (new_server lowest initial)) m = subst (λ k. R (get_or ss b (new_server lowest initial)) k) width (subst (λ x. R x (b * m + m - b * m)) given c.receive.ensures) in
    let same : length c.receive.new.listeners ≡ m = search rules in
    let P : ℕ → Type 0 = λ k.
    Served above lowest initial n m c.args.faulty ss ls c.args.network.now c.args.memory.now c.args.message c.receive.result
    (set ss b c.receive.new.self) (put_mid (b * m) k ls c.receive.new.listeners) c.receive.new.network c.receive.new.memory in
    subst P (sym width)
    (served above lowest initial n m c.args.faulty ss ls c.args.network.now c.args.memory.now c.args.message few c.requires.within inside long
    c.receive.result c.receive.new.self c.receive.new.listeners c.receive.new.network c.receive.new.memory same received)

pub returns-clause-kept : goal.returns-clause-kept
returns-clause-kept g c n few =
    let ss = c.args.servers.now in
    let ls = c.args.listeners.now in
    let b = c.args.message.server in
    let m = c.args.clients in
    let inside : b * m + m ≤ length ls = c.requires.row in
    let width : b * m + m - b * m ≡ m = omega arith in
    let rest : length (drop (b * m) ls) ≡ length ls - b * m = length-drop (b * m) ls in
    let long : length (part m ls b) ≡ m = length-take-le m (drop (b * m) ls) (omega arith) in
    let same : length c.receive.new.listeners ≡ m = search rules in
    let P : ℕ → Type 0 = λ k. ServersKept g.S.Timestamp.above g.S.Timestamp.lowest g.V.Value.initial_value n m ss ls (set ss b c.receive.new.self) (put_mid (b * m) k ls c.receive.new.listeners) in
    subst P (sym width)
    (kept g.S.Timestamp.above g.S.Timestamp.lowest g.V.Value.initial_value n m c.args.faulty ss ls c.args.network.now c.args.memory.now c.args.message few c.requires.within inside long
    c.receive.new.self c.receive.new.listeners same)
