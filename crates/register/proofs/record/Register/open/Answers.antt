use Rattle.std.proofs.Common.{◌≡◌, ◌*◌, ◌++◌, drop, replicate, sym, refl, ap, ◌∙◌, ap₂, arith}
use Rattle.calls.proofs.Checks.{one_passes}
use Rattle.delivery.proofs.Limits.{limits}
use Rattle.register.proofs.Opening.{not_opened, opened_with}
use Rattle.register.proofs.record.Register.open.Goals as goal

pub returns-in_err-check_memory : goal.returns-in_err-check_memory
returns-in_err-check_memory g c = not_opened _ _ _ _ c.in_err-check_memory.field-0.0 (sym c.check_memory.ensures ∙ c.in_err-check_memory.was) c.from_residual.ensures.1

pub reset-requires : goal.reset-requires
reset-requires g c =
    let n = g.Q.QuorumSystem.size c.args.system in
    let p = limits n c.args.m c.args.capacity 0 _ (one_passes _ _ _ (sym c.check_memory.ensures ∙ c.in_ok-check_memory.was)) in
    omega (arith, p.for_servers, c.servers-n.ensures)

pub reset-requires-2 : goal.reset-requires-2
reset-requires-2 g c =
    let n = g.Q.QuorumSystem.size c.args.system in
    let p = limits n c.args.m c.args.capacity 0 _ (one_passes _ _ _ (sym c.check_memory.ensures ∙ c.in_ok-check_memory.was)) in
    p.for_clients

pub listener_count-requires : goal.listener_count-requires
listener_count-requires g c =
    let n = g.Q.QuorumSystem.size c.args.system in
    let p = limits n c.args.m c.args.capacity 0 _ (one_passes _ _ _ (sym c.check_memory.ensures ∙ c.in_ok-check_memory.was)) in
    p.few

pub reset-requires-3 : goal.reset-requires-3
reset-requires-3 g c =
    let n = g.Q.QuorumSystem.size c.args.system in
    let p = limits n c.args.m c.args.capacity 0 _ (one_passes _ _ _ (sym c.check_memory.ensures ∙ c.in_ok-check_memory.was)) in
    let e : c.listener_count.result ≡ n * c.args.m = c.listener_count.ensures ∙ ap (λ k. k * c.args.m) c.servers-n.ensures in
    omega (arith, p.for_listeners, e)

pub returns : goal.returns
returns g c =
    let n = g.Q.QuorumSystem.size c.args.system in
    let e : c.listener_count.result ≡ n * c.args.m = c.listener_count.ensures ∙ ap (λ k. k * c.args.m) c.servers-n.ensures in
    opened_with _ _ _ (one_passes _ _ _ (sym c.check_memory.ensures ∙ c.in_ok-check_memory.was)) _ _ _ _ refl refl refl refl c.empty.ensures.mask c.empty.ensures.members
    (c.reset.ensures ∙ ap₂ (λ k v. replicate k v ++ drop k c.args.servers.now) c.servers-n.ensures c.initial.ensures)
    (c.reset-2.ensures ∙ ap (λ v. replicate c.args.m v ++ drop c.args.m c.args.clients.now) c.initial-2.ensures)
    (c.reset-3.ensures ∙ ap₂ (λ k v. replicate k v ++ drop k c.args.listeners.now) e c.silent.ensures)
