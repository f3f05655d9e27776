use Rattle.std.proofs.Common.{◌≡◌, ap, ◌∙◌, subst, arith}
use Rattle.quorums.specs.Sets.{members}
use Rattle.reading.specs.Choosing.{Tested}
use Rattle.reading.proofs.Choosing.{put, left_out, tested_none, tested_more, tested_exact}
use Rattle.reading.proofs.order.servers_where.Goals as goal
use Rattle.reading.proofs.order.servers_where.Goals.{then-holds, else-holds}

pub loop-server-init : goal.loop-server-init
loop-server-init g c = tested_none (goal.F-post g c.args.holds) (members c.empty-set.result) c.empty-set.ensures.members

pub loop-server-preserved : goal.loop-server-preserved
loop-server-preserved g c =
    tested_more (goal.F-post g c.args.holds) c.loop-server.server c.holds.result (members c.loop-server.set) (members c.if-holds.set) c.loop-server.invariant c.holds.ensures
    (λ i. elim c.if-holds.branch [
      | then-holds w ↦ ap (λ m. members m i) w.set-is ∙ w.with-set.ensures i ∙ put _ _ _ c.holds.result w.if-holds.true
      | else-holds w ↦ ap (λ m. members m i) w.set-is ∙ left_out _ _ _ c.holds.result w.if-holds.false
    ])

pub returns : goal.returns
returns g c =
    let test = goal.F-post g c.args.holds in
    let set = members c.loop-server.set in
    let end : c.loop-server.server ≡ c.args.n = omega arith in
    let tested : Tested test c.args.n set = subst (λ k. Tested test k set) end c.loop-server.invariant in
    record { tested = tested; exact = λ p. tested_exact test c.args.n set p tested }
