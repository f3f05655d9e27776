use Rattle.std.proofs.Common.{ap, rules, arith}
use Rattle.reading.specs.Readings.{says}
use Rattle.reading.proofs.Views.{gone}
use Rattle.reading.proofs.reports.Reports.backers.Goals as goal

pub returns : goal.returns
returns g c = c.servers_where.ensures.exact _ (λ i r l e. search rules, λ i l. ap (λ o. says g.V.Value.same o c.args.value) (gone i c.args.self.now.n _ _ (omega (arith, l))))
