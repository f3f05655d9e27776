use Rattle.std.proofs.Common.{None, rules, ap, arith}
use Rattle.std.proofs.lemmas.Bool.{and_left}
use Rattle.std.specs.Prelude.{is_some}
use Rattle.reading.proofs.Views.{gone}
use Rattle.reading.proofs.reports.Reports.leaders.Goals as goal

pub returns : goal.returns
returns g c = c.servers_where.ensures.exact _ (λ i r l e. search rules, λ i l. and_left _ _ (ap is_some (gone i c.args.self.now.n _ None (omega (arith, l)))))
