use Rattle.std.proofs.Common.{◌∙◌}
use Rattle.reading.proofs.Cells.{cell_late}
use Rattle.reading.proofs.reports.Reports.last.Goals as goal

pub returns : goal.returns
returns g c = c.entry.ensures ∙ cell_late c.args.self.now c.args.server
