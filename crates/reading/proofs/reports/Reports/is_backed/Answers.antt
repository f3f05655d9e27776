use Rattle.reading.proofs.reports.Reports.is_backed.Goals as goal

pub returns : goal.returns
returns g c = cc
