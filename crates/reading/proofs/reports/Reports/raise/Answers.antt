use Rattle.std.proofs.Common.{Some, sym, ◌∙◌, arith}
use Rattle.reading.specs.Reports.{cell}
use Rattle.reading.proofs.Cells.{put_view}
use Rattle.reading.proofs.Views.{raise_yes}
use Rattle.reading.proofs.reports.Reports.raise.Goals as goal

pub returns-then-is_newer-clause-after : goal.returns-then-is_newer-clause-after
returns-then-is_newer-clause-after g c =
    let d : g.row.S.Denot × g.row.V.Denot = (g.S.Timestamp.lowest, g.V.Value.initial_value) in
    let above = g.S.Timestamp.above in
    let r = c.args.self.now in
    let b = c.args.server in
    put_view r c.put.new.self b r.n (Some c.args.pair) c.requires.row (omega arith) c.put.ensures.written above d c.put.ensures.kept
    ∙ raise_yes above d r.n (cell r.n r.entries.now) b c.requires.row c.args.pair.0 c.args.pair.1 (sym c.if-is_newer.ensures)
