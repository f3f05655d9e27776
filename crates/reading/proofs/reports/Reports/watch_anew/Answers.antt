use Rattle.std.proofs.Common.{cond, ltb, ap, ◌∙◌}
use Rattle.quorums.specs.Sets.{members}
use Rattle.reading.specs.Readings.{rules_for, leads}
use Rattle.reading.specs.Reports.{cell, known, view, anew}
use Rattle.reading.proofs.Views.{shown_same}
use Rattle.reading.proofs.Enters.{renew_all, enter_all}
use Rattle.reading.proofs.reports.Reports.watch_anew.Goals as goal

pub returns-clause-after : goal.returns-clause-after
returns-clause-after g c =
    let d : g.row.S.Denot × g.row.V.Denot = (g.S.Timestamp.lowest, g.V.Value.initial_value) in
    let above = g.S.Timestamp.above in
    let old = c.args.self.now in
    let n = old.n in
    let grid = cell n old.entries.now in
    let r = known g.S.Timestamp g.V.Value old in
    let k = rules_for g.Q.QuorumSystem g.S.Timestamp g.V.Value n c.args.system.now in
    let q = c.renew.new.self in
    ap (λ m. view above d m q.entries.now) c.renew.ensures.kept.servers
    ∙ shown_same above d n (cell n q.entries.now) (λ x j. cond (ltb j n) (anew above (leads k r) r x j) (grid x j))
    (λ x j l m. c.renew.ensures.after x j l m ∙ renew_all (anew above (members c.leaders-leading.result) r) grid n x j
    ∙ ap (λ t. cond (ltb j n) (anew above t r x j) (grid x j)) c.leaders-leading.ensures)
    ∙ enter_all k d g.met.S.Timestamp.ordered grid
