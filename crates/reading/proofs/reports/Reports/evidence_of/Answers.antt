use Rattle.std.proofs.Common.{◌≡◌, rules, ◌∙◌, sym, None, Some}
use Rattle.std.specs.List.{find}
use borrow.Author.Tests.{tests}
use Rattle.reading.specs.Reports.{cell, watches}
use Rattle.reading.proofs.Cells.{cell_past}
use Rattle.reading.proofs.Countdown.{countdown, found_down, kept_found}
use Rattle.reading.proofs.reports.Reports.evidence_of.Goals as goal

pub returns-in_err-slot : goal.returns-in_err-slot
returns-in_err-slot g c =
    let above = g.S.Timestamp.above in
    let r = c.args.self.now in
    let b = c.args.server in
    let t = c.args.timestamp in
    let grid = cell r.n r.entries.now in
    let found : c.find.result ≡ find (watches above grid t) (countdown 0 r.n) = found_down r.n (watches above grid t) _ _ c.find.result c.rev.ensures.source c.find.ensures.ran (λ x s q k. search (rules, tests)) in
    let none : c.find.result ≡ None = search rules in
    let is : c.from_residual.result ≡ None = search rules in
    is ∙ sym (kept_found above grid b t r.n None (λ l j. cell_past r b j l) (sym none ∙ found))

pub returns : goal.returns
returns g c =
    let above = g.S.Timestamp.above in
    let r = c.args.self.now in
    let b = c.args.server in
    let t = c.args.timestamp in
    let grid = cell r.n r.entries.now in
    let found : c.find.result ≡ find (watches above grid t) (countdown 0 r.n) = found_down r.n (watches above grid t) _ _ c.find.result c.rev.ensures.source c.find.ensures.ran (λ x s q k. search (rules, tests)) in
    let some : c.find.result ≡ Some c.in_ok-slot.slot = search rules in
    search rules ∙ sym (kept_found above grid b t r.n (Some c.in_ok-slot.slot) (λ l j. cell_past r b j l) (sym some ∙ found))
