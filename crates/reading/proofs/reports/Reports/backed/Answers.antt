use Rattle.std.proofs.Common.{◌≡◌, rules, ◌∙◌, sym, ap, None, Some}
use Rattle.std.specs.List.{find}
use Rattle.std.specs.Option.{option_and_then}
use borrow.Author.Tests.{tests}
use Rattle.reading.specs.Readings.{rules_for}
use Rattle.reading.specs.Reports.{known}
use Rattle.reading.proofs.Countdown.{countdown, found_down, shares, backed_last}
use Rattle.reading.proofs.reports.Reports.backed.Goals as goal

pub returns-in_err-server : goal.returns-in_err-server
returns-in_err-server g c =
    let n = c.args.self.now.n in
    let t = c.args.timestamp in
    let r = known g.S.Timestamp g.V.Value c.args.self.now in
    let k = rules_for g.Q.QuorumSystem g.S.Timestamp g.V.Value n c.args.system.now in
    let found : c.find.result ≡ find (shares k r t) (countdown 0 n) = found_down n (shares k r t) _ _ c.find.result c.rev.ensures.source c.find.ensures.ran (λ x b q e. search (rules, tests)) in
    let none : c.find.result ≡ None = search rules in
    let is : c.from_residual.result ≡ None = search rules in
    is ∙ sym (backed_last k r t n ∙ ap (option_and_then (λ b. r.evidence b t)) (sym found ∙ none))

pub returns : goal.returns
returns g c =
    let n = c.args.self.now.n in
    let t = c.args.timestamp in
    let r = known g.S.Timestamp g.V.Value c.args.self.now in
    let k = rules_for g.Q.QuorumSystem g.S.Timestamp g.V.Value n c.args.system.now in
    let found : c.find.result ≡ find (shares k r t) (countdown 0 n) = found_down n (shares k r t) _ _ c.find.result c.rev.ensures.source c.find.ensures.ran (λ x b q e. search (rules, tests)) in
    let some : c.find.result ≡ Some c.in_ok-server.server = search rules in
    c.evidence_of.ensures ∙ sym (backed_last k r t n ∙ ap (option_and_then (λ b. r.evidence b t)) (sym found ∙ some))
