use Rattle.std.proofs.Common.{◌≡◌, ℕ, ◌∷◌, [], None, refl, rules, sym, ap, ◌∙◌}
use Rattle.std.specs.List.{fold}
use Rattle.std.proofs.lemmas.Fn.{fold_over}
use Rattle.std.proofs.lemmas.Grind.{fold-append}
use Rattle.reading.specs.Readings.{rules_for}
use Rattle.reading.specs.Reports.{Report, known, timestamp_of, cell, slots}
use Rattle.reading.specs.Deciding.{bettered}
use Rattle.reading.proofs.Decides.{decide_none}
use Rattle.reading.proofs.Countdown.{countdown, down_steps, countdown_yields, fold_decide}
use Rattle.reading.proofs.reports.Reports.decide.Goals as goal

pub returns : goal.returns
returns g c =
    let n = c.args.self.now.n in
    let grid = cell n c.args.self.now.entries.now in
    let r = known g.S.Timestamp g.V.Value c.args.self.now in
    let k = rules_for g.Q.QuorumSystem g.S.Timestamp g.V.Value n c.args.system.now in
    let h : Report g.row.S.Denot g.row.V.Denot → ℕ → Report g.row.S.Denot g.row.V.Denot = λ o j. bettered k r (timestamp_of (grid j j)) o in
    let folded : c.fold.result ≡ fold h None (countdown 0 n) =
    fold_over down_steps (λ x. x) _ (λ ys o. o ≡ fold h None ys) _
    (λ ys a x b f i e. let is : b ≡ h a x = search rules in let same : f ≡ _ = search rules in (is ∙ ap (λ o. h o x) i ∙ sym (fold-append h None ys (x ∷ [])), same))
    c.rev.result (countdown 0 n) None c.fold.result (countdown_yields n c.rev.ensures.source).runs refl c.fold.ensures.ran in
    folded ∙ fold_decide k r grid n None ∙ decide_none k r (slots grid n)
