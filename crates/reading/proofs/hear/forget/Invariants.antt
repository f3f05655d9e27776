use Rattle.std.proofs.Common.{◌≡◌, ℕ, ◌<◌, None, get_or}
use Rattle.reading.proofs.hear.forget.Given as goal

abbrev pub invariant-loop-report : goal.invariant-loop-report
invariant-loop-report g l =
    (k : ℕ) → k < l.report-index → get_or l.part k None ≡ None
