use Rattle.std.proofs.Common.{◌≡◌, ◌<◌, ◌≢◌, None, length, replicate, sym, ap, ◌∙◌, arith, below_more}
use Rattle.std.proofs.lemmas.List.{get_or-set_same, get_or-set_other, length-replicate, get_or-replicate, ext_get_or}
use Rattle.reading.specs.Reports.{view}
use Rattle.reading.proofs.Parts.{view_blank}
use Rattle.reading.proofs.hear.forget.Goals as goal

pub loop-report-preserved : goal.loop-report-preserved
loop-report-preserved g c =
    let d : g.row.S.Denot × g.row.V.Denot = (g.S.Timestamp.lowest, g.V.Value.initial_value) in
    let i = c.loop-report.report-index in
    let xs = c.loop-report.part in
    let lt : i < length xs = omega arith in
    below_more _ _
    (λ k h. let ne : k ≢ i = omega arith in get_or-set_other xs i k c.erase.new.report None ne ∙ c.loop-report.invariant k h)
    (get_or-set_same xs i c.erase.new.report None lt ∙ c.erase.ensures)

pub returns : goal.returns
returns g c =
    let d : g.row.S.Denot × g.row.V.Denot = (g.S.Timestamp.lowest, g.V.Value.initial_value) in
    let xs = c.loop-report.part in
    let m = length c.args.part.now in
    let size : length xs ≡ m = omega arith in
    let same : xs ≡ replicate m None =
    ext_get_or None xs (replicate m None) (size ∙ sym (length-replicate m None)) (λ k l. c.loop-report.invariant k (omega arith) ∙ sym (get_or-replicate m k None None (omega arith))) in
    record {
      memory = same;
      shows = λ n. ap (λ p. view g.S.Timestamp.above d n p) same ∙ view_blank g.S.Timestamp.above g.S.Timestamp.lowest g.V.Value.initial_value n m;
    }
