use Rattle.std.proofs.Common.{rules, ◌≡◌, Some, sym, ap, ◌∙◌, arith}
use Rattle.reading.specs.Reports.{timestamp_of, equals, cell, watches, note_to, view}
use Rattle.reading.proofs.Cells.{put_cell}
use Rattle.reading.proofs.Views.{shown_same}
use Rattle.reading.proofs.Notes.{note_fresh, note_yes, note_no, note_all}
use Rattle.reading.proofs.reports.Reports.note.Goals as goal
use Rattle.reading.proofs.reports.Reports.note.Goals.{then-is_watched, else-is_watched}

pub loop-slot-preserved : goal.loop-slot-preserved
loop-slot-preserved g c =
    let above = g.S.Timestamp.above in
    let old = c.args.self.now in
    let n = old.n in
    let b = c.args.server in
    let s = c.args.pair.0 in
    let v = c.args.pair.1 in
    let j = c.loop-slot.slot in
    let r = c.loop-slot.self in
    let grid = cell n old.entries.now in
    let size : r.n ≡ n = c.loop-slot.invariant.kept.servers in
    let at : cell r.n r.entries.now j j ≡ grid j j = ap (λ m. cell m r.entries.now j j) size ∙ c.loop-slot.invariant.cells j j (omega arith) ∙ note_fresh above grid b s v j in
    let same : watches above (cell r.n r.entries.now) s j ≡ watches above grid s j = ap (λ e. equals above s (timestamp_of e)) at in
    elim c.if-is_watched.branch [
      | then-is_watched w ↦ record {
        kept = search rules;
        cells = λ x k l. ap (λ q. cell n q.entries.now x k) w.self-is
            ∙ ap (λ m. cell m w.put.new.self.entries.now x k) (sym size)
            ∙ put_cell r w.put.new.self b j (Some (s, v)) (omega arith) (omega arith) w.put.ensures.written x k (omega arith)
            ∙ note_yes above grid b s v j (cell r.n r.entries.now) x k (sym same ∙ sym w.if-is_watched.ensures) (ap (λ m. cell m r.entries.now x k) size ∙ c.loop-slot.invariant.cells x k l);
      }
      | else-is_watched w ↦ record {
        kept = search rules;
        cells = λ x k l. ap (λ q. cell n q.entries.now x k) w.self-is ∙ c.loop-slot.invariant.cells x k l ∙ note_no above grid b s v j x k (sym same ∙ sym w.if-is_watched.ensures);
      }
    ]

pub returns-clause-after : goal.returns-clause-after
returns-clause-after g c =
    let d : g.row.S.Denot × g.row.V.Denot = (g.S.Timestamp.lowest, g.V.Value.initial_value) in
    let above = g.S.Timestamp.above in
    let old = c.args.self.now in
    let n = old.n in
    let r = c.loop-slot.self in
    let grid = cell n old.entries.now in
    let end : c.loop-slot.slot ≡ n = omega arith in
    ap (λ m. view above d m r.entries.now) c.loop-slot.invariant.kept.servers
    ∙ shown_same above d n (cell n r.entries.now) (note_to above n grid c.args.server c.args.pair.0 c.args.pair.1)
    (λ x k l m. c.loop-slot.invariant.cells x k m ∙ ap (λ i. note_to above i grid c.args.server c.args.pair.0 c.args.pair.1 x k) end)
    ∙ note_all above g.met.S.Timestamp.ordered d n grid c.args.server c.args.pair.0 c.args.pair.1 c.requires.row
