use Rattle.std.proofs.Common.{◌+◌, List, take, sym, subst, arith}
use Rattle.std.proofs.lemmas.List.{take_all}
use Rattle.calls.specs.declared.Answer.{Answer}
use Rattle.calls.specs.declared.Call.{Call}
use Rattle.delivery.specs.Memory.{contents}
use Rattle.register.specs.declared.record.Register.{Register}
use Rattle.register.specs.Calling.{kinds, Answers}
use Rattle.runs.specs.Playing.{Playing}
use Rattle.runs.proofs.Loans.{loans_same, loans_still}
use Rattle.runs.proofs.Turns.{play_none, play_next}
use Rattle.runs.proofs.play.play_all.Goals as goal

pub loop-i-init : goal.loop-i-init
loop-i-init g c = record { loans = loans_same c.args.memory.now; played = play_none _ _ _ _ c.requires.fits c.requires.fresh }

pub put-requires : goal.put-requires
put-requires g c = omega (arith, c.requires.room, c.loop-i-test.true, c.loop-i.auto.answers)

pub loop-i-preserved : goal.loop-i-preserved
loop-i-preserved g c =
    let Kof = λ (r : Register g.row.Q.Denot). kinds g.Q.QuorumSystem g.S.Timestamp g.V.Value r in
    let h = c.args.register.now in
    let x = contents c.args.memory.now in
    let y = contents c.loop-i.memory in
    let z = contents c.answer-answer.new.memory in
    let P : Register g.row.Q.Denot → Type 0 = λ r. Answers (Kof r) c.loop-i.register y c.index-calls-i.result c.answer-answer.result c.answer-answer.new.self z in
    let answered : P h = subst P c.loop-i.invariant.played.setting_kept c.answer-answer.ensures.answers in
    let done = play_next (Kof h) h x c.args.answers.now c.args.calls.now c.loop-i.i c.index-calls-i.result
    c.loop-i.register c.answer-answer.new.self y z c.loop-i.answers c.answer-answer.result c.loop-i-test.true c.requires.room c.index-calls-i.is c.loop-i.invariant.played answered in
    let R : List (Answer g.row.S.Denot g.row.V.Denot) → Type 0 = λ l.
    Playing (Kof h) (take (c.loop-i.i + 1) c.args.calls.now) h x c.args.answers.now c.answer-answer.new.self z l in
    record {
      loans = loans_still c.args.memory.now c.loop-i.memory c.answer-answer.new.memory c.loop-i.invariant.loans c.answer-answer.ensures.loans;
      played = subst R (sym c.put.ensures) done;
    }

pub returns : goal.returns
returns g c =
    let h = c.args.register.now in
    let R : List (Call g.row.S.Denot g.row.V.Denot) → Type 0 = λ l.
    Playing (kinds g.Q.QuorumSystem g.S.Timestamp g.V.Value h) l h (contents c.args.memory.now) c.args.answers.now c.loop-i.register (contents c.loop-i.memory) c.loop-i.answers in
    record { loans = c.loop-i.invariant.loans; played = subst R (take_all c.loop-i.i c.args.calls.now c.loop-i-test.false) c.loop-i.invariant.played }
