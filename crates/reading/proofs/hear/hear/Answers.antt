use Rattle.std.proofs.Common.{◌≡◌, ◌≤◌, ◌+◌, ◌*◌, length, true, sym, ap, ◌∙◌, subst, arith}
use Rattle.std.proofs.lemmas.List.{length-take-le}
use Rattle.std.proofs.lemmas.Bool.{both_ways}
use Rattle.reading.specs.Hearing.{enough_memory}
use Rattle.reading.proofs.Parts.{room_enough, heard_whole}
use Rattle.reading.proofs.hear.hear.Goals as goal

pub returns : goal.returns
returns g c =
    let n = c.servers-n.result in
    let q = c.args.system.now in
    let p = c.args.part.now in
    let b = c.args.server in
    let d : g.row.S.Denot × g.row.V.Denot = (g.S.Timestamp.lowest, g.V.Value.initial_value) in
    let z = g.Q.QuorumSystem.size q in
    let nz : n ≡ z = c.servers-n.ensures in
    let few : n ≤ 16 = subst (λ k. k ≤ 16) (sym nz) (g.met.Q.QuorumSystem.lawful q).few_servers in
    let yes : enough_memory n p b ≡ true = sym c.if-not-has_room.ensures in
    let room : n * (n + 1) ≤ length p = room_enough n p b yes in
    let was = length-take-le c.entries_for.result p (omega (arith, c.entries_for.ensures, room)) in
    record {
      enough = λ e.
          heard_whole g.S.Timestamp.above g.V.Value.same (g.Q.QuorumSystem.quorum q) (g.Q.QuorumSystem.fail_prone q) d n z c.entries_for.result p c.learn.new.part b
          c.args.timestamp c.args.value c.learn.result nz c.entries_for.ensures room (c.learn.auto.part ∙ was) c.learn.ensures.after
          c.learn.ensures.answer;
      short = λ e. absurd (both_ways (enough_memory z p b) e (ap (λ k. enough_memory k p b) (sym nz) ∙ yes));
    }
