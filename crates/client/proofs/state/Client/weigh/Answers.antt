use Rattle.std.proofs.Common.{◌≡◌, ◌&&◌, false, rules as general_rules}
use Rattle.reading.specs.Reports.{view}
use Rattle.client.specs.Showing.{kinds_of}
use Rattle.client.specs.Taking.{is_reading, is_value}
use Rattle.client.proofs.Weighing.{weigh_fitting}
use Rattle.client.proofs.state.Client.weigh.Goals as goal

pub returns-in_default-clause-weighed : goal.returns-in_default-clause-weighed
returns-in_default-clause-weighed g c =
    let K = kinds_of g.Q.QuorumSystem g.S.Timestamp g.V.Value c.args.system.now in
    let d : g.row.S.Denot × g.row.V.Denot = (g.S.Timestamp.lowest, g.V.Value.initial_value) in
    let p = c.args.part.now in
    let m = c.args.message in
    let known = view g.S.Timestamp.above d K.rules.n p in
    let other : (is_reading c.args.self.now.phase && is_value c.args.kind) ≡ false = search general_rules in
    rw (← (c.on_other.ensures known other)) (weigh_fitting K d p m c.args.room c.on_other.result c.within.result c.within.ensures)
