use Rattle.std.proofs.Common.{◌∙◌}
use Rattle.std.proofs.lemmas.Result.{err_from_is_err_and}
use Rattle.client.specs.Showing.{kinds_of}
use Rattle.client.proofs.Weighing.{value_weighed, value_overfull}
use Rattle.client.proofs.state.Client.on_value.Goals as goal

pub returns-in_err-found : goal.returns-in_err-found
returns-in_err-found g c =
    let K = kinds_of g.Q.QuorumSystem g.S.Timestamp g.V.Value c.args.system.now in
    let told = c.in_err-found.ensures in
    let p = err_from_is_err_and c.from_residual.result c.from_residual.ensures.1 in
    rw p.1 (
      p.2 ∙ told.0,
      value_overfull K (g.S.Timestamp.lowest, g.V.Value.initial_value) c.args.part.now c.args.message c.args.room c.args.self.now told.1 told.2,
      told.3,
    )

pub returns : goal.returns
returns g c =
    let K = kinds_of g.Q.QuorumSystem g.S.Timestamp g.V.Value c.args.system.now in
    let told = c.in_ok-found.ensures in
    value_weighed K (g.S.Timestamp.lowest, g.V.Value.initial_value) c.args.part.now c.args.message c.args.room c.args.self.now
    c.hear_within.new.part c.decided.result c.in_ok-found.found c.decided.ensures (told.0.enough c.requires) told.1
