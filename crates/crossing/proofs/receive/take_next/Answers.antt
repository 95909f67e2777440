use Rattle.std.proofs.Common.{ap, ◌∙◌}
use Rattle.std.specs.Result.{result_ok}
use Rattle.crossing.proofs.Places.{next_taken}
use Rattle.crossing.proofs.receive.take_next.Goals as goal

pub returns : goal.returns
returns g c =
    let taken = next_taken g.N.Network.ready g.met.N.Network.progress c.args.order _ _ c.in_ok-next_place.ensures in
    record { value = c.ok.ensures.value ∙ ap result_ok c.take.ensures.value ∙ taken.0; after = c.take.ensures.after ∙ taken.1 }
