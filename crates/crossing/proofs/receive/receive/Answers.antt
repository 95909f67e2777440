use Rattle.std.proofs.Common.{refl, sym, ◌∙◌}
use Rattle.crossing.proofs.Arriving.{starts, takes, goes_on}
use Rattle.crossing.proofs.receive.receive.Goals as goal
use Rattle.crossing.proofs.receive.receive.Goals.{in-Some, in_default}

pub loop-taken-init : goal.loop-taken-init
loop-taken-init g c = starts c.args.order g.N.Network.ready (g.N.Network.waiting c.args.network.now) c.requires.seven c.requires.sent _ _ refl refl

pub loop-taken-preserved : goal.loop-taken-preserved
loop-taken-preserved g c =
    elim c.match-take_next.branch [
      | in-Some w ↦ rw (c.take_next.ensures.after, w.days-is, w.put.ensures, w.taken-items-is)
          (takes c.args.order g.N.Network.ready _ _ _ _ _ w.in-Some.message c.loop-taken.invariant c.loop-taken-test.true (sym c.take_next.ensures.value ∙ w.in-Some.is))
      | in_default w ↦ absurd (goes_on c.args.order g.N.Network.ready _ _ _ _ _ c.loop-taken.invariant c.loop-taken-test.true (sym c.take_next.ensures.value ∙ w.in_default.is))
    ]
