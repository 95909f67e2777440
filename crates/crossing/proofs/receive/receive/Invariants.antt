use Rattle.crossing.proofs.Arriving.{Underway}
use Rattle.crossing.proofs.receive.receive.Given as goal

-- each day has arrived or waits
abbrev pub invariant-loop-taken : goal.invariant-loop-taken
invariant-loop-taken g l = Underway l.order g.N.Network.ready (g.N.Network.waiting l.initial.network) (g.N.Network.waiting l.network) l.taken-index l.days l.taken-items
