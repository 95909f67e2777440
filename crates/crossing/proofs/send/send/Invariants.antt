use Rattle.crossing.proofs.Messages.{Sending}
use Rattle.crossing.proofs.send.send.Given as goal

abbrev pub invariant-loop-day : goal.invariant-loop-day
invariant-loop-day g l =
    Sending l.week.days l.day l.posted (g.N.Network.waiting l.network) (g.N.Network.capacity l.initial.network) (g.N.Network.capacity l.network)
