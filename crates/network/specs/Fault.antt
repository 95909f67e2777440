-- The faults of networks, and their lines in the table of refusals.
use Rattle.refusal.specs.declared.Layer.TheVariants.{Network}
use Rattle.refusal.specs.declared.Place.TheVariants.{Zero, Waiting}
use Rattle.refusal.specs.declared.Refusal.{Refusal}
use Rattle.network.specs.declared.fault.NetworkFault.{NetworkFault}
use Rattle.network.specs.declared.fault.NetworkFault.TheVariants.{NoPlace, NotReady, Full, NoMemory}

-- want of memory is no refusal of a call: it is outside the table, and 0 is no number of it
abbrev pub refusal_of : NetworkFault → Refusal
refusal_of (NoPlace at) = record { layer = Network; number = 15; place = Waiting at }
refusal_of (NotReady at) = record { layer = Network; number = 16; place = Waiting at }
refusal_of Full = record { layer = Network; number = 17; place = Zero }
refusal_of NoMemory = record { layer = Network; number = 0; place = Zero }
