-- The faults of content kinds, and their lines in the table of refusals.
use Rattle.std.specs.Prelude.{Bool, true, false}
use Rattle.refusal.specs.declared.Layer.TheVariants.{Kind}
use Rattle.refusal.specs.declared.Place.TheVariants.{Zero}
use Rattle.refusal.specs.declared.Refusal.{Refusal}
use Rattle.kinds.specs.declared.fault.ContentFault.{ContentFault}
use Rattle.kinds.specs.declared.fault.ContentFault.TheVariants.{WrongLength, BadContent}

abbrev pub refusal_of : ContentFault → Refusal
refusal_of WrongLength = record { layer = Kind; number = 21; place = Zero }
refusal_of BadContent = record { layer = Kind; number = 21; place = Zero }

abbrev pub is_length : ContentFault → Bool
is_length WrongLength = true
is_length BadContent = false
