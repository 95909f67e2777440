-- The faults of the release check, and their lines in the table of refusals.
use Rattle.refusal.specs.declared.Refusal.{Refusal}
use Rattle.kinds.specs.declared.fault.ContentFault.{ContentFault}
use Rattle.kinds.specs.Fault as kind
use Rattle.week.specs.declared.fault.CheckFault.{CheckFault}
use Rattle.week.specs.declared.fault.CheckFault.TheVariants.{Day, Save}

abbrev pub content_of : CheckFault → ContentFault
content_of (Day e) = e.fault
content_of (Save e) = e

-- what the kind refused is handed on whole
abbrev pub refusal_of : CheckFault → Refusal
refusal_of e = kind.refusal_of (content_of e)
