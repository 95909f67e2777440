-- Why a week of day rows is refused, and how that is said.
use Rattle.std.specs.Prelude.{ℕ, if◌then◌else◌, List, ◌++◌, codes, decimal, nat_lt}
use Rattle.kinds.specs.declared.fault.ContentFault.{ContentFault}
use Rattle.kinds.specs.Fault.{is_length}
use Rattle.week.specs.declared.fault.CheckFault.{CheckFault}
use Rattle.week.specs.declared.fault.CheckFault.TheVariants.{Day, Save}
use Rattle.week.specs.declared.reason.Reason.{Reason}
use Rattle.week.specs.declared.reason.Reason.TheVariants.{BadHour, Short, Long, SaveLength}

-- a wrong length of a week of which n bytes were read: it ends too early, or goes on
abbrev pub length_reason : ℕ → Reason
length_reason n = if nat_lt n 42 then Short n else Long

abbrev pub day_reason : ContentFault → ℕ → Reason
day_reason e n = if is_length e then length_reason n else BadHour

abbrev pub reason_of : CheckFault → ℕ → Reason
reason_of (Day e) n = day_reason e.fault n
reason_of (Save e) n = SaveLength

abbrev pub reason_text : Reason → List ℕ
reason_text BadHour = codes "an hour of the day is 3, which is neither off, low nor comfort"
reason_text (Short n) = codes "the week ends after " ++ (decimal n ++ codes " of 42 bytes")
reason_text Long = codes "the week goes on after 42 bytes"
reason_text SaveLength = codes "the slice for it is not as long as the week"
