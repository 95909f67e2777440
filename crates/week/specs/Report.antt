-- The words of the report: a day's line, an accepted week, a refused one, the verdict.
use Rattle.std.specs.Prelude.{ℕ, List, ◌++◌, map, length, codes, decimal}
use Rattle.std.specs.List.{flat_map, zip}
use Rattle.refusal.specs.Text.{refusal_text}
use Rattle.kinds.specs.declared.row.DayRow.{DayRow}
use Rattle.kinds.specs.declared.row.HourMode.TheVariants.{Low, Comfort}
use Rattle.week.specs.declared.day.Day.{Day}
use Rattle.week.specs.declared.day.Day.TheVariants.{Monday, Tuesday, Wednesday, Thursday, Friday, Saturday, Sunday}
use Rattle.week.specs.declared.fault.CheckFault.{CheckFault}
use Rattle.week.specs.declared.fault.CheckFault.TheVariants.{Day as DayFault, Save as SaveFault}
use Rattle.week.specs.declared.verdict.Verdict.{Verdict}
use Rattle.week.specs.declared.verdict.Verdict.TheVariants.{MayLeave, Stays}
use Rattle.week.specs.declared.week.Week.{Week}
use Rattle.week.specs.Drawing.{sign_of, hours_in}
use Rattle.week.specs.Fault.{refusal_of}
use Rattle.week.specs.Reason.{reason_of, reason_text}
use Rattle.week.specs.Week.{week_days}

abbrev pub day_text : Day → List ℕ
day_text Monday = codes "Monday"
day_text Tuesday = codes "Tuesday"
day_text Wednesday = codes "Wednesday"
day_text Thursday = codes "Thursday"
day_text Friday = codes "Friday"
day_text Saturday = codes "Saturday"
day_text Sunday = codes "Sunday"

-- the hours drawn from midnight on, the day, and its hours of comfort and of low
abbrev pub line_text : Day → DayRow → List ℕ
line_text day row =
    map sign_of row.hours
    ++ (codes "  " ++ (day_text day ++ (codes ": comfort " ++ (decimal (hours_in Comfort row.hours) ++ (codes " h, low " ++ (decimal (hours_in Low row.hours) ++ codes " h"))))))

abbrev pub verdict_text : Verdict → List ℕ
verdict_text MayLeave = codes "Verdict: the build may leave; both saves are alike."
verdict_text Stays = codes "Verdict: the build stays."

-- what was refused
abbrev pub subject_text : CheckFault → List ℕ
subject_text (DayFault e) = day_text e.day
subject_text (SaveFault e) = codes "A save"

abbrev pub refused_text : CheckFault → ℕ → List ℕ
refused_text e n =
    subject_text e ++ (codes " is refused: " ++ (refusal_text (refusal_of e) ++ (codes "\nReason: " ++ (reason_text (reason_of e n) ++ (codes "\n" ++ verdict_text Stays)))))

-- a line for each day that has a row
abbrev pub lines_text : List Day → List DayRow → List ℕ
lines_text days rows = flat_map (λ p. line_text p.0 p.1 ++ codes "\n") (zip days rows)

-- a week and its two saves, without a verdict
abbrev pub saved_text : Week DayRow → List ℕ → List ℕ → List ℕ
saved_text week first second =
    codes "Hours from midnight: '.' off, '-' low, '#' comfort\n"
    ++ (lines_text week_days week.days ++ (codes "First save:  " ++ (decimal (length first) ++ (codes " bytes\nSecond save: " ++ (decimal (length second) ++ codes " bytes")))))

-- a week and its two saves, and the verdict on them
abbrev pub accepted_text : Week DayRow → List ℕ → List ℕ → Verdict → List ℕ
accepted_text week first second verdict = saved_text week first second ++ (codes "\n" ++ verdict_text verdict)
