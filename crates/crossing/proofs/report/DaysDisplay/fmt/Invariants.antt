use Rattle.std.proofs.Common.{take}
use Rattle.std.specs.Fmt.{IsPlainFormatter, HasWritten}
use Rattle.crossing.specs.Report.{days_text}
use Rattle.crossing.proofs.report.DaysDisplay.fmt.Given as goal

-- the days so far are written
abbrev pub invariant-loop-day : goal.invariant-loop-day
invariant-loop-day g l = IsPlainFormatter l.initial.f → HasWritten g.W.Write.write_str_gives l.initial.f (days_text (take l.day-index l.day-items)) l.f
