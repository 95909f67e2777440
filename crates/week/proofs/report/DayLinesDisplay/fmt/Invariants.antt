use Rattle.std.proofs.Common.{length, take, ◌++◌, codes}
use Rattle.std.specs.Fmt.{IsPlainFormatter, HasWritten}
use Rattle.std.specs.List.{flat_map, zip}
use Rattle.week.specs.Report.{line_text}
use Rattle.week.specs.Week.{week_days}
use Rattle.week.proofs.report.DayLinesDisplay.fmt.Given as goal

-- the lines of the days so far are written
abbrev pub invariant-loop-day : goal.invariant-loop-day
invariant-loop-day g l = IsPlainFormatter l.initial.f → HasWritten g.W.Write.write_str_gives l.initial.f (flat_map (λ p. line_text p.0 p.1 ++ codes "\n") (take (length l.yielded) (zip week_days l.self.0.now.days))) l.f
