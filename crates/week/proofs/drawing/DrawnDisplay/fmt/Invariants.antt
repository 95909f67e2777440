use Rattle.std.proofs.Common.{map, take}
use Rattle.std.specs.Fmt.{IsPlainFormatter, HasWritten}
use Rattle.week.specs.Drawing.{sign_of}
use Rattle.week.proofs.drawing.DrawnDisplay.fmt.Given as goal

-- the hours so far are drawn
abbrev pub invariant-loop-hour : goal.invariant-loop-hour
invariant-loop-hour g l = IsPlainFormatter l.initial.f → HasWritten g.W.Write.write_str_gives l.initial.f (map sign_of (take l.hour-index l.hour-items)) l.f
