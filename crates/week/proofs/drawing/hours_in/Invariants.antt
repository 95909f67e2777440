use Rattle.std.proofs.Common.{◌≡◌, take}
use Rattle.week.specs.Drawing.{hours_in}
use Rattle.week.proofs.drawing.hours_in.Given as goal

-- the hours so far are counted
abbrev pub invariant-loop-hour : goal.invariant-loop-hour
invariant-loop-hour l = l.count ≡ hours_in l.mode (take l.hour-index l.hour-items)
