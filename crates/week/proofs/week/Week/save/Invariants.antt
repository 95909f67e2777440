use Rattle.std.proofs.Common.{◌≡◌, ◌*◌, take}
use Rattle.std.specs.List.{flat_map}
use Rattle.week.proofs.week.Week.save.Given as goal

-- the bytes so far are those of the days so far
abbrev pub invariant-loop-i : goal.invariant-loop-i
invariant-loop-i g l = take (l.i * l.width) l.to ≡ flat_map g.K.Kind.bytes (take l.i l.self.days)
