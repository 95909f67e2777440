use Rattle.std.proofs.Common.{◌≡◌, ℕ, ◌+◌, ◌<◌, length}
use Rattle.std.specs.Prelude.{slice_index_or}
use Rattle.week.specs.Week.{day_part}
use Rattle.week.proofs.week.Week.load.Given as goal

-- each day so far was read from its part of the bytes
abbrev pub invariant-loop-day : goal.invariant-loop-day
invariant-loop-day g l =
    (length l.days ≡ 7) × ((k : ℕ) (x : g.row.K.Denot) → k < l.day-index + 1 → g.K.Kind.bytes (slice_index_or l.days k x) ≡ day_part g.K.Kind.width l.bytes k)
