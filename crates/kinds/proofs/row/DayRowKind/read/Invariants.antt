use Rattle.std.proofs.Common.{◌≡◌, ℕ, ◌<◌, length}
use Rattle.kinds.specs.Row.{hour_code, hour_bits}
use Rattle.kinds.proofs.row.DayRowKind.read.Given as goal

abbrev pub invariant-loop-hour : goal.invariant-loop-hour
invariant-loop-hour l = (length l.mode-items ≡ 24) × ((k : ℕ) → k < l.hour → hour_code l.mode-items k ≡ hour_bits l.bytes k)
