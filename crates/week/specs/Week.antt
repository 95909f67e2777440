-- A week as bytes: seven contents of one kind, one behind the other, Monday first.
use Rattle.std.specs.Prelude.{◌≡◌, ℕ, ◌*◌, ◌<◌, if◌then◌else◌, List, [], ◌∷◌, take, drop, Some, None, Ok, Err, Result, nat_lt}
use Rattle.std.specs.List.{flat_map}
use Rattle.kinds.specs.declared.kind.Kind.{Ghosts as Kind}
use Rattle.week.specs.declared.day.Day.{Day}
use Rattle.week.specs.declared.day.Day.TheVariants.{Monday, Tuesday, Wednesday, Thursday, Friday, Saturday, Sunday}
use Rattle.week.specs.declared.day.RefusedDay.{RefusedDay}
use Rattle.week.specs.declared.week.Week.{Week}

abbrev pub day_index : Day → ℕ
day_index Monday = 0
day_index Tuesday = 1
day_index Wednesday = 2
day_index Thursday = 3
day_index Friday = 4
day_index Saturday = 5
day_index Sunday = 6

abbrev pub week_days : List Day
week_days = Monday ∷ Tuesday ∷ Wednesday ∷ Thursday ∷ Friday ∷ Saturday ∷ Sunday ∷ []

abbrev pub week_bytes : {K : Type 0} → (K → List ℕ) → Week K → List ℕ
week_bytes bytes week = flat_map bytes week.days

-- what day k has of the bytes: the first six days a content each, Sunday all that is left
abbrev pub day_part : ℕ → List ℕ → ℕ → List ℕ
day_part width bs k = if nat_lt k 6 then take width (drop (k * width) bs) else drop (k * width) bs

-- a day was read from its part of the bytes, or refused
abbrev pub LoadsDay : {K : Type 0} → Kind K → List ℕ → Day → Result K RefusedDay → Type 0
LoadsDay kind bs day (Ok x) = kind.bytes x ≡ day_part kind.width bs (day_index day)
LoadsDay kind bs day (Err e) = (kind.fault (day_part kind.width bs (day_index day)) ≡ Some e.fault) × (e.day ≡ day)

-- accepted bytes are those of the week that was loaded; others name the first day whose part is refused, and its fault
abbrev pub Loads : {K : Type 0} → Kind K → List ℕ → Result (Week K) RefusedDay → Type 0
Loads kind bs (Ok week) = week_bytes kind.bytes week ≡ bs
Loads kind bs (Err e) = (kind.fault (day_part kind.width bs (day_index e.day)) ≡ Some e.fault) × ((k : ℕ) → k < day_index e.day → kind.fault (day_part kind.width bs k) ≡ None)
