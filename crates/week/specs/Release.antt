-- What the release check says.
use Rattle.std.specs.Prelude.{◌≡◌, ℕ, ◌*◌, List, length, Ok, Err, Result, ◌≢◌}
use Rattle.kinds.specs.declared.kind.Kind.{Ghosts as Kind}
use Rattle.kinds.specs.declared.fault.ContentFault.TheVariants.{WrongLength}
use Rattle.week.specs.declared.fault.CheckFault.{CheckFault}
use Rattle.week.specs.declared.fault.CheckFault.TheVariants.{Day, Save}
use Rattle.week.specs.declared.verdict.Checked.{Checked}
use Rattle.week.specs.declared.week.Week.{Week}
use Rattle.week.specs.Week.{week_bytes, Loads}
use Rattle.week.specs.declared.verdict.Verdict.{Verdict}
use Rattle.week.specs.declared.verdict.Verdict.TheVariants.{MayLeave, Stays}

-- the build may leave exactly if the two saves are equal
abbrev pub Judges : List ℕ → List ℕ → Verdict → Type 0
Judges first second MayLeave = first ≡ second
Judges first second Stays = first ≢ second

-- a week is refused for its first bad day, and an accepted one where a slice for a save is not as long as the week
abbrev pub Refuses : {K : Type 0} → Kind K → List ℕ → List ℕ → List ℕ → CheckFault → Type 0
Refuses kind bs first second (Day e) = Loads kind bs (Err e)
Refuses {K} kind bs first second (Save e) =
    ((week : Week K) × (week_bytes kind.bytes week ≡ bs)) × (length first ≡ 7 * kind.width → length second ≢ 7 * kind.width) × (e ≡ WrongLength)

-- an accepted week is saved twice as the bytes it was loaded from, and the build may leave; a refusal saves nothing
abbrev pub Checks : {K : Type 0} → Kind K → List ℕ → List ℕ → List ℕ → List ℕ → List ℕ → Result (Checked K) CheckFault → Type 0
Checks kind bs first second first' second' (Ok r) = (week_bytes kind.bytes r.week ≡ bs) × (first' ≡ bs) × (second' ≡ bs) × (r.verdict ≡ MayLeave)
Checks kind bs first second first' second' (Err e) = (first' ≡ first) × (second' ≡ second) × Refuses kind bs first second e

-- the status of a program that says a verdict
abbrev pub status_of : Verdict → ℕ
status_of MayLeave = 0
status_of Stays = 1
