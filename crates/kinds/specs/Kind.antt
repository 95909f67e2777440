-- What a content kind reads and writes, over the bytes of its contents and the faults of refused bytes.
use Rattle.std.specs.Prelude.{◌≡◌, ℕ, Bool, if◌then◌else◌, List, length, Some, None, Ok, Err, Option, Result, ◌==◌, ◌≢◌}
use Rattle.kinds.specs.declared.fault.ContentFault.{ContentFault}
use Rattle.kinds.specs.declared.fault.ContentFault.TheVariants.{WrongLength, BadContent}

-- accepted bytes are the bytes written for what was read; others get the kind's own fault for them
abbrev pub Reads : {X : Type 0} → (X → List ℕ) → (List ℕ → Option ContentFault) → List ℕ → Result X ContentFault → Type 0
Reads bytes fault bs (Ok x) = bytes x ≡ bs
Reads bytes fault bs (Err e) = fault bs ≡ Some e

-- the fault of bytes for a kind that is n wide: a wrong length comes before what the bytes hold
abbrev pub fault_after : ℕ → List ℕ → Bool → Option ContentFault
fault_after n bs legal = if length bs == n then (if legal then None else Some BadContent) else Some WrongLength

-- a slice that is n long becomes bs, and any other stays as it was
abbrev pub Writes : ℕ → List ℕ → List ℕ → List ℕ → Result (Unit {0}) ContentFault → Type 0
Writes n bs old new (Ok x) = (length old ≡ n) × (new ≡ bs)
Writes n bs old new (Err e) = (length old ≢ n) × (new ≡ old) × (e ≡ WrongLength)
