-- The law of content kinds.
use Rattle.std.specs.Prelude.{◌≡◌, ◌≢◌, List, ℕ, length, Ok, Err, Result}
use Rattle.kinds.specs.declared.fault.ContentFault.{ContentFault}
use Rattle.kinds.specs.declared.fault.ContentFault.TheVariants.{WrongLength}
use Rattle.kinds.specs.declared.kind.Kind.{Ghosts as Kind}
use Rattle.kinds.specs.Kind.{Reads}

-- what was written for a content reads back as that content, accepted bytes are the bytes written for what was read,
-- and a slice has one answer
pub record KindLaw {X : Type 0} (kind : Kind X) : Type 0 where
  pub written : (x : X) (r : Result X ContentFault) → Reads kind.bytes kind.fault (kind.bytes x) r → r ≡ Ok x
  pub accepted : (bs : List ℕ) (x : X) → Reads kind.bytes kind.fault bs (Ok x) → kind.bytes x ≡ bs
  pub one : (bs : List ℕ) (r s : Result X ContentFault) → Reads kind.bytes kind.fault bs r → Reads kind.bytes kind.fault bs s → r ≡ s

-- x was written over a slice as long as the kind is wide and read back as itself; any other slice stays as it was
abbrev pub RoundTrips : {X : Type 0} → Kind X → X → List ℕ → List ℕ → Result X ContentFault → Type 0
RoundTrips kind x old new (Ok y) = (length old ≡ kind.width) × (new ≡ kind.bytes x) × (y ≡ x)
RoundTrips kind x old new (Err e) = (length old ≢ kind.width) × (new ≡ old) × (e ≡ WrongLength)
