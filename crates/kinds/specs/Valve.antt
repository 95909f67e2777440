-- The valve record: setpoint, low byte first, then opening and flags.
use Rattle.std.specs.Prelude.{◌≡◌, ℕ, ◌+◌, ◌*◌, ◌/◌, ◌%◌, ◌<◌, Bool, ◌&&◌, ◌⊎◌, List, [], ◌∷◌, length, ℤ, pos, ◌<ℤ◌, Some, None, Option, int_le, nat_le, slice_index}
use Rattle.std.specs.Int.{w16}
use Rattle.std.proofs.Common.{of_z, to_z}
use Rattle.kinds.specs.declared.fault.ContentFault.{ContentFault}
use Rattle.kinds.specs.declared.fault.ContentFault.TheVariants.{BadContent}
use Rattle.kinds.specs.declared.valve.Valve.{Valve}
use Rattle.kinds.specs.Kind.{fault_after}

-- a signed number of 16 bits as its two bytes
abbrev pub low_byte : ℤ → ℕ
low_byte z = of_z w16 z % 256

abbrev pub high_byte : ℤ → ℕ
high_byte z = of_z w16 z / 256

abbrev pub valve_bytes : Valve → List ℕ
valve_bytes v = low_byte v.setpoint ∷ high_byte v.setpoint ∷ v.opening ∷ v.flags ∷ []

-- two bytes as a signed number of 16 bits
abbrev pub setpoint_of : List ℕ → ℤ
setpoint_of bs = to_z w16 (slice_index bs 0 + 256 * slice_index bs 1)

abbrev pub setpoint_legal : ℤ → Bool
setpoint_legal z = int_le (pos 50) z && int_le z (pos 300)

abbrev pub fields_legal : List ℕ → Bool
fields_legal bs = setpoint_legal (setpoint_of bs) && (nat_le (slice_index bs 2) 100 && nat_le (slice_index bs 3) 3)

abbrev pub valve_fault : List ℕ → Option ContentFault
valve_fault bs = fault_after 4 bs (fields_legal bs)

-- a field of the four bytes is outside its range
abbrev pub FieldOff : List ℕ → Type 0
FieldOff bs = (setpoint_of bs <ℤ pos 50) ⊎ ((pos 300 <ℤ setpoint_of bs) ⊎ ((100 < slice_index bs 2) ⊎ (3 < slice_index bs 3)))

-- The format in words: the setpoint stands in the first two bytes, then opening and flags; four bytes are accepted if each
-- field is in its range, and refused if one is not
pub record ValveFormat : Type 0 where
  pub setpoint : (v : Valve) → setpoint_of (valve_bytes v) ≡ v.setpoint
  pub opening : (v : Valve) → slice_index (valve_bytes v) 2 ≡ v.opening
  pub flags : (v : Valve) → slice_index (valve_bytes v) 3 ≡ v.flags
  pub accepted : (bs : List ℕ) → length bs ≡ 4 → (FieldOff bs → ⊥) → valve_fault bs ≡ None
  pub refused : (bs : List ℕ) → length bs ≡ 4 → FieldOff bs → valve_fault bs ≡ Some BadContent
