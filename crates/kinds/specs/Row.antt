-- The day row: 24 hours in 6 bytes, four to a byte, the first in the lowest two bits.
use Rattle.std.specs.Prelude.{◌≡◌, ℕ, zero, suc, ◌+◌, ◌*◌, ◌/◌, ◌%◌, ◌^◌, ◌<◌, Bool, true, ◌&&◌, List, map, length, Some, None, Option, nat_lt, slice_index, slice_index_or}
use Rattle.std.specs.List.{range_with_len}
use Rattle.kinds.specs.declared.fault.ContentFault.{ContentFault}
use Rattle.kinds.specs.declared.fault.ContentFault.TheVariants.{BadContent}
use Rattle.kinds.specs.declared.row.HourMode.{HourMode}
use Rattle.kinds.specs.declared.row.HourMode.TheVariants.{Off, Low, Comfort}
use Rattle.kinds.specs.declared.row.DayRow.{DayRow}
use Rattle.kinds.specs.Kind.{fault_after}

abbrev pub code_of : HourMode → ℕ
code_of Off = 0
code_of Low = 1
code_of Comfort = 2

abbrev pub mode_of : ℕ → Option HourMode
mode_of zero = Some Off
mode_of (suc zero) = Some Low
mode_of (suc (suc zero)) = Some Comfort
mode_of (suc (suc (suc n))) = None

-- the code of hour k
abbrev pub hour_code : List HourMode → ℕ → ℕ
hour_code hours k = code_of (slice_index_or hours k Off)

abbrev pub row_byte : List HourMode → ℕ → ℕ
row_byte hours i = hour_code hours (4 * i) + 4 * hour_code hours (4 * i + 1) + 16 * hour_code hours (4 * i + 2) + 64 * hour_code hours (4 * i + 3)

abbrev pub row_bytes : DayRow → List ℕ
row_bytes row = map (row_byte row.hours) (range_with_len 0 6)

-- hour k as bytes hold it: the two bits from position 2 * (k mod 4) on of byte k div 4
abbrev pub hour_bits : List ℕ → ℕ → ℕ
hour_bits bs k = slice_index bs (k / 4) / 2 ^ (2 * (k % 4)) % 4

-- none of the first n hours is 3; by recursion, as the hours stand in bits and in no list
abbrev pub hours_legal : List ℕ → ℕ → Bool
hours_legal bs zero = true
hours_legal bs (suc n) = hours_legal bs n && nat_lt (hour_bits bs n) 3

abbrev pub row_fault : List ℕ → Option ContentFault
row_fault bs = fault_after 6 bs (hours_legal bs 24)

-- The format in words: hour k of a row stands at its two bits, six bytes are accepted if no hour is 3, and refused if one is
pub record RowFormat : Type 0 where
  pub written : (row : DayRow) (k : ℕ) → k < 24 → hour_bits (row_bytes row) k ≡ hour_code row.hours k
  pub accepted : (bs : List ℕ) → length bs ≡ 6 → ((k : ℕ) → k < 24 → hour_bits bs k < 3) → row_fault bs ≡ None
  pub refused : (bs : List ℕ) (k : ℕ) → length bs ≡ 6 → k < 24 → hour_bits bs k ≡ 3 → row_fault bs ≡ Some BadContent
