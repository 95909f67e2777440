-- Hours and bytes of a day row.
use Rattle.std.specs.Prelude.{◌≡◌, ℕ, zero, suc, ◌+◌, ◌*◌, ◌/◌, ◌%◌, ◌^◌, ◌<◌, ◌≤◌, false, List, map, length, Some, None, IsTrue, slice_index, slice_index_or, refl}
use Rattle.std.proofs.Common.{ap, ◌∙◌, sym, arith, add-zero}
use Rattle.std.specs.List.{range_with_len}
use Rattle.std.specs.Option.{unwrap_or}
use Rattle.std.proofs.lemmas.List.FromFn.{get_or-map-range_with_len, length-map-range_with_len, fill_by_all}
use Rattle.std.proofs.lemmas.Bool.Decides.{nat_tests}
use Rattle.kinds.specs.declared.row.HourMode.{HourMode}
use Rattle.kinds.specs.declared.row.HourMode.TheVariants.{Off, Low, Comfort}
use Rattle.kinds.specs.declared.row.DayRow.{DayRow}
use Rattle.kinds.specs.Faults.{fault_none}
use Rattle.kinds.specs.Row.{code_of, mode_of, hour_code, row_byte, row_bytes, hour_bits, hours_legal, row_fault}

pub code_le : (m : HourMode) → code_of m ≤ 2
code_le Off = omega arith
code_le Low = omega arith
code_le Comfort = omega arith

-- a mode comes back from its code
pub mode_of_code : (m : HourMode) → mode_of (code_of m) ≡ Some m
mode_of_code Off = refl
mode_of_code Low = refl
mode_of_code Comfort = refl

pub code_apart : (m n : HourMode) → code_of m ≡ code_of n → m ≡ n
code_apart m n e = cc (mode_of_code m, mode_of_code n)

-- the code of the mode that a code stands for, and no mode for 3
pub code_of_mode : (n : ℕ) (m : HourMode) → mode_of n ≡ Some m → code_of m ≡ n
code_of_mode zero m e = cc
code_of_mode (suc zero) m e = cc
code_of_mode (suc (suc zero)) m e = cc
code_of_mode (suc (suc (suc n))) m e = cc

pub no_mode : (n : ℕ) → mode_of n ≡ None → 3 ≤ n
no_mode zero e = cc
no_mode (suc zero) e = cc
no_mode (suc (suc zero)) e = cc
no_mode (suc (suc (suc n))) e = omega arith

-- what holds of every hour, and what one bad hour does
pub all_legal : (bs : List ℕ) (n : ℕ) → ((k : ℕ) → k < n → hour_bits bs k < 3) → IsTrue (hours_legal bs n)
all_legal bs zero h = refl
all_legal bs (suc n) h =
    let earlier = all_legal bs n (λ k l. h k (omega arith)) in
    let here = h n (omega arith) in
    grind (arith, nat_tests)

pub one_illegal : (bs : List ℕ) (n k : ℕ) → k < n → 3 ≤ hour_bits bs k → hours_legal bs n ≡ false
one_illegal bs zero k l h = absurd (omega arith)
one_illegal bs (suc n) k l h = let earlier = one_illegal bs n k in grind (arith, nat_tests)

pub each_legal : (bs : List ℕ) (n : ℕ) → IsTrue (hours_legal bs n) → (k : ℕ) → k < n → hour_bits bs k < 3
each_legal bs n all k h = let illegal = one_illegal bs n k h in grind arith

module _ (hs : List HourMode) (q : ℕ) where
  at : (j : ℕ) → hour_code hs (4 * q + j) ≤ 2
  at j = code_le (slice_index_or hs (4 * q + j) Off)

  in_byte : (j : ℕ) → j < 4 → hour_code hs (4 * q + j) ≡ row_byte hs q / 2 ^ (2 * j) % 4
  in_byte zero h = ap (hour_code hs) (add-zero (4 * q)) ∙ omega (arith, at 1, at 2, at 3, code_le (slice_index_or hs (4 * q) Off))
  in_byte (suc zero) h = omega (arith, at 1, at 2, at 3, code_le (slice_index_or hs (4 * q) Off))
  in_byte (suc (suc zero)) h = omega (arith, at 1, at 2, at 3, code_le (slice_index_or hs (4 * q) Off))
  in_byte (suc (suc (suc zero))) h = omega (arith, at 1, at 2, at 3, code_le (slice_index_or hs (4 * q) Off))
  in_byte (suc (suc (suc (suc j)))) h = absurd (omega arith)

-- the bytes of a row hold its hours
pub hour_bits-row_bytes : (r : DayRow) (k : ℕ) → k < 24 → hour_bits (row_bytes r) k ≡ hour_code r.hours k
hour_bits-row_bytes r k h =
    let here : 4 * (k / 4) + k % 4 ≡ k = omega arith in
    ap (λ b. b / 2 ^ (2 * (k % 4)) % 4) (get_or-map-range_with_len (row_byte r.hours) 0 6 (k / 4) (k / 4) 0 (omega arith) (omega arith))
    ∙ sym (in_byte r.hours (k / 4) (k % 4) (omega arith)) ∙ ap (hour_code r.hours) here

bits_at : (bs : List ℕ) (q j : ℕ) → j < 4 → hour_bits bs (4 * q + j) ≡ slice_index bs q / 2 ^ (2 * j) % 4
bits_at bs q j h =
    let d : (4 * q + j) / 4 ≡ q = omega arith in
    let m : (4 * q + j) % 4 ≡ j = omega arith in
    rw (d, m)

four_digits : (b : ℕ) → b < 256 → b % 4 + 4 * (b / 4 % 4) + 16 * (b / 16 % 4) + 64 * (b / 64 % 4) ≡ b
four_digits b h = omega arith

-- six bytes are the bytes of the hours that they hold
pub bytes_from : (bs : List ℕ) (hs : List HourMode) → length bs ≡ 6 → ((i : ℕ) → slice_index bs i < 256) → ((k : ℕ) → k < 24 → hour_code hs k ≡ hour_bits bs k)
    → map (row_byte hs) (range_with_len 0 6) ≡ bs
bytes_from bs hs len small read = sym (fill_by_all (row_byte hs) bs 6 0 len byte)
  where
    byte : (q : ℕ) → q < 6 → slice_index bs q ≡ row_byte hs q
    byte q h =
        let at : (j : ℕ) → j < 4 → hour_code hs (4 * q + j) ≡ slice_index bs q / 2 ^ (2 * j) % 4 = λ j l. read (4 * q + j) (omega arith) ∙ bits_at bs q j l in
        omega (arith, four_digits (slice_index bs q) (small q), ap (hour_code hs) (add-zero (4 * q)), at 0 (omega arith), at 1 (omega arith), at 2 (omega arith), at 3 (omega arith))

-- the mode of a legal code, which has that code
mode_at : List ℕ → ℕ → HourMode
mode_at bs k = unwrap_or (mode_of (hour_bits bs k)) Off

code_back : (n : ℕ) → n < 3 → code_of (unwrap_or (mode_of n) Off) ≡ n
code_back zero h = refl
code_back (suc zero) h = refl
code_back (suc (suc zero)) h = refl
code_back (suc (suc (suc n))) h = absurd (omega arith)

-- bytes that are not refused are those of a row
pub row_complete : (bs : List ℕ) → ((k : ℕ) → slice_index bs k < 256) → row_fault bs ≡ None → (row : DayRow) × (row_bytes row ≡ bs)
unfolding mode_at
row_complete bs small none =
    let parts = fault_none 6 bs (hours_legal bs 24) none in
    let hours : List HourMode = map (mode_at bs) (range_with_len 0 24) in
    let held : (k : ℕ) → k < 24 → hour_code hours k ≡ hour_bits bs k =
    λ k h. ap code_of (get_or-map-range_with_len (mode_at bs) 0 24 k k Off h (omega arith)) ∙ code_back (hour_bits bs k) (each_legal bs 24 parts.1 k h) in
    (record { hours = hours; whole = length-map-range_with_len (mode_at bs) 0 24 }, bytes_from bs hours parts.0 small held)
