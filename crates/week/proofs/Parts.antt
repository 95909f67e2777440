-- The parts of a week's bytes, put together again.
use Rattle.std.proofs.Common.{◌≡◌, ℕ, zero, suc, ◌+◌, ◌*◌, ◌<◌, ◌≤◌, nat_lt, if◌then◌else◌, List, [], ◌++◌, length, take, drop, sym, ap, ◌∙◌, zero-mul, add-mul, take-add, add-one, arith}
use Rattle.std.specs.Prelude.{slice_index_or}
use Rattle.std.specs.List.{flat_map}
use Rattle.std.proofs.lemmas.Bool.Decides.{nat_tests}
use Rattle.std.proofs.lemmas.List.{take_all, take-append-drop, take_more, flat_map_more}
use Rattle.week.specs.declared.day.Day.{Day}
use Rattle.week.specs.Week.{day_index, day_part, week_days}

-- the bytes of the first k days
abbrev pub up_to : ℕ → List ℕ → ℕ → List ℕ
up_to width bs k = if nat_lt k 7 then take (k * width) bs else bs

pub up_to_more : (width : ℕ) (bs : List ℕ) (k : ℕ) → k < 7 → up_to width bs k ++ day_part width bs k ≡ up_to width bs (k + 1)
up_to_more width bs k h =
    let row : (k + 1) * width ≡ k * width + width = omega (arith, add-mul k 1 width) in
    grind (arith, nat_tests, take-add (k * width) width bs, take-append-drop (k * width) bs)

-- the days after Monday stand at the places after 0
pub place_after_monday : (i : ℕ) (day : Day) → i < 6 → day_index (slice_index_or (drop 1 week_days) i day) ≡ i + 1
place_after_monday i day h = grind arith

-- seven contents that were each read from their part are written as the bytes
module _ {K : Type 0} (bytes : K → List ℕ) (width : ℕ) (bs : List ℕ) (xs : List K) (x : K) (seven : length xs ≡ 7) (each : (k : ℕ) → k < 7 → bytes (slice_index_or xs k x) ≡ day_part width bs k) where
  joined_to : (k : ℕ) → k ≤ 7 → flat_map bytes (take k xs) ≡ up_to width bs k
  joined_to zero h = ap (λ n. take n bs) (sym (zero-mul width))
  joined_to (suc k) h =
      let more = sym (flat_map_more bytes [] (take k xs) (slice_index_or xs k x)) in
      rw (← add-one k, take_more xs k x (omega arith), ← up_to_more width bs k (omega arith), ← joined_to k (omega arith), ← each k (omega arith)) more

  pub joined : flat_map bytes xs ≡ bs
  joined = sym (ap (flat_map bytes) (take_all 7 xs (omega arith))) ∙ joined_to 7 (omega arith)
