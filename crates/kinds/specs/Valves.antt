-- Fields and bytes of a valve record.
use Rattle.std.specs.Prelude.{◌≡◌, ℕ, ◌+◌, ◌*◌, ◌<◌, List, [], ◌∷◌, length, None, slice_index, refl}
use Rattle.std.proofs.Common.{sym, ◌∙◌, arith, of_z}
use Rattle.std.specs.Int.{w16}
use Rattle.std.proofs.lemmas.List.FromFn.{fill_by_all}
use Rattle.std.proofs.lemmas.Int.{of_z-to_z, ints}
use Rattle.std.proofs.lemmas.Bool.Decides.{nat_tests}
use Rattle.kinds.specs.declared.valve.Valve.{Valve}
use Rattle.kinds.specs.Faults.{fault_none}
use Rattle.kinds.specs.Valve.{low_byte, high_byte, valve_bytes, setpoint_of, fields_legal, valve_fault}

module _ (bs : List ℕ) (small : (k : ℕ) → slice_index bs k < 256) where
  bits_back : of_z w16 (setpoint_of bs) ≡ slice_index bs 0 + 256 * slice_index bs 1
  bits_back = of_z-to_z w16 (slice_index bs 0 + 256 * slice_index bs 1) (omega (arith, small 0, small 1))

  -- the setpoint that two bytes stand for is written as them
  pub setpoint_low : low_byte (setpoint_of bs) ≡ slice_index bs 0
  setpoint_low = let b = bits_back in omega (arith, small 0)

  pub setpoint_high : high_byte (setpoint_of bs) ≡ slice_index bs 1
  setpoint_high = let b = bits_back in omega (arith, small 0)

pub four_bytes : (bs : List ℕ) → length bs ≡ 4 → bs ≡ slice_index bs 0 ∷ slice_index bs 1 ∷ slice_index bs 2 ∷ slice_index bs 3 ∷ []
four_bytes bs len = fill_by_all (λ k. slice_index bs k) bs 4 0 len (λ k h. refl)

-- bytes that are not refused are those of a valve record
pub valve_complete : (bs : List ℕ) → ((k : ℕ) → slice_index bs k < 256) → valve_fault bs ≡ None → (v : Valve) × (valve_bytes v ≡ bs)
valve_complete bs small none =
    let parts = fault_none 4 bs (fields_legal bs) none in
    let fields = parts.1 in
    let low = setpoint_low bs small in
    let high = setpoint_high bs small in
    let spelt = four_bytes bs parts.0 in
    let v : Valve = record {
      setpoint = setpoint_of bs;
      opening = slice_index bs 2;
      flags = slice_index bs 3;
      above = grind (arith, nat_tests, ints);
      below = grind (arith, nat_tests, ints);
      percent = grind (arith, nat_tests);
      flagged = grind (arith, nat_tests);
    } in
    let same : valve_bytes v ≡ slice_index bs 0 ∷ slice_index bs 1 ∷ slice_index bs 2 ∷ slice_index bs 3 ∷ [] = λ i. low i ∷ high i ∷ slice_index bs 2 ∷ slice_index bs 3 ∷ [] in
    (v, ◌∙◌ {a = valve_bytes v} same (sym spelt))
