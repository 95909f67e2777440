-- What the search for an earlier message on the same lane decides.
use Rattle.std.proofs.Common.{◌≡◌, ◌↔◌, ℕ, ◌<◌, Bool, IsTrue, not, List, [], ◌∷◌, length, take, slice_index_or, arith, length-take}
use Rattle.std.proofs.lemmas.List.{get_or-take}
use Rattle.std.proofs.lemmas.List.Sums.{AllPass-from_list_all, list_all-from_AllPass}
use Rattle.std.proofs.lemmas.Option.{slice_get-get_or, get_or_from_slice_get}
use Rattle.std.proofs.lemmas.Bool.Decides.{nat_tests}
use Rattle.network.specs.declared.message.Message.{Message}
use Rattle.network.specs.Lanes.{same_lane, is_first_on_lane, NoEarlier}

module _ {C : Type 0} where
  -- a message is on the lane of another exactly if it has the same sender and receiver
  pub same_lane_parts : (x m : Message C) → IsTrue (same_lane x m) ↔ ((x.sender ≡ m.sender) × (x.receiver ≡ m.receiver))
  same_lane_parts x m = grind (arith, nat_tests)

  -- whether x is on another lane than m
  abbrev off_lane : Message C → Message C → Bool
  off_lane m x = not (same_lane x m)

  module _ (ms : List (Message C)) (k : ℕ) (h : k < length ms) where
    -- a search that finds none rules each earlier message out
    found : IsTrue (is_first_on_lane ms k) → NoEarlier ms k
    found t j x m lt ex em s r =
        let passes = AllPass-from_list_all (off_lane m) (take k ms) (rw em at t) j x (omega (arith, length-take k ms)) in
        grind (arith, same_lane_parts, get_or-take, get_or_from_slice_get)

    -- and where each is ruled out it finds none
    free : (d : Message C) → NoEarlier ms k → IsTrue (is_first_on_lane ms k)
    free d n =
        let m = slice_index_or ms k d in
        let e = slice_get-get_or ms k d h in
        rw e (list_all-from_AllPass (off_lane m) (take k ms) (λ j d lt.
        let apart = n j (slice_index_or ms j d) m in
        grind (arith, same_lane_parts, length-take, get_or-take, slice_get-get_or)))

  -- the search decides what the words say
  pub lane_order : (ms : List (Message C)) (k : ℕ) → k < length ms → IsTrue (is_first_on_lane ms k) ↔ NoEarlier ms k
  lane_order [] k h = absurd (omega arith)
  lane_order (m ∷ ms) k h = (found (m ∷ ms) k h, free (m ∷ ms) k h m)
