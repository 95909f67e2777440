-- The lanes: messages from one board to another keep their order.
use Rattle.std.specs.Prelude.{◌≡◌, ℕ, ◌<◌, Bool, false, not, ◌&&◌, List, take, Some, slice_get, ◌==◌, ◌≢◌}
use Rattle.std.specs.List.{list_all}
use Rattle.std.specs.Option.{option_map_or}
use Rattle.network.specs.declared.message.Message.{Message}

module _ {C : Type 0} where
  abbrev pub from_to : ℕ → ℕ → Message C → Bool
  from_to s r m = m.sender == s && m.receiver == r

  -- the lane of a message: its sender and its receiver
  abbrev pub same_lane : Message C → Message C → Bool
  same_lane x m = from_to m.sender m.receiver x

  -- none of the messages is on the lane of m
  abbrev pub lane_free : Message C → List (Message C) → Bool
  lane_free m = list_all (λ x. not (same_lane x m))

  -- whether the message at place k is the first on its lane
  abbrev pub is_first_on_lane : List (Message C) → ℕ → Bool
  is_first_on_lane ms k = option_map_or (λ m. lane_free m (take k ms)) (slice_get ms k) false

  -- no earlier waiting message has the same sender and receiver as the one at place k
  abbrev pub NoEarlier : List (Message C) → ℕ → Type 0
  NoEarlier ms k = (j : ℕ) (x m : Message C) → j < k → slice_get ms j ≡ Some x → slice_get ms k ≡ Some m → x.sender ≡ m.sender → x.receiver ≢ m.receiver
