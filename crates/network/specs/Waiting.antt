-- What the calls of a network answer, and what they do to the list of waiting messages, oldest first.
use Rattle.std.specs.Prelude.{◌≡◌, ℕ, IsTrue, Bool, if◌then◌else◌, List, [], ◌∷◌, ◌++◌, length, remove, slice_get, Ok, Err, Result, nat_lt}
use Rattle.std.specs.Option.{ok_or}
use Rattle.network.specs.declared.fault.NetworkFault.{NetworkFault}
use Rattle.network.specs.declared.fault.NetworkFault.TheVariants.{NoPlace, NotReady, Full, NoMemory}

-- the capacity and the number waiting of a network that was made for cap messages
abbrev pub StartsEmpty : ℕ → Result (ℕ × ℕ) NetworkFault → Type 0
StartsEmpty cap (Ok n) = (n.0 ≡ cap) × (n.1 ≡ 0)
StartsEmpty cap (Err e) = e ≡ NoMemory

module _ {M : Type 0} where
  -- the law of networks: while anything waits, the message at place 0 is ready
  abbrev pub Progress : (List M → ℕ → Bool) → Type 0
  Progress ready = (m : M) (ms : List M) → IsTrue (ready (m ∷ ms) 0)

  -- a network was made with nothing waiting, or there was no memory for it
  abbrev pub Made : {N : Type 0} → (N → List M) → (N → ℕ) → ℕ → Result N NetworkFault → Type 0
  Made waiting capacity cap (Ok n) = (waiting n ≡ []) × (capacity n ≡ cap)
  Made waiting capacity cap (Err e) = e ≡ NoMemory

  -- a list after a call: what the call makes of it if it is accepted, else what it was
  abbrev pub if_accepted : {A : Type 0} → Result A NetworkFault → List M → List M → List M
  if_accepted (Ok x) new old = new
  if_accepted (Err e) new old = old

  abbrev pub message_at : List M → ℕ → Result M NetworkFault
  message_at ms k = ok_or (slice_get ms k) (NoPlace k)

  abbrev pub ready_at : (List M → ℕ → Bool) → List M → ℕ → Result Bool NetworkFault
  ready_at ready ms k = if nat_lt k (length ms) then Ok (ready ms k) else Err (NoPlace k)

  abbrev pub post_answer : ℕ → List M → Result (Unit {0}) NetworkFault
  post_answer cap ms = if nat_lt (length ms) cap then Ok tt else Err Full

  abbrev pub post_after : ℕ → List M → M → List M
  post_after cap ms m = if_accepted (post_answer cap ms) (ms ++ m ∷ []) ms

  -- a missing place comes before one that is not ready
  abbrev pub take_answer : (List M → ℕ → Bool) → List M → ℕ → Result M NetworkFault
  take_answer ready ms k =
      if nat_lt k (length ms) then (if ready ms k then message_at ms k else Err (NotReady k)) else Err (NoPlace k)

  abbrev pub take_after : (List M → ℕ → Bool) → List M → ℕ → List M
  take_after ready ms k = if_accepted (take_answer ready ms k) (remove ms k) ms
