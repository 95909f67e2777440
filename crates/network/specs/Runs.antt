-- Whole runs of a network: all that was posted and taken since nothing waited.
use Rattle.std.specs.Prelude.{◌≡◌, ℕ, ◌+◌, ◌≤◌, Bool, List, [], ◌∷◌, ◌++◌, length, Ok, Err, count_by, filter, Result}
use Rattle.network.specs.declared.fault.NetworkFault.{NetworkFault}
use Rattle.network.specs.declared.message.Message.{Message}
use Rattle.network.specs.Waiting.{if_accepted, post_answer, post_after, take_answer, take_after}
use Rattle.network.specs.Lanes.{from_to, is_first_on_lane}

-- a call that may change what waits
pub data Call (M : Type 0) : Type 0 where
  post : M → Call M
  take : ℕ → Call M

-- what was posted and what was taken so far, each in the order of the calls, and what waits; a refused call does neither
pub record Traffic (M : Type 0) : Type 0 where
  pub posted : List M
  pub taken : List M
  pub waiting : List M

module _ {M : Type 0} where
  abbrev pub nothing : Traffic M
  nothing = record { posted = []; taken = []; waiting = [] }

  -- what an answer of take hands over
  abbrev pub answered : Result M NetworkFault → List M
  answered (Ok m) = m ∷ []
  answered (Err e) = []

  -- one call, where cap messages can wait
  abbrev pub step : ℕ → (List M → ℕ → Bool) → Traffic M → Call M → Traffic M
  step cap ready t (post m) =
      record { posted = if_accepted (post_answer cap t.waiting) (t.posted ++ m ∷ []) t.posted; taken = t.taken; waiting = post_after cap t.waiting m }
  step cap ready t (take k) =
      record { posted = t.posted; taken = t.taken ++ answered (take_answer ready t.waiting k); waiting = take_after ready t.waiting k }

  -- the calls one after the other
  abbrev pub run : ℕ → (List M → ℕ → Bool) → Traffic M → List (Call M) → Traffic M
  run cap ready t [] = t
  run cap ready t (c ∷ cs) = run cap ready (step cap ready t c) cs

  -- whatever is counted: what was posted is what was taken and what waits
  abbrev pub Balanced : Traffic M → Type 0
  Balanced t = (p : M → Bool) → count_by p t.posted ≡ count_by p t.taken + count_by p t.waiting

module _ {C : Type 0} where
  -- the messages from board s to board r, in their order
  abbrev pub on_lane : ℕ → ℕ → List (Message C) → List (Message C)
  on_lane s r = filter (from_to s r)

  -- from any board to any other: what was posted is what was taken and then what waits, in the same order
  abbrev pub InOrder : Traffic (Message C) → Type 0
  InOrder t = (s r : ℕ) → on_lane s r t.posted ≡ on_lane s r t.taken ++ on_lane s r t.waiting

-- after every run, whatever is ready, nothing is lost, doubled or made up, and no more waits than can
abbrev pub NothingLost : Type 0 → Type 0
NothingLost M =
    (cap : ℕ) (ready : List M → ℕ → Bool) (cs : List (Call M)) → Balanced (run cap ready nothing cs) × (length (run cap ready nothing cs).waiting ≤ cap)

-- after every run on the lanes, messages from one board to another were taken in the order of posting
abbrev pub LanesKeepOrder : Type 0 → Type 0
LanesKeepOrder C = (cap : ℕ) (cs : List (Call (Message C))) → InOrder (run cap is_first_on_lane nothing cs)
