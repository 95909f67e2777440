-- A week's contents as messages, and the order in which they are taken off a network.
use Rattle.std.specs.Prelude.{◌≡◌, ℕ, zero, suc, ◌+◌, ◌-◌, ◌%◌, Bool, true, IsTrue, if◌then◌else◌, ◌&&◌, List, [], ◌∷◌, map, length, remove, Some, None, Ok, Err, Option, Result, slice_get}
use Rattle.network.specs.declared.fault.NetworkFault.{NetworkFault}
use Rattle.network.specs.declared.fault.NetworkFault.TheVariants.{NoPlace, NotReady, Full, NoMemory}
use Rattle.network.specs.declared.message.Message.{Message}
use Rattle.network.specs.declared.message.MessageKind.TheVariants.{Put}
use Rattle.network.specs.Lanes.{is_first_on_lane}
use Rattle.week.specs.declared.verdict.Verdict.{Verdict}
use Rattle.week.specs.declared.verdict.Verdict.TheVariants.{Stays}
use Rattle.crossing.specs.declared.crossing.Crossing.{Crossing}
use Rattle.crossing.specs.declared.crossing.Crossings.{Crossings}
use Rattle.crossing.specs.declared.crossing.Order.{Order}
use Rattle.crossing.specs.declared.crossing.Order.TheVariants.{OldestFirst, NewestFirst}

module _ {K : Type 0} where
  -- day d of the week as block d, from board 0, to boards 1 and 2 in turn
  abbrev pub day_message : ℕ → K → Message K
  day_message d x = record { kind = Put; block = d; sender = 0; receiver = 1 + d % 2; requester = 1 + d % 2; content = x }

  -- the contents of day d and the days after it
  abbrev pub week_messages : ℕ → List K → List (Message K)
  week_messages d [] = []
  week_messages d (x ∷ xs) = day_message d x ∷ week_messages (suc d) xs

  abbrev pub contents : List (Message K) → List K
  contents ms = map (λ m. m.content) ms

  abbrev pub block_of : Option (Message K) → ℕ
  block_of None = 0
  block_of (Some m) = m.block

-- the last ready place up to place k, or place 0
abbrev pub last_ready : (ℕ → Bool) → ℕ → ℕ
last_ready ready zero = 0
last_ready ready (suc k) = if ready (suc k) then suc k else last_ready ready k

module _ {M : Type 0} where
  abbrev pub next_place : Order → (List M → ℕ → Bool) → List M → ℕ
  next_place OldestFirst ready ms = 0
  next_place NewestFirst ready ms = last_ready (ready ms) (length ms - 1)

module _ {K : Type 0} where
  -- the days in the order in which n messages are taken
  abbrev pub arrivals : Order → (List (Message K) → ℕ → Bool) → ℕ → List (Message K) → List ℕ
  arrivals order ready zero ms = []
  arrivals order ready (suc n) ms = block_of (slice_get ms (next_place order ready ms)) ∷ arrivals order ready n (remove ms (next_place order ready ms))

-- what is seen of a week with these days that crosses a network for seven messages
pub record Crosses {K : Type 0} (order : Order) (ready : List (Message K) → ℕ → Bool) (days : List K) (c : Crossing K) : Type 0 where
  pub same : c.arrived.days ≡ days
  pub seen_same : IsTrue c.equal
  pub sequence : c.sequence ≡ arrivals order ready (length days) (week_messages 0 days)
  pub posted : c.posted ≡ 7
  pub taken : c.taken ≡ 7
  pub full : c.full ≡ Some Full
  pub missing : c.missing ≡ Some (NoPlace 7)
  pub held : c.held ≡ (if ready (week_messages 0 days) 6 then None else Some (NotReady 6))

-- a network is refused only for want of memory
abbrev pub CrossesOr : {K : Type 0} → Order → (List (Message K) → ℕ → Bool) → List K → Result (Crossing K) NetworkFault → Type 0
CrossesOr order ready days (Ok c) = Crosses order ready days c
CrossesOr order ready days (Err e) = e ≡ NoMemory

abbrev pub CrossesAll : {K : Type 0} → List K → Result (Crossings K) NetworkFault → Type 0
CrossesAll days (Ok c) =
    Crosses OldestFirst is_first_on_lane days c.straight × Crosses NewestFirst is_first_on_lane days c.mixed × Crosses NewestFirst (λ ms k. true) days c.turned
CrossesAll days (Err e) = e ≡ NoMemory

-- a build whose week did not arrive equal each time stays
abbrev pub verdict_after : {K : Type 0} → Verdict → Crossings K → Verdict
verdict_after saves c = if c.straight.equal && (c.mixed.equal && c.turned.equal) then saves else Stays
