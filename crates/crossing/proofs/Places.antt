-- The place that is taken next is there and ready.
use Rattle.std.proofs.Common.{◌≡◌, ℕ, zero, suc, ◌-◌, ◌<◌, ◌≤◌, Bool, true, false, IsTrue, List, [], ◌∷◌, length, remove, Some, None, Option, arith}
use Rattle.std.specs.Option.{SomeIff, MatchOption}
use Rattle.std.specs.List.{slice_get}
use Rattle.std.specs.Result.{result_ok}
use Rattle.std.proofs.lemmas.Bool.Decides.{nat_tests}
use Rattle.std.proofs.lemmas.Option.{slice_get_cases}
use Rattle.network.specs.Waiting.{Progress, take_answer, take_after}
use Rattle.crossing.specs.declared.crossing.Order.{Order}
use Rattle.crossing.specs.declared.crossing.Order.TheVariants.{OldestFirst, NewestFirst}
use Rattle.crossing.specs.Crossing.{last_ready, next_place}

module _ (ready : ℕ → Bool) where
  -- a place that is ready, behind which none is
  pub last_here : (k x : ℕ) → x ≤ k → IsTrue (ready x) → ((j : ℕ) → x < j → j < suc k → ready j ≡ false) → x ≡ last_ready ready k
  last_here zero x within is behind = omega arith
  last_here (suc k) x within is behind = grind (arith, last_here k x)

  -- the last ready place is no later than the last place
  last_within : (k : ℕ) → last_ready ready k ≤ k
  last_within zero = omega arith
  last_within (suc k) = grind (arith, last_within k)

  -- and ready, since place 0 is
  last_is_ready : (k : ℕ) → IsTrue (ready 0) → IsTrue (ready (last_ready ready k))
  last_is_ready zero first = first
  last_is_ready (suc k) first = grind (arith, last_is_ready k first)

module _ {M : Type 0} (ready : List M → ℕ → Bool) where
  -- the place that is taken next is there
  pub next_within : (order : Order) (ms : List M) → 0 < length ms → next_place order ready ms < length ms
  next_within OldestFirst ms some = some
  next_within NewestFirst ms some = omega (arith, last_within (ready ms) (length ms - 1))

module _ {M : Type 0} (ready : List M → ℕ → Bool) (law : Progress ready) where
  -- the law, of any list
  oldest : (ms : List M) → 0 < length ms → IsTrue (ready ms 0)
  oldest [] h = absurd (omega arith)
  oldest (m ∷ ms) h = law m ms

  -- what a search of the places finds, from the last one on
  pub last_found : (ms : List M) (found : Option ℕ)
      → ((j : ℕ) → MatchOption found (j < length ms → ready ms j ≡ false) (λ k. (k < length ms) × (ready ms k ≡ true) × (k < j → j < length ms → ready ms j ≡ false)))
      → SomeIff found (0 < length ms) (last_ready (ready ms) (length ms - 1))
  last_found ms None h = λ some. let is = oldest ms some in let not = h 0 some in cc
  last_found ms (Some k) h = (omega (arith, (h 0).0), last_here (ready ms) (length ms - 1) k (omega (arith, (h 0).0)) (h 0).1 (λ j after within. (h j).2 after (omega (arith, (h 0).0))))

  -- the place that is taken next is ready
  next_is_ready : (order : Order) (ms : List M) → 0 < length ms → IsTrue (ready ms (next_place order ready ms))
  next_is_ready OldestFirst ms some = oldest ms some
  next_is_ready NewestFirst ms some = last_is_ready (ready ms) (length ms - 1) (oldest ms some)

  -- the law of networks in use: the next message is not refused
  pub next_taken : (order : Order) (ms : List M) (k : ℕ) → (0 < length ms) × (k ≡ next_place order ready ms)
      → (result_ok (take_answer ready ms k) ≡ slice_get ms (next_place order ready ms)) × (take_after ready ms k ≡ remove ms (next_place order ready ms))
  next_taken order ms k next = rw next.1 (taken (next_place order ready ms) (next_within ready order ms next.0) (next_is_ready order ms next.0))
    where
      taken : (k : ℕ) → k < length ms → IsTrue (ready ms k) → (result_ok (take_answer ready ms k) ≡ slice_get ms k) × (take_after ready ms k ≡ remove ms k)
      taken k within is = grind (arith, nat_tests, slice_get_cases)
