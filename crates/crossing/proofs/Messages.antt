-- A week's messages, posted one at a time.
use Rattle.std.proofs.Common.{◌≡◌, ℕ, suc, ◌+◌, ◌<◌, ◌≤◌, Bool, if◌then◌else◌, Some, None, List, [], ◌∷◌, ◌++◌, length, length-append, length-drop, drop, Ok, refl, ap, add-one, arith, append_assoc, drop-cons, lt-ltb, slice_index_or}
use Rattle.std.proofs.lemmas.Bool.Decides.{nat_tests}
use Rattle.std.proofs.lemmas.Option.{slice_get_cases}
use Rattle.std.specs.Result.{result_err}
use Rattle.network.specs.declared.fault.NetworkFault.TheVariants.{NoPlace, NotReady, Full}
use Rattle.network.specs.declared.message.Message.{Message}
use Rattle.network.specs.Waiting.{post_answer, post_after, take_answer}
use Rattle.crossing.specs.Crossing.{day_message, week_messages, contents}

module _ {K : Type 0} where
  -- as many messages as days
  pub week_long : (d : ℕ) (xs : List K) → length (week_messages d xs) ≡ length xs
  week_long d [] = refl
  week_long d (x ∷ xs) = ap suc (week_long (suc d) xs)

  -- and their contents are the days
  pub week_contents : (d : ℕ) (xs : List K) → contents (week_messages d xs) ≡ xs
  week_contents d [] = refl
  week_contents d (x ∷ xs) = ap (λ ys. x ∷ ys) (week_contents (suc d) xs)

  -- so many days of the week were posted: what waits, and the days to come, are the whole week
  pub record Sending (days : List K) (day posted : ℕ) (waiting : List (Message K)) (room capacity : ℕ) : Type 0 where
    pub counted : posted ≡ day
    pub whole : waiting ++ week_messages day (drop day days) ≡ week_messages 0 days
    pub fixed : capacity ≡ room

  -- the next day is posted behind those before it, where there is room for seven
  pub post_one : (days : List K) (day posted : ℕ) (waiting : List (Message K)) (room capacity : ℕ) (x : K) → length days ≡ 7 → 7 ≤ room → day < 7 → Sending days day posted waiting room capacity
      → (post_answer capacity waiting ≡ Ok tt) × Sending days (day + 1) (posted + 1) (post_after capacity waiting (day_message day (slice_index_or days day x))) room capacity
  post_one days day posted waiting room capacity x seven fits more sent =
      let long : length waiting ≡ day = omega (arith, ap length sent.whole, length-append waiting (week_messages day (drop day days)), week_long 0 days, week_long day (drop day days), length-drop day days) in
      let ok : post_answer capacity waiting ≡ Ok tt = simp (lt-ltb (length waiting) capacity (omega (arith, sent.fixed))) in
      let here : day < length days = omega arith in
      let next : week_messages day (drop day days) ≡ day_message day (slice_index_or days day x) ∷ week_messages (day + 1) (drop (day + 1) days) = rw (add-one, drop-cons days day x) refl in
      (ok, record { counted = omega (arith, sent.counted); whole = rw (ok, append_assoc) (rw next at sent.whole); fixed = sent.fixed })

  -- with all seven waiting, one more is refused, and so is the place behind the last
  pub one_more : (days : List K) (capacity : ℕ) (waiting : List (Message K)) (m : Message K) → length days ≡ 7 → capacity ≡ 7 → waiting ≡ week_messages 0 days
      → (result_err (post_answer capacity waiting) ≡ Some Full) × (post_after capacity waiting m ≡ week_messages 0 days)
  one_more days capacity waiting m seven room sent = grind (arith, nat_tests, week_long)

  pub place_behind : (ready : List (Message K) → ℕ → Bool) (days : List K) (k : ℕ) → length days ≡ 7 → k ≡ 7 → result_err (take_answer ready (week_messages 0 days) k) ≡ Some (NoPlace 7)
  place_behind ready days k seven at = grind (arith, nat_tests, week_long)

  -- the last of seven places is refused unless it is ready
  pub last_place : (ready : List (Message K) → ℕ → Bool) (days : List K) → length days ≡ 7
      → result_err (take_answer ready (week_messages 0 days) 6) ≡ if ready (week_messages 0 days) 6 then None else Some (NotReady 6)
  last_place ready days seven = grind (arith, nat_tests, week_long, slice_get_cases)
