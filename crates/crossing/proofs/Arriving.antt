-- The days of a week as they arrive, whatever the order in which they are taken.
use Rattle.std.proofs.Common.{◌≡◌, ℕ, zero, suc, ◌+◌, ◌<◌, ◌≤◌, Bool, List, [], ◌∷◌, ◌++◌, length, remove, take, set, None, Some, sym, refl, ap, ◌∙◌, subst, append_assoc, append-nil, arith, length-set}
use Rattle.std.proofs.lemmas.List.{length-map, set_comm, take_all, take_more_set}
use Rattle.std.proofs.Math.Seq.{take-suc-set}
use Rattle.std.proofs.lemmas.List.Edits.{length-remove}
use Rattle.std.proofs.lemmas.Option.{none-some, same_Some, slice_get_within, slice_get_cases}
use Rattle.std.specs.List.{slice_get}
use Rattle.network.specs.declared.message.Message.{Message}
use Rattle.crossing.specs.declared.crossing.Order.{Order}
use Rattle.crossing.specs.Crossing.{week_messages, contents, next_place, arrivals}
use Rattle.crossing.proofs.Places.{next_within}

module _ {K : Type 0} where
  -- the days once all that waits has come too
  abbrev pub arrived : List K → List (Message K) → List K
  arrived days [] = days
  arrived days (m ∷ ms) = arrived (set days m.block m.content) ms

  -- what waits is of days that rise, from day d on, within the week
  abbrev pub Rising : ℕ → List (Message K) → Type 0
  Rising d [] = Unit {0}
  Rising d (m ∷ ms) = (d ≤ m.block) × (m.block < 7) × Rising (suc m.block) ms

  -- at first all seven wait
  week_rises : (d : ℕ) (xs : List K) → d + length xs ≤ 7 → Rising d (week_messages d xs)
  week_rises d [] fits = tt
  week_rises d (x ∷ xs) fits = grind (arith, week_rises (suc d) xs)

  -- and fill the days from day d on
  pub week_arrives : (days : List K) (d : ℕ) (xs : List K) → length days ≡ d + length xs → arrived days (week_messages d xs) ≡ take d days ++ xs
  week_arrives days d [] whole = sym (append-nil (take d days) ∙ take_all d days (omega arith))
  week_arrives days d (x ∷ xs) whole =
      let within : d < length days = omega arith in
      rw (week_arrives (set days d x) (suc d) xs (omega (arith, length-set days d x)), take-suc-set days d x within, append_assoc) refl

  -- days that rise from a later day on rise from an earlier one on
  later : (d e : ℕ) (ms : List (Message K)) → d ≤ e → Rising e ms → Rising d ms
  later d e [] h rising = tt
  later d e (m ∷ ms) h rising = grind arith

  -- and still rise once one was taken
  rising_rest : (d : ℕ) (ms : List (Message K)) (k : ℕ) → Rising d ms → Rising d (remove ms k)
  rising_rest d [] zero rising = tt
  rising_rest d [] (suc k) rising = tt
  rising_rest d (m ∷ ms) zero rising = later d (suc m.block) ms (omega (arith, rising.0)) rising.2
  rising_rest d (m ∷ ms) (suc k) rising = (rising.0, rising.1, rising_rest (suc m.block) ms k rising.2)

  -- the day of a message that waits
  block_within : (d : ℕ) (ms : List (Message K)) (k : ℕ) (m : Message K) → slice_get ms k ≡ Some m → Rising d ms → (d ≤ m.block) × (m.block < 7)
  block_within d [] k m at rising = absurd (none-some m at)
  block_within d (x ∷ ms) zero m at rising = grind arith
  block_within d (x ∷ ms) (suc k) m at rising = grind (arith, block_within (suc x.block) ms k m)

  -- a message that is taken, and put at its day, changes nothing of what will have come
  arrives : (d : ℕ) (days : List K) (ms : List (Message K)) (k : ℕ) (m : Message K) → slice_get ms k ≡ Some m → Rising d ms → arrived (set days m.block m.content) (remove ms k) ≡ arrived days ms
  arrives d days [] k m at rising = absurd (none-some m at)
  arrives d days (x ∷ ms) zero m at rising = ap (λ n. arrived (set days n.block n.content) ms) (sym (same_Some x m at))
  arrives d days (x ∷ ms) (suc k) m at rising =
      let behind = block_within (suc x.block) ms k m at rising.2 in
      ap (λ ds. arrived ds (remove ms k)) (set_comm days m.block x.block m.content x.content (λ same. omega arith)) ∙ arrives (suc x.block) (set days x.block x.content) ms k m at rising.2

module _ {K : Type 0} (order : Order) (ready : List (Message K) → ℕ → Bool) (all : List (Message K)) where
  -- what holds after i messages were taken, of which `all` are the seven at first
  pub record Underway (ms : List (Message K)) (i : ℕ) (days : List K) (taken : List ℕ) : Type 0 where
    pub left : length ms + i ≡ 7
    pub counted : length taken ≡ 7
    pub rising : Rising 0 ms
    pub arriving : arrived days ms ≡ contents all
    pub told : take i taken ++ arrivals order ready (length ms) ms ≡ arrivals order ready (length all) all

  -- before the first is taken
  pub starts : length all ≡ 7 → all ≡ week_messages 0 (contents all) → (days : List K) (taken : List ℕ) → length days ≡ 7 → length taken ≡ 7 → Underway all 0 days taken
  starts seven sent days taken whole counted =
      let long : length (contents all) ≡ 7 = length-map all (λ m. m.content) ∙ seven in
      record {
        left = omega arith;
        counted = counted;
        rising = subst (Rising 0) (sym sent) (week_rises 0 (contents all) (omega arith));
        arriving = ap (arrived days) sent ∙ week_arrives days 0 (contents all) (omega arith);
        told = refl;
      }

  -- one message is taken, and put at its day
  pub takes : (ms : List (Message K)) (i : ℕ) (days : List K) (taken : List ℕ) (m : Message K) → Underway ms i days taken → i < 7
      → slice_get ms (next_place order ready ms) ≡ Some m → Underway (remove ms (next_place order ready ms)) (i + 1) (set days m.block m.content) (set taken i m.block)
  takes ms i days taken m u h at =
      let k = next_place order ready ms in
      let rest = remove ms k in
      let less : length ms ≡ suc (length rest) = omega (arith, length-remove ms k (slice_get_within ms k m at)) in
      let next : arrivals order ready (length ms) ms ≡ m.block ∷ arrivals order ready (length rest) rest = rw (less, at) refl in
      let here : i < length taken = omega (arith, u.counted) in
      record {
        left = omega (arith, u.left);
        counted = length-set taken i m.block ∙ u.counted;
        rising = rising_rest 0 ms k u.rising;
        arriving = arrives 0 days ms k m at u.rising ∙ u.arriving;
        told = rw (take_more_set taken i m.block here, append_assoc) (rw next at u.told);
      }

  -- while fewer than seven were taken, the next one is there
  pub goes_on : (ms : List (Message K)) (i : ℕ) (days : List K) (taken : List ℕ) → Underway ms i days taken → i < 7 → slice_get ms (next_place order ready ms) ≡ None → ⊥
  goes_on [] i days taken u h none = omega (arith, u.left)
  goes_on (m ∷ ms) i days taken u h none = grind (arith, next_within, slice_get_cases)
