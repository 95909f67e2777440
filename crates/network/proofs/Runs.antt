-- What every run of a network keeps.
use Rattle.std.proofs.Common.{◌≡◌, ℕ, zero, suc, ◌+◌, ◌≤◌, Bool, IsTrue, if◌then◌else◌, List, [], ◌∷◌, ◌++◌, length, take, drop, Some, Ok, count_by, refl, append_assoc, append-nil, arith, length-append, length-drop, length-take}
use Rattle.std.specs.List.{remove, slice_get}
use Rattle.std.proofs.lemmas.List.Sums.{sum_by-append}
use Rattle.std.proofs.lemmas.List.Elements.{filter-append}
use Rattle.std.proofs.lemmas.Bool.Decides.{nat_tests}
use Rattle.network.specs.declared.message.Message.{Message}
use Rattle.network.specs.Waiting.{take_answer}
use Rattle.network.specs.Lanes.{from_to, lane_free, is_first_on_lane}
use Rattle.network.specs.Runs.{Call, Traffic, nothing, step, run, on_lane, Balanced, LanesKeepOrder}
use Rattle.network.specs.Runs.Call.{post, take as take_at}

-- the message at place k stands between those that stay
parts : {M : Type 0} (ms : List M) (k : ℕ) (m : M) → slice_get ms k ≡ Some m → ms ≡ take k ms ++ m ∷ drop (suc k) ms
parts [] k m n = cc
parts (x ∷ ms) zero m n = grind arith
parts (x ∷ ms) (suc k) m n = let rest = parts ms k m n in grind arith

module _ {M : Type 0} (cap : ℕ) (ready : List M → ℕ → Bool) where
  -- what each call keeps, a run keeps
  run_keeps : (P : Traffic M → Type 0) → ((t : Traffic M) (c : Call M) → P t → P (step cap ready t c)) → (cs : List (Call M)) (t : Traffic M) → P t → P (run cap ready t cs)
  run_keeps P each [] t h = h
  run_keeps P each (c ∷ cs) t h = run_keeps P each cs (step cap ready t c) (each t c h)

  -- a message is handed over only where one waits that is ready
  was_ready : (ms : List M) (k : ℕ) (m : M) → take_answer ready ms k ≡ Ok m → IsTrue (ready ms k) × (slice_get ms k ≡ Some m)
  was_ready ms k m e = grind (arith, nat_tests)

  -- a call lets no more wait than can
  room : (t : Traffic M) (c : Call M) → length t.waiting ≤ cap → length (step cap ready t c).waiting ≤ cap
  room t (post m) h = grind (arith, nat_tests, length-append)
  room t (take_at k) h = grind (arith, nat_tests, length-append, length-take, length-drop)

  -- F is a view of lists that joins as they do, and in which a message that is taken passes those ahead of it
  module _ {X : Type 0} (F : List M → X) (◌·◌ : X → X → X)
      (assoc : (a b c : X) → (a · b) · c ≡ a · (b · c))
      (joins : (xs ys : List M) → F (xs ++ ys) ≡ F xs · F ys)
      (passes : (ms : List M) (k : ℕ) (m : M) → IsTrue (ready ms k) → slice_get ms k ≡ Some m → F (take k ms) · F (m ∷ []) ≡ F (m ∷ []) · F (take k ms)) where
    infixl 20 ◌·◌
    -- a message that is taken counts as the first
    taken_first : (ms : List M) (k : ℕ) (m : M) → take_answer ready ms k ≡ Ok m → F ms ≡ F (m ∷ []) · F (remove ms k)
    taken_first ms k m e =
        let w = was_ready ms k m e in
        let whole = parts ms k m w.1 in
        let p = passes ms k m w.0 w.1 in
        grind (arith, joins, assoc, joins (m ∷ []) (drop (suc k) ms))

    abbrev Kept : Traffic M → Type 0
    Kept t = F t.posted ≡ F t.taken · F t.waiting

    kept : (t : Traffic M) (c : Call M) → Kept t → Kept (step cap ready t c)
    kept t (post m) h = grind (arith, nat_tests, joins, assoc)
    kept t (take_at k) h = let first = taken_first t.waiting k in grind (arith, nat_tests, joins, assoc, append-nil)

    along : (cs : List (Call M)) → Kept (run cap ready nothing cs)
    along cs = run_keeps Kept kept cs nothing (joins [] [])

module _ (M : Type 0) (cap : ℕ) (ready : List M → ℕ → Bool) (cs : List (Call M)) where
  -- nothing is lost, doubled or made up
  pub balanced : Balanced (run cap ready nothing cs)
  balanced p = along cap ready (count_by p) ◌+◌ (λ a b c. omega arith) (sum_by-append (λ x. if p x then 1 else 0)) (λ ms k m _ _. omega arith) cs

  -- no more waits than can
  pub within : length (run cap ready nothing cs).waiting ≤ cap
  within = run_keeps cap ready (λ t. length t.waiting ≤ cap) (room cap ready) cs nothing (omega arith)

module _ {C : Type 0} (s r : ℕ) where
  -- ahead of the first message of its lane there is none on that lane
  none_ahead : (m : Message C) (xs : List (Message C)) → IsTrue (from_to s r m) → IsTrue (lane_free m xs) → on_lane s r xs ≡ []
  none_ahead m [] on h = refl
  none_ahead m (x ∷ xs) on h = let rest = none_ahead m xs on in grind (arith, nat_tests)

  -- so it passes those ahead of it
  passes_first : (ms : List (Message C)) (k : ℕ) (m : Message C) → IsTrue (is_first_on_lane ms k) → slice_get ms k ≡ Some m
      → on_lane s r (take k ms) ++ on_lane s r (m ∷ []) ≡ on_lane s r (m ∷ []) ++ on_lane s r (take k ms)
  passes_first ms k m f n = let none = none_ahead m (take k ms) in grind (arith, nat_tests, append-nil)

pub lanes_keep_order : (C : Type 0) → LanesKeepOrder C
lanes_keep_order C cap cs s r = along cap is_first_on_lane (on_lane s r) ◌++◌ append_assoc (filter-append (from_to s r)) (passes_first s r) cs
