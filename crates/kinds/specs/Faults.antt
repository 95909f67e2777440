-- What the fault of some bytes tells of them, and what it is.
use Rattle.std.specs.Prelude.{◌≡◌, ℕ, Bool, IsTrue, false, List, length, Some, None}
use Rattle.std.proofs.Common.{arith}
use Rattle.std.proofs.lemmas.Bool.Decides.{nat_tests}
use Rattle.kinds.specs.declared.fault.ContentFault.TheVariants.{BadContent}
use Rattle.kinds.specs.Kind.{fault_after}

pub fault_none : (n : ℕ) (bs : List ℕ) (legal : Bool) → fault_after n bs legal ≡ None → (length bs ≡ n) × IsTrue legal
fault_none n bs legal none = grind (arith, nat_tests)

pub fault_bad : (n : ℕ) (bs : List ℕ) (legal : Bool) → length bs ≡ n → legal ≡ false → fault_after n bs legal ≡ Some BadContent
fault_bad n bs legal len bad = grind (arith, nat_tests)

pub fault_fine : (n : ℕ) (bs : List ℕ) (legal : Bool) → length bs ≡ n → IsTrue legal → fault_after n bs legal ≡ None
fault_fine n bs legal len fine = grind (arith, nat_tests)
