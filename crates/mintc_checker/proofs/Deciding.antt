-- Answers of tests.
use Rattle.std.proofs.Common.{◌≡◌, Bool, true, false, IsTrue, ◌↔◌, refl, ℕ, ◌==◌, arith}
use Rattle.std.proofs.lemmas.Bool.Decides.{nat_tests}

-- what holds is decided by true
pub holds : {Q : Type 0} → Q → IsTrue true ↔ Q
holds q = ((λ h. q), (λ h. refl))

-- one test decides two claims that say the same
pub alike : {P Q : Type 0} (b : Bool) → IsTrue b ↔ P → (P → Q) → (Q → P) → IsTrue b ↔ Q
alike b decides there back = ((λ h. there (decides.0 h)), (λ q. decides.1 (back q)))

-- the code's test of two numbers
pub same_test : (a b : ℕ) → IsTrue (a == b) ↔ (a ≡ b)
same_test a b = ((λ h. grind (arith, nat_tests)), (λ h. grind (arith, nat_tests)))

-- a test that fails decides each claim that asks for its own
pub denied : {P Q : Type 0} (b : Bool) → b ≡ false → IsTrue b ↔ P → (Q → P) → IsTrue b ↔ Q
denied b off decides asks = ((λ h. absurd (cc)), (λ q. decides.1 (asks q)))
