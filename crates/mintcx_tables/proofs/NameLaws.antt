-- Names that a table can have.
use Rattle.std.proofs.Common.{◌≡◌, List, ℕ, Bool, true, false, sym, true≢false}
use Rattle.std.specs.Prelude.{MatchBool}
use Rattle.mintc_timing_text.specs.Fields.{IsName}

-- a word for which the test holds
pub named_by : (named : Bool) (word : List ℕ) → MatchBool named (IsName word) (IsName word → ⊥) → named ≡ true → IsName word
named_by true word is passed = is
named_by false word is passed = absurd (true≢false (sym passed))
