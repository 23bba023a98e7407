-- What is told of a key, with one more number.
use Rattle.std.proofs.Common.{◌≡◌, ℕ, Bool, true, false, cond, Some, unwrap_or, refl, ap}
use Rattle.std.specs.HashMap.{HashMap, get}
use Rattle.mintc_edges.specs.declared.spreads.Spread.{Spread}
use Rattle.mintc_edges.specs.Spreads.{no_spread}
use Rattle.mintc_annotate_delays.specs.Ranges.{same_key}
use Rattle.mintc_edges.specs.Told.{path_in}
use Rattle.mintc_annotate_delays.proofs.SharedKeyLaws.{same_true}

module _ {S : Type 0} where
  at_key : (m : HashMap (ℕ × ℕ × ℕ) Spread S) (key k : ℕ × ℕ × ℕ) (f : Spread → Spread) (b : Bool) → same_key key k ≡ b →
      unwrap_or (cond b (Some (f (path_in m key))) (get same_key m k)) no_spread ≡ cond b (f (path_in m k)) (path_in m k)
  at_key m key k f true same = ap (λ (q : ℕ × ℕ × ℕ). f (path_in m q)) (same_true key k same)
  at_key m key k f false same = refl

  pub at_key_is : (m : HashMap (ℕ × ℕ × ℕ) Spread S) (key k : ℕ × ℕ × ℕ) (f : Spread → Spread) →
      unwrap_or (cond (same_key key k) (Some (f (path_in m key))) (get same_key m k)) no_spread ≡ cond (same_key key k) (f (path_in m k)) (path_in m k)
  at_key_is m key k f = at_key m key k f (same_key key k) refl
