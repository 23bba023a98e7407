-- The first of several refusals.
use Rattle.std.proofs.Common.{◌≡◌, ◌≢◌, ℕ, List, [], ◌∷◌, length, get_or, Option, Some, None, refl, sym, ap, ◌∙◌, arith}
use Rattle.std.specs.Option.{option_or}
use Rattle.mintc_text.specs.declared.limits.Most.{Most}
use Rattle.mintc_text.specs.declared.refusals.Refusal.{Refusal}
use Rattle.mintc_text.specs.declared.refusals.Refusal.TheVariants as refusal
use Rattle.mintc_text.specs.declared.refusals.Stop.{Stop}
use Rattle.mintc_text.specs.declared.refusals.Stop.TheVariants as stop
use Rattle.mintc_text.specs.Stops.{StopsAt}
use Rattle.mintc_flatten_hierarchy.specs.Sources.{Source}
use Rattle.mintc_flatten_hierarchy.specs.Refusals.{top_refusal}

pub stops-more : (P Q : Refusal → Type 0) → ((r : Refusal) → P r → Q r) → (s : Stop) → StopsAt P s → StopsAt Q s
stops-more P Q f (stop.Refused r) h = f r h
stops-more P Q f stop.OutOfMemory h = tt

-- the first of two, where the first isn't there and where it is
pub second : (a b c : Option Refusal) → a ≡ None → b ≡ c → option_or a b ≡ c
second a b c none e = ap (λ (o : Option Refusal). option_or o b) none ∙ e

pub first : (a b : Option Refusal) (r : Refusal) → a ≡ Some r → option_or a b ≡ Some r
first a b r e = ap (λ (o : Option Refusal). option_or o b) e

-- more or fewer tops than one
pub unclear : (most : Most) (s : Source) (tops : List ℕ) (count : ℕ) → length tops ≢ 1 → count ≡ length tops → top_refusal most s tops ≡ Some (refusal.TopUnclear count)
unclear most s [] count other e = ap (λ n. Some (refusal.TopUnclear n)) (sym e)
unclear most s (a ∷ []) count other e = absurd (other refl)
unclear most s (a ∷ b ∷ tops) count other e = ap (λ n. Some (refusal.TopUnclear n)) (sym e)

pub one_of : (tops : List ℕ) (k : ℕ) → length tops ≡ 1 → k ≡ get_or tops 0 k → tops ≡ k ∷ []
one_of [] k one is = absurd (omega arith)
one_of (a ∷ []) k one is = ap (λ n. n ∷ []) (sym is)
one_of (a ∷ b ∷ tops) k one is = absurd (omega arith)
