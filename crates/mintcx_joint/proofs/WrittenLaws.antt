-- What is written in parts.
use Rattle.std.proofs.Common.{◌≡◌, List, ℕ, ℤ, ◌++◌, ap, ◌∙◌, sym, append_assoc}
use Rattle.mintcx_amounts.specs.declared.unit.Unit.{Unit as TimesUnit}
use Rattle.mintcx_chain.specs.declared.stages.Stage.{Stage}
use Rattle.mintcx_optima.specs.Counts.{decided_text}
use Rattle.mintcx_optima.specs.Never.{asks_text}

-- one part more behind those that are written
pub more : (old before new parts part : List ℕ) → before ≡ old ++ parts → new ≡ before ++ part → new ≡ old ++ (parts ++ part)
more old before new parts part f g = g ∙ ap (λ v. v ++ part) f ∙ append_assoc old parts part

-- the same of a line's end that is written with the part before it
pub ended : (old before new parts part rest : List ℕ) → before ≡ old ++ parts → new ≡ before ++ (part ++ rest) → new ≡ old ++ ((parts ++ part) ++ rest)
ended old before new parts part rest f g =
    g ∙ ap (λ v. v ++ (part ++ rest)) f ∙ append_assoc old parts (part ++ rest) ∙ ap (λ v. old ++ v) (sym (append_assoc parts part rest))

-- four parts, and a line's end that is written with what stands before it
pub asked : (old a b d e new p q r s t u : List ℕ) → a ≡ old ++ p → b ≡ a ++ q → d ≡ b ++ r → e ≡ d ++ s → new ≡ e ++ (t ++ u) →
    new ≡ old ++ (p ++ q ++ r ++ s ++ t ++ u)
asked old a b d e new p q r s t u h i j k l =
    ended old e new (p ++ q ++ r ++ s) t u (more old d e (p ++ q ++ r) s (more old b d (p ++ q) r (more old a b p q h i) j) k) l

-- the sums of a chain in words, of the same sums
pub decided_same : (count : ℕ) (d d' : ℤ) (k k' : ℕ) (u u' : TimesUnit) → d ≡ d' → k ≡ k' → u ≡ u' → decided_text count d k u ≡ decided_text count d' k' u'
decided_same count d d' k k' u u' e f g = ap (λ (x : ℤ). decided_text count x k u) e ∙ ap (λ (x : ℕ). decided_text count d' x u) f ∙ ap (λ (x : TimesUnit). decided_text count d' k' x) g

-- what a chain asks for, of the same stages
pub asks_same : (ks ls : List Stage) (u v : TimesUnit) → ks ≡ ls → u ≡ v → asks_text ks u ≡ asks_text ls v
asks_same ks ls u v e f = ap (λ (xs : List Stage). asks_text xs u) e ∙ ap (λ (x : TimesUnit). asks_text ls x) f
