-- What follows from a halt that is passed on, and from an equation of what is read.
use Rattle.std.proofs.Common.{◌≡◌, Option, Some, None, Result, Ok, Err, MatchResult, sym, subst, ◌∙◌}
use Rattle.mintc_text.specs.declared.read_error.ReadError.{ReadError}
use Rattle.mintc_text.specs.declared.read_error.ReadError.TheVariants.{Malformed, OutOfMemory}
use Rattle.mintc_text.specs.ReadErrors.{Halts}

pub at_halt : {T : Type 0} (r : Result T ReadError) (h : ReadError) (P : T → Type 0) (fault : Type 0) → ((x : ReadError) × (r ≡ Err x) × (x ≡ h)) → Halts fault h → MatchResult r P (Halts fault)
at_halt (Ok y) h P fault e told = absurd (cc (e.1))
at_halt (Err y) h P fault e told = let same : y ≡ h = cc (e.1, e.2) in subst (Halts fault) (sym same) told

pub halts-weaker : (h : ReadError) (a b : Type 0) → (a → b) → Halts a h → Halts b h
halts-weaker Malformed a b f told = f told
halts-weaker OutOfMemory a b f told = tt

pub gives-by : {A : Type 0} {V : Type 0} (r : Result V ReadError) (value : V → A) (f g : Option A) → f ≡ g →
    MatchResult r (λ v. g ≡ Some (value v)) (Halts (g ≡ None)) → MatchResult r (λ v. f ≡ Some (value v)) (Halts (f ≡ None))
gives-by (Ok v) value f g e told = e ∙ told
gives-by (Err h) value f g e told = halts-weaker h (g ≡ None) (f ≡ None) (λ x. e ∙ x) told
