-- Lists that are built item by item, and the transitions of a sense one by one.
use Rattle.std.proofs.Common.{◌≡◌, ℕ, ◌+◌, Bool, true, false, cond, List, [], ◌∷◌, ◌++◌, map, flat_map, refl, sym, ap, ◌∙◌, append_assoc, append-nil}
use Rattle.std.specs.List.{range_with_len}
use Rattle.std.proofs.lemmas.Grind.{flat_map-append}
use Rattle.mintc_senses_expressions.specs.declared.transitions.Transitions.{Transitions}
use Rattle.mintc_senses_expressions.specs.Transitions.{has}
use Rattle.mintc_edges.specs.declared.edge.Edge.TheVariants.{Rise, Fall}
use Rattle.mintc_edges.specs.declared.edge.Transition.{Transition}
use Rattle.mintc_edges.specs.Edges.{transition, transitions_of}
use Rattle.mintc_edges.proofs.CountLaws.{range_more}

abbrev flags : Bool → Bool → Bool → Bool → Transitions
flags w x y z = record { rise_to_rise = w; rise_to_fall = x; fall_to_rise = y; fall_to_fall = z }

module _ {X : Type 0} where
  flat_more : (f : ℕ → List X) (k : ℕ) → flat_map f (range_with_len 0 k) ++ f k ≡ flat_map f (range_with_len 0 (k + 1))
  flat_more f k = sym (ap (flat_map f) (range_more k) ∙ flat_map-append f (range_with_len 0 k) (k ∷ []) ∙ ap (λ l. flat_map f (range_with_len 0 k) ++ l) (append-nil (f k)))

  -- what is made of one more number
  pub flat_pushed : (f : ℕ → List X) (old found more : List X) (k : ℕ) → found ≡ old ++ flat_map f (range_with_len 0 k) → more ≡ found ++ f k → more ≡ old ++ flat_map f (range_with_len 0 (k + 1))
  flat_pushed f old found more k so next = next ∙ ap (λ l. l ++ f k) so ∙ append_assoc old (flat_map f (range_with_len 0 k)) (f k) ∙ ap (λ l. old ++ l) (flat_more f k)

  -- the four transitions one by one
  abbrev pub one_if : Bool → X → List X
  one_if b x = cond b (x ∷ []) []

  listed : (f : Transition → X) (w x y z : Bool) → map f (transitions_of (flags w x y z))
      ≡ ((one_if w (f (transition Rise Rise)) ++ one_if x (f (transition Rise Fall))) ++ one_if y (f (transition Fall Rise))) ++ one_if z (f (transition Fall Fall))
  listed f true true true true = refl
  listed f true true true false = refl
  listed f true true false true = refl
  listed f true true false false = refl
  listed f true false true true = refl
  listed f true false true false = refl
  listed f true false false true = refl
  listed f true false false false = refl
  listed f false true true true = refl
  listed f false true true false = refl
  listed f false true false true = refl
  listed f false true false false = refl
  listed f false false true true = refl
  listed f false false true false = refl
  listed f false false false true = refl
  listed f false false false false = refl

  four : (old a b c d : List X) → (((old ++ a) ++ b) ++ c) ++ d ≡ old ++ (((a ++ b) ++ c) ++ d)
  four old a b c d = ap (λ l. (l ++ c) ++ d) (append_assoc old a b) ∙ ap (λ l. l ++ d) (append_assoc old (a ++ b) c) ∙ append_assoc old ((a ++ b) ++ c) d

  -- a list to which each transition that a sense has is added in order
  pub four_pushed : (f : Transition → X) (s : Transitions) (old a b c d : List X) →
      a ≡ old ++ one_if (has s true true) (f (transition Rise Rise)) → b ≡ a ++ one_if (has s true false) (f (transition Rise Fall)) →
      c ≡ b ++ one_if (has s false true) (f (transition Fall Rise)) → d ≡ c ++ one_if (has s false false) (f (transition Fall Fall)) → d ≡ old ++ map f (transitions_of s)
  four_pushed f s old a b c d p q r t =
      let w = one_if (has s true true) (f (transition Rise Rise)) in
      let x = one_if (has s true false) (f (transition Rise Fall)) in
      let y = one_if (has s false true) (f (transition Fall Rise)) in
      let z = one_if (has s false false) (f (transition Fall Fall)) in
      t ∙ ap (λ l. l ++ z) (r ∙ ap (λ l. l ++ y) (q ∙ ap (λ l. l ++ x) p)) ∙ four old w x y z
      ∙ ap (λ l. old ++ l) (sym (listed f s.rise_to_rise s.rise_to_fall s.fall_to_rise s.fall_to_fall))

  -- two more items
  pub two_pushed : (old a b : List X) (x y : X) → a ≡ old ++ x ∷ [] → b ≡ a ++ y ∷ [] → b ≡ old ++ (x ∷ y ∷ [])
  two_pushed old a b x y p q = q ∙ ap (λ l. l ++ y ∷ []) p ∙ append_assoc old (x ∷ []) (y ∷ [])
