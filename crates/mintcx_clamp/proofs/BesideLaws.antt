-- What stands beside what: numbers, claims and what entries say, of a text and of the text that it becomes.
use Rattle.std.proofs.Common.{◌≡◌, ℕ, Bool, true, false, if◌then◌else◌, List, [], ◌∷◌, ◌++◌, map, Option, Some, None, option_map, codes, refl, sym, ap, ◌⊎◌, inl, inr}
use Rattle.std.specs.List.{AllZip}
use Rattle.mintc_decimal.specs.Decimals.{Number, number_of}
use Rattle.mintc_sdf_tokens.specs.Items.{none, leaf}
use Rattle.mintc_sdf.specs.declared.delays.Subject.{Subject}
use Rattle.mintc_sdf.specs.Forms.{Claim, claim, one, joined, parts_of, part_numbers, numbers_of, value_of}
use Rattle.mintc_sdf.specs.Numbers.{is_below_zero}
use Rattle.mintc_sdf.specs.Texts.{Said, may_be_negative}
use Rattle.mintcx_clamp.specs.Clamping.{nought, clamped_number}
use Rattle.mintcx_clamp.specs.Words.{is_below, clamped_part, clamped_word}
use Rattle.mintcx_clamp.proofs.WordLaws.{clamped-parts}

-- both are there, one beside the other, or none is
abbrev pub Beside : {A B : Type 0} → (A → B → Type 0) → Option A → Option B → Type 0
Beside R None None = Unit {0}
Beside R (Some a) (Some b) = R a b
Beside R _ _ = ⊥

-- a number, or it with 0 in its place if it is below 0
abbrev pub Number_beside : Number → Number → Type 0
Number_beside v u = (u ≡ v) ⊎ (u ≡ clamped_number v)

abbrev pub Numbers_beside : List Number → List Number → Type 0
Numbers_beside vs us = AllZip Number_beside vs us

-- a claim, or one whose numbers may not be below 0 with such numbers
abbrev pub Claim_beside : Claim → Claim → Type 0
Claim_beside c d = (d ≡ c) ⊎ ((may_be_negative c.subject ≡ false) × (d.subject ≡ c.subject) × Numbers_beside c.numbers d.numbers)

abbrev pub Claims_beside : List Claim → List Claim → Type 0
Claims_beside cs ds = AllZip Claim_beside cs ds

-- what an entry says with another claim
abbrev pub said_with : Said → Claim → Said
said_with s c = record { entry = s.entry; scale = s.scale; celltype = s.celltype; place = s.place; claim = c }

abbrev pub Said_beside : Said → Said → Type 0
Said_beside s t = (c : Claim) × Claim_beside s.claim c × (t ≡ said_with s c)

pub zip-refl : {A : Type 0} (R : A → A → Type 0) → ((a : A) → R a a) → (xs : List A) → AllZip R xs xs
zip-refl R h [] = tt
zip-refl R h (x ∷ xs) = (h x, zip-refl R h xs)

pub zip-append : {A B : Type 0} (R : A → B → Type 0) (xs : List A) (ys : List B) (us : List A) (vs : List B) → AllZip R xs ys → AllZip R us vs → AllZip R (xs ++ us) (ys ++ vs)
zip-append R [] [] us vs h g = g
zip-append R [] (y ∷ ys) us vs h g = absurd h
zip-append R (x ∷ xs) [] us vs h g = absurd h
zip-append R (x ∷ xs) (y ∷ ys) us vs h g = (h.0, zip-append R xs ys us vs h.1 g)

pub beside-refl : {A : Type 0} (R : A → A → Type 0) → ((a : A) → R a a) → (o : Option A) → Beside R o o
beside-refl R h None = tt
beside-refl R h (Some a) = h a

pub beside-map : {A B C D : Type 0} (R : A → B → Type 0) (S : C → D → Type 0) (f : A → C) (g : B → D) → ((a : A) (b : B) → R a b → S (f a) (g b)) →
    (o : Option A) (p : Option B) → Beside R o p → Beside S (option_map f o) (option_map g p)
beside-map R S f g h None None r = tt
beside-map R S f g h (Some a) (Some b) r = h a b r
beside-map R S f g h None (Some b) r = absurd r
beside-map R S f g h (Some a) None r = absurd r

pub beside-joined : {A B : Type 0} (R : A → B → Type 0) (o : Option (List A)) (p : Option (List B)) (q : Option (List A)) (s : Option (List B)) →
    Beside (AllZip R) o p → Beside (AllZip R) q s → Beside (AllZip R) (joined o q) (joined p s)
beside-joined R None None q s h g = tt
beside-joined R (Some a) (Some b) None None h g = tt
beside-joined R (Some a) (Some b) (Some c) (Some d) h g = zip-append R a b c d h g
beside-joined R (Some a) (Some b) (Some c) None h g = absurd g
beside-joined R (Some a) (Some b) None (Some d) h g = absurd g
beside-joined R (Some a) None q s h g = absurd h
beside-joined R None (Some b) q s h g = absurd h

pub number-refl : (v : Number) → Number_beside v v
number-refl v = inl refl

pub claim-refl : (c : Claim) → Claim_beside c c
claim-refl c = inl refl

pub numbers-refl : (o : Option (List Number)) → Beside Numbers_beside o o
numbers-refl o = beside-refl Numbers_beside (zip-refl Number_beside number-refl) o

pub claims-refl : (o : Option (List Claim)) → Beside Claims_beside o o
claims-refl o = beside-refl Claims_beside (zip-refl Claim_beside claim-refl) o

-- one claim of a subject whose numbers may not be below 0
pub beside-claim : (s : Subject) → may_be_negative s ≡ false → (o p : Option (List Number)) → Beside Numbers_beside o p → Beside Claim_beside (option_map (claim s) o) (option_map (claim s) p)
beside-claim s h o p r = beside-map Numbers_beside Claim_beside (claim s) (claim s) (λ vs us k. inr (h, refl, k)) o p r

pub beside-one : (o p : Option Claim) → Beside Claim_beside o p → Beside Claims_beside (option_map one o) (option_map one p)
beside-one o p r = beside-map Claim_beside Claims_beside one one (λ c d k. (k, tt)) o p r

-- The numbers of a part, of a word, of a value
part-beside : (p : List ℕ) → Beside Numbers_beside (part_numbers p) (part_numbers (clamped_part p))
part-beside [] = tt
part-beside (b ∷ bs) = by (number_of (b ∷ bs)) refl
  where
    below : (v : Number) (t : Bool) → is_below_zero v ≡ t → number_of (b ∷ bs) ≡ Some v → Beside Numbers_beside (Some (v ∷ [])) (part_numbers (if t then codes "0" else b ∷ bs))
    below v true e f = (inr (sym (ap (λ t. if t then nought else v) e)), tt)
    below v false e f = rw f (inl refl, tt)

    by : (o : Option Number) → number_of (b ∷ bs) ≡ o → Beside Numbers_beside (option_map one o) (part_numbers (if is_below o then codes "0" else b ∷ bs))
    by None f = rw f tt
    by (Some v) f = below v (is_below_zero v) refl f

numbers-beside : (ps : List (List ℕ)) → Beside Numbers_beside (numbers_of ps) (numbers_of (map clamped_part ps))
numbers-beside [] = tt
numbers-beside (p ∷ []) = part-beside p
numbers-beside (p ∷ q ∷ []) = tt
numbers-beside (p ∷ q ∷ r ∷ []) =
    beside-joined Number_beside (part_numbers p) (part_numbers (clamped_part p)) (joined (part_numbers q) (part_numbers r)) (joined (part_numbers (clamped_part q)) (part_numbers (clamped_part r)))
    (part-beside p) (beside-joined Number_beside (part_numbers q) (part_numbers (clamped_part q)) (part_numbers r) (part_numbers (clamped_part r)) (part-beside q) (part-beside r))
numbers-beside (p ∷ q ∷ r ∷ s ∷ ps) = tt

pub word-beside : (w : List ℕ) → Beside Numbers_beside (value_of (leaf w none)) (value_of (leaf (clamped_word w) none))
word-beside w = rw (clamped-parts w) (numbers-beside (parts_of w))
