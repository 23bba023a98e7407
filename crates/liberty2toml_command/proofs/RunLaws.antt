-- Words that name a file, and the answer to what was read of it.
use Rattle.std.proofs.Common.{◌≡◌, ℕ, ◌+◌, List, [], ◌∷◌, length, get_or, Option, Some, None, String, sym, ap, subst, ◌∙◌, arith}
use Rattle.std.specs.String.{string_bytes}
use Rattle.mintc_text.specs.Outside.{Files, Holds, IsFront}
use Rattle.liberty2toml_command.specs.Conversions.{AreName, IsAnswer, IsComplete, IsConverted, IsNotRefused, IsOfText, IsRefused, bytes_of}
use Rattle.liberty2toml_command.specs.declared.answer.TheConstants.{MOST_BYTES}
use Rattle.liberty2toml_command.specs.declared.status.Status.{Status}
use Rattle.liberty2toml_command.specs.declared.status.Status.TheVariants.{Done, Refused, Usage, ReadFault, WriteFault, OutOfMemory}

-- one word is a name
pub one-name : {Z : Type 0} (words : List (String Z)) (w : String Z) (text : List ℕ) → length words ≡ 1 → w ≡ get_or words 0 w → text ≡ string_bytes w → AreName (bytes_of words) text
one-name [] w text n is same = absurd (omega (arith, n))
one-name (v ∷ []) w text n is same = ap (λ x. x ∷ []) (ap string_bytes (sym is) ∙ sym same)
one-name (v ∷ u ∷ words) w text n is same = absurd (omega (arith, n))

-- and they name no other file
pub same-name : (words : List (List ℕ)) (a b : List ℕ) → AreName words a → AreName words b → a ≡ b
same-name words a b h k = let e : a ∷ [] ≡ b ∷ [] = sym h ∙ k in cc

pub Holds-front : (files : Option Files) (name : List ℕ) (most : ℕ) (front : List ℕ) → IsFront files name most front → Holds files name
Holds-front None name most front h = h
Holds-front (Some files) name most front h = (h.0, h.1)

-- the file that was read, seen as a slice, and the text, seen as its bytes
pub answered : (words : List (List ℕ)) (name front seen : List ℕ) (files : Option Files) (status : Status) (text shown : List ℕ) →
    AreName words name → IsFront files name (MOST_BYTES + 1) front → seen ≡ front → IsOfText status → IsConverted seen status text → shown ≡ text → IsAnswer words files status shown
answered words name front seen files Done text shown are is same of h whole =
    (name, are, front, is, subst (λ x. IsConverted x Done shown) same (subst (λ t. IsConverted seen Done t) (sym whole) h))
answered words name front seen files Refused text shown are is same of h whole =
    (name, are, front, is, subst (λ x. IsConverted x Refused shown) same (subst (λ t. IsConverted seen Refused t) (sym whole) h))
answered words name front seen files Usage text shown are is same of h whole = absurd of
answered words name front seen files ReadFault text shown are is same of h whole = absurd of
answered words name front seen files WriteFault text shown are is same of h whole = absurd of
answered words name front seen files OutOfMemory text shown are is same of h whole = absurd of

-- where nothing is refused, the form is written
whole : (name front seen : List ℕ) (files : Option Files) (status : Status) (text : List ℕ) →
    IsFront files name (MOST_BYTES + 1) front → seen ≡ front → IsOfText status → IsConverted seen status text → IsNotRefused files name → IsComplete status
whole name front seen files Done text is same of h none = tt
whole name front seen files Refused text is same of h none = none front h.0 is (subst (λ x. IsRefused x h.0) same h.1)
whole name front seen files Usage text is same of h none = of
whole name front seen files ReadFault text is same of h none = of
whole name front seen files WriteFault text is same of h none = of
whole name front seen files OutOfMemory text is same of h none = tt

pub completed : (name front seen : List ℕ) (files : Option Files) (status now : Status) (text : List ℕ) →
    IsFront files name (MOST_BYTES + 1) front → seen ≡ front → IsOfText status → IsConverted seen status text → IsNotRefused files name → now ≡ status → IsComplete now
completed name front seen files status now text is same of h none e = subst (λ (s : Status). IsComplete s) (sym e) (whole name front seen files status text is same of h none)
