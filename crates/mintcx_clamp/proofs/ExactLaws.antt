-- Where no number below 0 is left, what a text becomes says what the text says with 0 for such numbers.
use Rattle.std.proofs.Common.{◌≡◌, ℕ, Bool, true, false, true≢false, not, ◌&&◌, if◌then◌else◌, List, [], ◌∷◌, map, Option, Some, None, option_map, Result, Ok, Err, refl, sym, ap, ◌∙◌, inl, inr}
use Rattle.std.specs.Prelude.{MatchBool}
use Rattle.std.specs.List.{AllZip}
use Rattle.std.specs.Option.{option_or}
use Rattle.mintc_text.specs.declared.refusals.Refusal.{Refusal}
use Rattle.mintc_text.specs.declared.refusals.Refusal.TheVariants as refusal
use Rattle.mintc_decimal.specs.Decimals.{Number}
use Rattle.mintc_sdf_tokens.specs.Tokens.{tokens_of}
use Rattle.mintc_sdf_tokens.specs.Laws.{AreWritten, AreReadBack}
use Rattle.mintc_sdf.specs.declared.delays.Delay.{Delay}
use Rattle.mintc_sdf.specs.Forms.{Claim, claim}
use Rattle.mintc_sdf.specs.Numbers.{is_far, is_below_zero, number_fault}
use Rattle.mintc_sdf.specs.Texts.{Said, may_be_negative, said_in, refusal_of, fault_of, first_fault, judged, reading}
use Rattle.mintcx_clamp.specs.declared.walking.Mode.TheVariants as mode
use Rattle.mintcx_clamp.specs.Walking.{followed}
use Rattle.mintcx_clamp.specs.Clamping.{nought, clamped_number, clamped_claim, clamped_said, clamped_all, IsBelow, HasClamped, AreNotBelow, AreKept}
use Rattle.mintcx_clamp.proofs.BesideLaws.{Number_beside, Numbers_beside, Claim_beside, Said_beside, said_with}
use Rattle.mintcx_clamp.proofs.ReadingLaws.{text-said}

-- a number that isn't at fault, and those behind it
first-right : (scale : ℕ) (v : Number) (vs : List Number) → number_fault scale false (v ∷ vs) ≡ None → (is_below_zero v ≡ false) × (number_fault scale false vs ≡ None)
first-right scale v vs e = by _ _ (is_far scale v) (is_below_zero v) (number_fault scale false vs) e
  where
    by : {F : Type 0} (far below : F) (a b : Bool) (o : Option F) → (if a then Some far else (if b && true then Some below else o)) ≡ None → (b ≡ false) × (o ≡ None)
    by far below true b o g = absurd (cc)
    by far below false true o g = absurd (cc)
    by far below false false o g = (refl, g)

number-exact : (v u : Number) → Number_beside v u → is_below_zero u ≡ false → u ≡ clamped_number v
number-exact v u (inl same) h = same ∙ sym (ap (λ b. if b then nought else v) (rw same at h))
number-exact v u (inr same) h = same

numbers-exact : (scale : ℕ) (vs us : List Number) → Numbers_beside vs us → number_fault scale false us ≡ None → us ≡ map clamped_number vs
numbers-exact scale [] [] h e = refl
numbers-exact scale [] (u ∷ us) h e = absurd h
numbers-exact scale (v ∷ vs) [] h e = absurd h
numbers-exact scale (v ∷ vs) (u ∷ us) h e =
    let right = first-right scale u us e in
    ap (λ x. x ∷ us) (number-exact v u h.0 right.0) ∙ ap (λ xs. clamped_number v ∷ xs) (numbers-exact scale vs us h.1 right.1)

-- numbers none of which is at fault stay as they are
same-beside : (vs : List Number) → Numbers_beside vs vs
same-beside [] = tt
same-beside (v ∷ vs) = (inl refl, same-beside vs)

none-mapped : {F : Type 0} (r : F → Refusal) (o : Option F) → option_map r o ≡ None → o ≡ None
none-mapped r None e = refl
none-mapped r (Some f) e = absurd (cc)

claim-exact : (entry scale : ℕ) (c d : Claim) → Claim_beside c d → option_map (refusal_of entry) (number_fault scale (may_be_negative d.subject) d.numbers) ≡ None → d ≡ clamped_claim c
claim-exact entry scale c d (inl same) e = by (may_be_negative c.subject) refl
  where
    by : (b : Bool) → may_be_negative c.subject ≡ b → d ≡ (if b then c else claim c.subject (map clamped_number c.numbers))
    by true f = same
    by false f =
        let right : number_fault scale (may_be_negative c.subject) c.numbers ≡ None = none-mapped (refusal_of entry) _ (rw same at e) in
        same ∙ ap (claim c.subject) (numbers-exact scale c.numbers c.numbers (same-beside c.numbers) (rw f at right))
claim-exact entry scale c d (inr h) e =
    let right : number_fault scale (may_be_negative c.subject) d.numbers ≡ None = none-mapped (refusal_of entry) _ (rw h.1 at e) in
    let numbers : d.numbers ≡ map clamped_number c.numbers = numbers-exact scale c.numbers d.numbers h.2 (rw h.0 at right) in
    ap (λ s. claim s d.numbers) h.1 ∙ ap (claim c.subject) numbers ∙ sym (ap (λ b. if b then c else claim c.subject (map clamped_number c.numbers)) h.0)

said-exact : (s t : Said) → Said_beside s t → fault_of t ≡ None → t ≡ clamped_said s
said-exact s t h e = h.2 ∙ ap (said_with s) (claim-exact s.entry s.scale s.claim h.0 h.1 (rw h.2 at e))

both-none : (o p : Option Refusal) → option_or o p ≡ None → (o ≡ None) × (p ≡ None)
both-none None p e = (refl, e)
both-none (Some r) p e = absurd (cc)

all-exact : (ss us : List Said) → AllZip Said_beside ss us → first_fault us ≡ None → us ≡ map clamped_said ss
all-exact [] [] h e = refl
all-exact [] (u ∷ us) h e = absurd h
all-exact (s ∷ ss) [] h e = absurd h
all-exact (s ∷ ss) (u ∷ us) h e =
    let right = both-none (fault_of u) (first_fault us) e in
    ap (λ x. x ∷ us) (said-exact s u h.0 right.0) ∙ ap (λ xs. clamped_said s ∷ xs) (all-exact ss us h.1 right.1)

-- a text that is judged, and one that has delays
judged-below : (entry : ℕ) (said : Result (List Said) ℕ) → reading said ≡ Err (refusal.Negative entry) → (ss : List Said) × (said ≡ Ok ss)
judged-below entry (Ok ss) e = (ss, refl)
judged-below entry (Err n) e = absurd (cc)

judged-right : (ss : List Said) (ds : List Delay) → judged ss (first_fault ss) ≡ Ok ds → first_fault ss ≡ None
judged-right ss ds e = by (first_fault ss) e
  where
    by : (o : Option Refusal) → judged ss o ≡ Ok ds → o ≡ None
    by None f = refl
    by (Some r) f = absurd (cc)

pub has-clamped : AreWritten → AreReadBack → (text clamped : List ℕ) → followed mode.Free (tokens_of text) ≡ tokens_of clamped → IsBelow text → HasClamped text clamped
has-clamped written read_back text clamped same below ds has =
    let said = judged-below below.0 (said_in (tokens_of text)) below.1 in
    let told = text-said written read_back (tokens_of text) said.0 said.1 in
    let becomes : said_in (tokens_of clamped) ≡ Ok told.0 = ap said_in (sym same) ∙ told.1 in
    let right = judged-right told.0 ds (sym (ap reading becomes) ∙ has) in
    ap (λ r. reading (clamped_all r)) said.1 ∙ ap (λ us. reading (Ok us)) (sym (all-exact said.0 told.0 told.2 right)) ∙ sym (ap reading becomes) ∙ has

-- what is known once both texts were read
pub told : (text clamped : List ℕ) → AreWritten → AreReadBack → (same below : Bool) → same ≡ true → MatchBool same (followed mode.Free (tokens_of text) ≡ tokens_of clamped) (Unit {0}) → IsBelow text →
    MatchBool below (IsBelow clamped) (IsBelow clamped → ⊥) → MatchBool (not below) (HasClamped text clamped × (IsBelow clamped → ⊥)) (Unit {0})
told text clamped written read_back true true e h is k = tt
told text clamped written read_back true false e h is k = (has-clamped written read_back text clamped h is, k)
told text clamped written read_back false below e h is k = absurd (true≢false (sym e))

-- Laws

-- a number that isn't below 0, or may be, is at fault for another reason, if it is
other-fault : {F : Type 0} (far below : F) (r : F → Refusal) (entry : ℕ) (a b : Bool) (o : Option F) → option_map r (if a then Some far else (if b then Some below else o)) ≡ Some (refusal.Negative entry) →
    b ≡ false → (r far ≡ refusal.Negative entry → ⊥) → (option_map r o ≡ Some (refusal.Negative entry) → ⊥) → ⊥
other-fault far below r entry true b o g h f more = let same : r far ≡ refusal.Negative entry = cc in f same
other-fault far below r entry false true o g h f more = absurd (true≢false h)
other-fault far below r entry false false o g h f more = more g

not-below-number : (v : Number) → is_below_zero (clamped_number v) ≡ false
not-below-number v = by (is_below_zero v) refl
  where
    by : (b : Bool) → is_below_zero v ≡ b → is_below_zero (if b then nought else v) ≡ false
    by true e = refl
    by false e = e

not-below-numbers : (at entry scale : ℕ) (vs : List Number) → option_map (refusal_of at) (number_fault scale false (map clamped_number vs)) ≡ Some (refusal.Negative entry) → ⊥
not-below-numbers at entry scale [] e = absurd (cc)
not-below-numbers at entry scale (v ∷ vs) e =
    other-fault _ _ (refusal_of at) entry (is_far scale (clamped_number v)) (is_below_zero (clamped_number v) && true) (number_fault scale false (map clamped_number vs)) e
    (ap (λ b. b && true) (not-below-number v)) (λ same. absurd (cc)) (λ g. not-below-numbers at entry scale vs g)

signed-numbers : (at entry scale : ℕ) (vs : List Number) → option_map (refusal_of at) (number_fault scale true vs) ≡ Some (refusal.Negative entry) → ⊥
signed-numbers at entry scale [] e = absurd (cc)
signed-numbers at entry scale (v ∷ vs) e =
    other-fault _ _ (refusal_of at) entry (is_far scale v) (is_below_zero v && false) (number_fault scale true vs) e (none-below (is_below_zero v)) (λ same. absurd (cc)) (λ g. signed-numbers at entry scale vs g)
  where
    none-below : (b : Bool) → (b && false) ≡ false
    none-below true = refl
    none-below false = refl

said-other : (s : Said) (entry : ℕ) → fault_of (clamped_said s) ≡ Some (refusal.Negative entry) → ⊥
said-other s entry e = by (may_be_negative s.claim.subject) refl e
  where
    by : (b : Bool) → may_be_negative s.claim.subject ≡ b →
        fault_of (said_with s (if b then s.claim else claim s.claim.subject (map clamped_number s.claim.numbers))) ≡ Some (refusal.Negative entry) → ⊥
    by true f g = signed-numbers s.entry entry s.scale s.claim.numbers (sym (ap (λ b. option_map (refusal_of s.entry) (number_fault s.scale b s.claim.numbers)) f) ∙ g)
    by false f g =
        not-below-numbers s.entry entry s.scale s.claim.numbers (sym (ap (λ b. option_map (refusal_of s.entry) (number_fault s.scale b (map clamped_number s.claim.numbers))) f) ∙ g)

all-other : (ss : List Said) (entry : ℕ) → first_fault (map clamped_said ss) ≡ Some (refusal.Negative entry) → ⊥
all-other [] entry e = absurd (cc)
all-other (s ∷ ss) entry e = by (fault_of (clamped_said s)) (said-other s entry) (all-other ss entry) e
  where
    by : (o : Option Refusal) → (o ≡ Some (refusal.Negative entry) → ⊥) → (first_fault (map clamped_said ss) ≡ Some (refusal.Negative entry) → ⊥) →
        option_or o (first_fault (map clamped_said ss)) ≡ Some (refusal.Negative entry) → ⊥
    by None h more g = more g
    by (Some r) h more g = h g

pub not_below : AreNotBelow
not_below text entry e = by (said_in (tokens_of text)) e
  where
    judged-other : (ss : List Said) (o : Option Refusal) → (o ≡ Some (refusal.Negative entry) → ⊥) → judged ss o ≡ Err (refusal.Negative entry) → ⊥
    judged-other ss None h g = absurd (cc)
    judged-other ss (Some r) h g = let same : r ≡ refusal.Negative entry = cc in h (ap Some same)

    by : (said : Result (List Said) ℕ) → reading (clamped_all said) ≡ Err (refusal.Negative entry) → ⊥
    by (Err n) g = absurd (cc)
    by (Ok ss) g = judged-other (map clamped_said ss) (first_fault (map clamped_said ss)) (all-other ss entry) g

same-said : (ss : List Said) → AllZip Said_beside ss ss
same-said [] = tt
same-said (s ∷ ss) = ((s.claim, inl refl, refl), same-said ss)

pub kept : AreKept
kept text ds e = by (said_in (tokens_of text)) e
  where
    by : (said : Result (List Said) ℕ) → reading said ≡ Ok ds → reading (clamped_all said) ≡ Ok ds
    by (Err n) g = absurd (cc)
    by (Ok ss) g = ap (λ us. reading (Ok us)) (sym (all-exact ss ss (same-said ss) (judged-right ss ds g))) ∙ g
