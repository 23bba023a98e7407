-- What the definitions say of one another.
use Rattle.std.specs.Prelude.{◌≡◌, ℕ, ℤ, pos, neg_ℤ, ◌≤ℤ◌, ◌<ℤ◌, ◌+ℤ◌, ◌*ℤ◌, false, if◌then◌else◌, List, ◌∷◌, Ok, All}
use Rattle.std.specs.Prelude.{Any, ◌⊎◌, Err}
use Rattle.mintc_text.specs.declared.limits.TheConstants.{MOST_DELAY}
use Rattle.mintc_text.specs.declared.refusals.Refusal.{Refusal}
use Rattle.mintc_decimal.specs.Decimals.{Number, with_sign, over, under}
use Rattle.mintc_sdf.specs.declared.delays.Subject.{Subject}
use Rattle.mintc_sdf.specs.declared.delays.Delay.{Delay}
use Rattle.mintc_sdf.specs.Numbers.{is_far, least, greatest}
use Rattle.mintc_sdf.specs.Texts.{may_be_negative, delays_of}

-- the least femtoseconds that a number of a subject may have
abbrev pub lowest : Subject → ℤ
lowest s = if may_be_negative s then neg_ℤ MOST_DELAY else pos 0

-- a delay has its numbers in order and in range
abbrev pub IsWithin : Delay → Type 0
IsWithin d = (lowest d.subject ≤ℤ d.least) × (d.least ≤ℤ d.greatest) × (d.greatest ≤ℤ MOST_DELAY)

-- each delay of a text has its numbers in order and in range
abbrev pub AreWithin : Type 0
AreWithin = (text : List ℕ) (ds : List Delay) → delays_of text ≡ Ok ds → All IsWithin ds

-- a number in femtoseconds, as a whole number over `under`
abbrev pub femtoseconds : ℕ → Number → ℤ
femtoseconds scale v = with_sign v.negative (over v scale)

-- the least of the numbers, rounded down: the greatest whole number that is above none of them
abbrev pub IsLeast : ℕ → List Number → ℤ → Type 0
IsLeast scale vs z =
    All (λ v. (z *ℤ pos (under v)) ≤ℤ femtoseconds scale v) vs
    × Any (λ v. femtoseconds scale v <ℤ ((z *ℤ pos (under v)) +ℤ pos (under v))) vs

-- the greatest of the numbers, rounded up: the least whole number that is below none of them
abbrev pub IsGreatest : ℕ → List Number → ℤ → Type 0
IsGreatest scale vs z =
    All (λ v. femtoseconds scale v ≤ℤ (z *ℤ pos (under v))) vs
    × Any (λ v. (z *ℤ pos (under v)) <ℤ (femtoseconds scale v +ℤ pos (under v))) vs

-- so are numbers that are in range
abbrev pub AreRounded : Type 0
AreRounded =
    (scale : ℕ) (v : Number) (vs : List Number) → All (λ u. is_far scale u ≡ false) (v ∷ vs) →
    IsLeast scale (v ∷ vs) (least scale v vs) × IsGreatest scale (v ∷ vs) (greatest scale v vs)

-- each text has delays or a refusal
abbrev pub HaveDelaysOrRefusal : Type 0
HaveDelaysOrRefusal = (text : List ℕ) → ((ds : List Delay) × (delays_of text ≡ Ok ds))
    ⊎ ((r : Refusal) × (delays_of text ≡ Err r))
