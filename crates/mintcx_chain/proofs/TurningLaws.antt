-- Where a chain begins.
use Rattle.std.proofs.Common.{◌≡◌, ℕ, ◌<◌, ◌+◌, ℤ, Bool, true, false, List, [], ◌∷◌, length, get_or, take, if◌then◌else◌, refl, arith}
use Rattle.std.specs.Prelude.{All, IsFalse}
use Rattle.std.proofs.lemmas.Bool.Decides.{nat_tests}
use Rattle.std.proofs.lemmas.Int.{ints}
use Rattle.std.proofs.lemmas.List.{take_more}
use Rattle.std.proofs.lemmas.List.Elements.{All-append, All-cons, All-nil}
use Rattle.mintc_timing.specs.Design.{Design}
use Rattle.mintcx_chain.specs.declared.stages.Stage.{Stage}
use Rattle.mintcx_chain.specs.Turning.{comes_before, no_stage, sooner, stage_at}

module _ (design : Design) (d : List ℤ) where
  abbrev before : ℕ → ℕ → Bool
  before a b = comes_before design d a b

  none_before_itself : (a : ℕ) → before a a ≡ false
  none_before_itself a = grind (arith, ints, nat_tests)

  sooner_than_first : (a b c : ℕ) → before a b ≡ false → before c b ≡ true → before a c ≡ false
  sooner_than_first a b c h g = grind (arith, ints, nat_tests)

  module _ (stages : List Stage) where
    -- no stage of a list leads from a node that comes before that of stage n
    abbrev pub NoneSooner : ℕ → List Stage → Type 0
    NoneSooner n ks = All (λ (k : Stage). IsFalse (comes_before design d k.from (stage_at stages n).from)) ks

    with_last : (best i : ℕ) → i < length stages → NoneSooner best (take i stages) →
        before (stage_at stages i).from (stage_at stages best).from ≡ false → NoneSooner best (take (i + 1) stages)
    with_last best i below old this =
        rw (take_more stages i no_stage below)
        (All-append (λ (k : Stage). IsFalse (comes_before design d k.from (stage_at stages best).from)) (take i stages) (get_or stages i no_stage ∷ []) old
        (All-cons (λ (k : Stage). IsFalse (comes_before design d k.from (stage_at stages best).from)) (get_or stages i no_stage) [] this
        (All-nil (λ (k : Stage). IsFalse (comes_before design d k.from (stage_at stages best).from)))))

    chosen : (b : Bool) (first i : ℕ) → before (stage_at stages i).from (stage_at stages first).from ≡ b → i < length stages →
        NoneSooner first (take i stages) → NoneSooner (if b then i else first) (take (i + 1) stages)
    chosen true first i e below old =
        with_last i i below (λ k x small. sooner_than_first _ _ _ (old k x small) e) (none_before_itself (stage_at stages i).from)
    chosen false first i e below old = with_last first i below old e

    -- one stage further
    pub one_further : (first i : ℕ) → i < length stages → NoneSooner first (take i stages) →
        NoneSooner (sooner design d stages first i) (take (i + 1) stages)
    one_further first i below old = chosen (before (stage_at stages i).from (stage_at stages first).from) first i refl below old

    either : (b : Bool) (first i : ℕ) → first < length stages → i < length stages → (if b then i else first) < length stages
    either true first i h g = g
    either false first i h g = h

    pub sooner_there : (first i : ℕ) → first < length stages → i < length stages → sooner design d stages first i < length stages
    sooner_there first i h g = either (before (stage_at stages i).from (stage_at stages first).from) first i h g
