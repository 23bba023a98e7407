-- One stage more.
use Rattle.std.proofs.Common.{◌≡◌, ℕ, suc, ◌+◌, ◌<◌, Bool, ℤ, ◌+ℤ◌, ◌*ℤ◌, List, [], ◌∷◌, length, get_or, take, refl, ap, ◌∙◌, sym, arith}
use Rattle.std.proofs.lemmas.Int.{ints}
use Rattle.std.proofs.lemmas.List.{get_or_default, take_more}
use Rattle.std.proofs.lemmas.List.Sums.{sum_by-append}
use Rattle.mintc_graph.proofs.SharedRingLaws.{total-push}
use Rattle.mintc_timing.proofs.SharedProducts.{add-times}
use Rattle.mintc_timing.specs.declared.clocking.Schedule.{Schedule}
use Rattle.mintc_timing.specs.Design.{Design}
use Rattle.mintcx_chain.specs.declared.stages.Stage.{Stage}
use Rattle.mintcx_chain.specs.Rows.{begins_at, borrowed, cycle_at, is_reach, row_at, stage_before}
use Rattle.mintcx_chain.specs.Sums.{cycles_of, delay_of}
use Rattle.mintcx_chain.specs.Turning.{no_stage, stage_at}

-- the delay of one stage more
pub delay_more : (stages : List Stage) (i : ℕ) (k : Stage) → i < length stages → k ≡ get_or stages i k →
    delay_of (take (i + 1) stages) ≡ delay_of (take i stages) +ℤ k.delay
delay_more stages i k below is =
    ap delay_of (take_more stages i k below) ∙ total-push (λ (x : Stage). x.delay) (take i stages) (get_or stages i k)
    ∙ ap (λ (x : Stage). delay_of (take i stages) +ℤ x.delay) (sym is)

-- the cycles of one stage more
pub cycles_more : (stages : List Stage) (i : ℕ) (k : Stage) → i < length stages → k ≡ get_or stages i k →
    cycles_of (take (i + 1) stages) ≡ cycles_of (take i stages) + k.cycles
cycles_more stages i k below is =
    let one : cycles_of (take i stages) + cycles_of (get_or stages i k ∷ []) ≡ cycles_of (take i stages) + (get_or stages i k).cycles = omega arith in
    ap cycles_of (take_more stages i k below) ∙ sum_by-append (λ (x : Stage). x.cycles) (take i stages) (get_or stages i k ∷ [])
    ∙ one ∙ ap (λ (x : Stage). cycles_of (take i stages) + x.cycles) (sym is)

joined : (node all one den : ℤ) → node +ℤ (all +ℤ one) *ℤ den ≡ (node +ℤ all *ℤ den) +ℤ one *ℤ den
joined node all one den = let e = add-times all one den in omega (arith, ints)

module _ (stages : List Stage) (i : ℕ) (k : Stage) (below : i < length stages) (is : k ≡ get_or stages i k) where
  -- when the next stage begins
  pub begins_more : (design : Design) (s : Schedule) (d : List ℤ) →
      begins_at design s d stages (i + 1) ≡ begins_at design s d stages i +ℤ k.delay *ℤ s.den
  begins_more design s d =
      rw (delay_more stages i k below is) (joined _ (delay_of (take i stages)) k.delay s.den)

  -- the cycle in which it begins
  pub cycle_more : cycle_at stages (i + 1) ≡ cycle_at stages i + k.cycles
  cycle_more = let e = cycles_more stages i k below is in omega arith

  pub here : k ≡ stage_at stages i
  here = is ∙ get_or_default stages i k no_stage below

  -- and which stage stands before it
  pub before_more : is_reach (stage_before stages (i + 1)).why ≡ is_reach k.why
  before_more =
      let e : i + 1 ≡ suc i = omega arith in
      ap (λ n. is_reach (stage_before stages n).why) e ∙ ap (λ (x : Stage). is_reach x.why) (sym here)

  -- the row of a stage is made of what is known where it begins
  pub row_is : (design : Design) (s : Schedule) (d : List ℤ) (at : ℤ) (cycle : ℕ) (comes : Bool) →
      at ≡ begins_at design s d stages i → cycle ≡ cycle_at stages i → comes ≡ is_reach (stage_before stages i).why →
      record { at = at; cycle = cycle; borrows = borrowed design d comes k.why } ≡ row_at design s d stages i
  row_is design s d at cycle comes e f g = rw (e, f, g, here) refl
