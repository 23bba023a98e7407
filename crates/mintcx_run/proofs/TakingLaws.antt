-- What is taken of the files of an order, one after the other.
use Rattle.std.proofs.Common.{◌≡◌, ◌≢◌, ◌<◌, ◌≤◌, ◌+◌, ℕ, Bool, true, false, ◌&&◌, List, [], length, refl, sym, ap, subst, ◌∙◌, ◌⊎◌, inl, inr, arith, get_or, set}
use Rattle.std.proofs.Math.Nat.{eq-or-lt_of_le}
use Rattle.std.proofs.lemmas.List.{get_or_default, get_or-set_same, get_or-set_other, length-set}
use Rattle.mintc_text.specs.declared.refusals.Role.{Role}
use Rattle.mintc_text.specs.declared.refusals.Role.TheVariants as role
use Rattle.mintc_command_answers.specs.Commands.{roles_of}
use Rattle.mintc_command_answers.specs.Sources.{file_at}
use Rattle.mintcx_requests.specs.Requests.{Text}
use Rattle.mintcx_run.specs.declared.orders.Order.{Order}
use Rattle.mintcx_run.specs.Taken.{AreTaken, IsClamped, IsTaken, are_delays, is_asked}

-- the files before a number are taken, and the others are as they were
pub record AreTakenBefore (order : Order) (at : ℕ) (fronts files : List Text) : Type 0 where
  pub count : length files ≡ length fronts
  pub done : (i : ℕ) → i < at → IsTaken (is_asked order i) (file_at fronts i) (file_at files i)
  pub left : (i : ℕ) → at ≤ i → file_at files i ≡ file_at fronts i

pub none_taken : (order : Order) (fronts files : List Text) → files ≡ fronts → AreTakenBefore order 0 fronts files
none_taken order fronts files same = subst (λ (fs : List Text). AreTakenBefore order 0 fronts fs) (sym same) (record { count = refl; done = λ i below. absurd (omega arith); left = λ i from. refl })

-- a file that is taken as it is
whole : (b : Bool) (front taken : Text) → taken ≡ front → IsTaken b front taken
whole true front taken same = inl same
whole false front taken same = same

-- a number below the next one is below this one, or is it
split : (P : ℕ → Type 0) (i at : ℕ) → i < at + 1 → (i < at → P i) → P at → P i
split P i at below first last = by (eq-or-lt_of_le (omega arith))
  where
    by : (i ≡ at) ⊎ (i < at) → P i
    by (inl same) = subst P (sym same) last
    by (inr less) = first less

module _ (order : Order) (at : ℕ) (fronts files : List Text) (so_far : AreTakenBefore order at fronts files) where
  pub one_kept : AreTakenBefore order (at + 1) fronts files
  one_kept = record {
    count = so_far.count;
    done = λ i below. split (λ (n : ℕ). IsTaken (is_asked order n) (file_at fronts n) (file_at files n)) i at below (so_far.done i)
        (whole (is_asked order at) (file_at fronts at) (file_at files at) (so_far.left at (omega arith)));
    left = λ i from. so_far.left i (omega arith);
  }

  pub one_more : (text : Text) (new : List Text) → at < length files → is_asked order at ≡ true → IsTaken true (file_at files at) text → new ≡ set files at text → AreTakenBefore order (at + 1) fronts new
  one_more text new within asked taken same = subst (λ (fs : List Text). AreTakenBefore order (at + 1) fronts fs) (sym same) (record {
    count = length-set files at text ∙ so_far.count;
    done = λ i below. split (λ (n : ℕ). IsTaken (is_asked order n) (file_at fronts n) (file_at (set files at text) n)) i at below
        (λ less. subst (λ (t : Text). IsTaken (is_asked order i) (file_at fronts i) t) (sym (get_or-set_other files at i text [] (λ is. absurd (omega (arith, is))))) (so_far.done i less))
        (subst (λ (b : Bool). IsTaken b (file_at fronts at) (file_at (set files at text) at)) (sym asked)
        (subst (λ (t : Text). IsTaken true (file_at fronts at) t) (sym (get_or-set_same files at text [] within))
        (subst (λ (t : Text). IsTaken true t text) (so_far.left at (omega arith)) taken)));
    left = λ i from. get_or-set_other files at i text [] (λ is. absurd (omega (arith, is))) ∙ so_far.left i (omega arith);
  })

-- 0 is asked for of a file of delays
pub asked_of : (order : Order) (at : ℕ) (b : Bool) (roles : List Role) → order.call.clamp ≡ true → roles ≡ roles_of order.call.command → b ≡ are_delays (get_or roles at role.Netlist) → b ≡ true → is_asked order at ≡ true
asked_of order at b roles clamp are is holds =
    ap (λ (c : Bool). c && are_delays (get_or (roles_of order.call.command) at role.Netlist)) clamp ∙ ap (λ (rs : List Role). are_delays (get_or rs at role.Netlist)) (sym are) ∙ sym is ∙ holds

-- a file that is clamped, by its place
pub clamped_at : (files : List Text) (at : ℕ) (front text : Text) → at < length files → IsClamped (get_or files at front) text → IsClamped (file_at files at) text
clamped_at files at front text within h = subst (λ (t : Text). IsClamped t text) (get_or_default files at front [] within) h

-- all files are taken
pub all_taken : (order : Order) (at : ℕ) (fronts files : List Text) → AreTakenBefore order at fronts files → at ≡ length files → AreTaken order fronts files
all_taken order at fronts files are end = record { count = are.count; each = λ i below. are.done i (let whole_count = are.count in omega (arith, whole_count, end)) }
