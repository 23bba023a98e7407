-- Ways back along joins.
use Rattle.std.proofs.Common.{◌≡◌, ◌<◌, ◌≤◌, ◌+◌, ◌-◌, ◌∙◌, ◌==◌, ℕ, zero, suc, Bool, true, false, List, [], ◌∷◌, length, get_or, set, map, drop, slice_index_or, refl, sym, ap, subst, arith, cond, inl, inr, get_or-set_other}
use Rattle.std.specs.Prelude.{All, if◌then◌else◌}
use Rattle.std.specs.List.{range_with_len}
use Rattle.std.proofs.Math.ListN.{length-set}
use Rattle.std.proofs.lemmas.Bool.{cases_eq}
use Rattle.std.proofs.lemmas.Bool.Decides.{nat_tests}
use Rattle.std.proofs.lemmas.Grind.{get_or-set_at}
use Rattle.std.proofs.lemmas.List.{length-map, get_or-map, drop_more}
use Rattle.std.proofs.lemmas.List.FromFn.{length-range_with_len, get_or-range_with_len}
use Rattle.std.proofs.lemmas.List.Elements.{All-map, All-set, All-weaker, All-get_or}
use Rattle.mintc_timing.proofs.SharedMembers.{All-range}
use Rattle.mintc_flatten_hierarchy.specs.declared.hierarchy.Join.{Join}
use Rattle.mintcx_lint_data.specs.Back.{AreBack, step_back, steps_back, twice_as_far}

-- some steps and then others
steps_more : (joins : List Join) (n m b : ℕ) → steps_back joins (n + m) b ≡ steps_back joins m (steps_back joins n b)
steps_more joins zero m b = let e : 0 + m ≡ m = omega arith in ap (λ (k : ℕ). steps_back joins k b) e
steps_more joins (suc n) m b =
    let e : suc n + m ≡ suc (n + m) = omega arith in
    ap (λ (k : ℕ). steps_back joins k b) e ∙ steps_more joins n m (step_back joins b)

-- no join: each bit by itself
pub no_joins : (bits : ℕ) → AreBack [] 1 bits (range_with_len 0 bits)
no_joins bits = record {
  count = length-range_with_len 0 bits;
  within = All-range (λ b. b < bits) 0 bits (λ b low less. omega (arith, less));
  each = λ b less. get_or-range_with_len 0 bits b 0 less ∙ omega arith;
}

same_test : (a b : ℕ) → b ≡ a → (a == b) ≡ true
same_test a b h = grind (arith, nat_tests)

other_test : (a b : ℕ) → (b ≡ a → ⊥) → (a == b) ≡ false
other_test a b h = grind (arith, nat_tests)

-- one join more, before the others
stepped : (j : Join) (joins : List Join) (bits : ℕ) (found : List ℕ) (b : ℕ) → j.to < bits → b < bits → AreBack joins 1 bits found →
    slice_index_or (set found j.to j.from) b 0 ≡ step_back (j ∷ joins) b
stepped j joins bits found b to less h =
    elim (cases_eq b j.to) [
      | inl same ↦
          get_or-set_at found j.to b j.from 0 same (omega (arith, to, h.count))
          ∙ sym (ap (λ (t : Bool). cond t j.from (step_back joins b)) (same_test j.to b same))
      | inr other ↦
          get_or-set_other found j.to b j.from 0 other ∙ h.each b less
          ∙ sym (ap (λ (t : Bool). cond t j.from (step_back joins b)) (other_test j.to b other))
    ]

pub one_more : (j : Join) (joins : List Join) (bits : ℕ) (found : List ℕ) → j.from < bits → j.to < bits → AreBack joins 1 bits found → AreBack (j ∷ joins) 1 bits (set found j.to j.from)
one_more j joins bits found from to h = record {
  count = length-set found j.to j.from ∙ h.count;
  within = All-set (λ b. b < bits) found j.to j.from from h.within;
  each = λ b less. stepped j joins bits found b to less h;
}

-- the joins from one on
pub joins_from : (joins : List Join) (at : ℕ) (d : Join) → at < length joins → drop (length joins - (at + 1)) joins ≡ get_or joins (length joins - 1 - at) d ∷ drop (length joins - at) joins
joins_from joins at d less =
    let here : length joins - (at + 1) ≡ length joins - 1 - at = omega arith in
    let next : (length joins - 1 - at) + 1 ≡ length joins - at = omega (arith, less) in
    ap (λ (k : ℕ). drop k joins) here ∙ drop_more joins (length joins - 1 - at) d (omega (arith, less))
    ∙ ap (λ (k : ℕ). get_or joins (length joins - 1 - at) d ∷ drop k joins) next

-- twice as many steps
pub doubled : (joins : List Join) (n bits : ℕ) (found : List ℕ) → AreBack joins n bits found → AreBack joins (n + n) bits (twice_as_far found)
doubled joins n bits found are = record {
  count = length-map found (λ b. slice_index_or found b 0) ∙ are.count;
  within = All-map (λ b. b < bits) (λ b. slice_index_or found b 0) found
      (All-weaker (λ b. b < bits) (λ b. slice_index_or found b 0 < bits) (λ b less. All-get_or (λ k. k < bits) found b 0 (omega (arith, less, are.count)) are.within) found are.within);
  each = λ b less.
      let here : b < length found = omega (arith, less, are.count) in
      let one : ℕ = slice_index_or found b 0 in
      let inside : one < bits = All-get_or (λ k. k < bits) found b 0 here are.within in
      get_or-map (λ c. slice_index_or found c 0) found b 0 0 here ∙ are.each one inside ∙ ap (steps_back joins n) (are.each b less) ∙ sym (steps_more joins n n b);
}

-- one step back along one join more, from the last one on
pub back_more : (joins : List Join) (at bits : ℕ) (d : Join) (found now : List ℕ) → at < length joins → AreBack (drop (length joins - at) joins) 1 bits found →
    ((js : List Join) → AreBack js 1 (length found) found → AreBack (get_or joins (length joins - 1 - at) d ∷ js) 1 (length found) now) →
    AreBack (drop (length joins - (at + 1)) joins) 1 bits now
back_more joins at bits d found now less h step =
    let left : List Join = drop (length joins - at) joins in
    let n : length found ≡ bits = h.count in
    let made = step left (subst (λ (k : ℕ). AreBack left 1 k found) (sym n) h) in
    subst (λ (js : List Join). AreBack js 1 bits now) (sym (joins_from joins at d less)) (subst (λ (k : ℕ). AreBack (get_or joins (length joins - 1 - at) d ∷ left) 1 k now) n made)
