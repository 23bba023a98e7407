-- The rows of a chain, one by one.
use Rattle.std.proofs.Common.{◌≡◌, ℕ, zero, suc, ◌+◌, ◌*ℤ◌, ◌+ℤ◌, ◌≤◌, ◌<◌, ℤ, pos, true, false, nat_le, List, [], ◌∷◌, ◌++◌, length, map, take, Option, Some, None, arith, refl, ap, ◌∙◌, sym, subst}
use Rattle.std.specs.Prelude.{All, flat_map, if◌then◌else◌}
use Rattle.std.specs.List.{range_with_len}
use Rattle.std.proofs.Math.Seq.{take-length, take-append_seam}
use Rattle.std.proofs.lemmas.Bool.Decides.{nat_tests}
use Rattle.std.proofs.lemmas.List.{append-nil, flat_map_more, length-append, map-append}
use Rattle.std.proofs.lemmas.List.Elements.{All-push}
use Rattle.std.proofs.lemmas.List.FromFn.{map-range_with_len_more}
use Rattle.mintc_timing.specs.declared.clocking.Schedule.{Schedule}
use Rattle.mintc_timing.specs.Design.{Design}
use Rattle.mintcx_chain.specs.declared.rows.Row.{Row}
use Rattle.mintcx_chain.specs.declared.stages.Stage.{Stage}
use Rattle.mintcx_chart.specs.declared.lanes.Holder.{Holder}
use Rattle.mintcx_chart.specs.declared.lanes.Lane.{Lane}
use Rattle.mintcx_chart.specs.Sheets.{IsLane}
use Rattle.mintcx_chart.specs.Stretches.{is_clock, lane_times, times_of}
use Rattle.mintcx_draw.specs.declared.chain.Lanes.{Lanes}
use Rattle.mintcx_draw.specs.Lanes.{drawn_count, facts_at, lane_facts, AreAll, AreFirst, HasOneMore, IsHolder, again_times, first_times, shown_times, times_at, window_times}

-- the times that a row shows
pub held_times : (design : Design) (s : Schedule) (e : Option ℕ) (holder : Holder) (at lap laps : ℤ) → lap ≡ laps → IsHolder design s e holder →
    (at ∷ (if is_clock holder.kind then [] else (holder.start +ℤ lap *ℤ s.cycle) ∷ ((holder.start +ℤ lap *ℤ s.cycle) +ℤ holder.width) ∷ []))
    ≡ (at ∷ window_times design s laps e)
held_times design s (Some l) holder at lap laps same (clock, starts, widths) = rw (same, clock, starts, widths) refl
held_times design s None holder at lap laps same clock = rw clock refl

pub held_wide : (design : Design) (s : Schedule) (e : Option ℕ) (holder : Holder) (at begins start width lap laps : ℤ) → begins ≡ at → start ≡ holder.start → width ≡ holder.width →
    lap ≡ laps → IsHolder design s e holder →
    (begins ∷ (if is_clock holder.kind then [] else (start +ℤ lap *ℤ s.cycle) ∷ ((start +ℤ lap *ℤ s.cycle) +ℤ width) ∷ []))
    ≡ (at ∷ window_times design s laps e)
held_wide design s e holder at begins start width lap laps same_at same_start same_width same_lap of =
    rw (same_at, same_start, same_width, same_lap) (held_times design s e holder at laps laps refl of)

-- one row more
pub facts_more : (f : ℕ → List ℕ × ℤ × ℤ × ℤ) (lanes : List Lane) (lane : Lane) (n : ℕ) → map lane_facts lanes ≡ map f (range_with_len 0 n) → lane_facts lane ≡ f n →
    map lane_facts (lanes ++ lane ∷ []) ≡ map f (range_with_len 0 (n + 1))
facts_more f lanes lane n before here =
    map-append lane_facts lanes (lane ∷ []) ∙ ap (λ (v : List (List ℕ × ℤ × ℤ × ℤ)). v ++ lane_facts lane ∷ []) before
    ∙ ap (λ (v : List ℕ × ℤ × ℤ × ℤ). map f (range_with_len 0 n) ++ v ∷ []) here
    ∙ sym (map-range_with_len_more f 0 n n (omega arith))

-- the times of one row more
numbers_from : (a n : ℕ) → range_with_len a (suc n) ≡ range_with_len a n ++ (a + n) ∷ []
numbers_from a zero = ap (λ (v : ℕ). v ∷ []) (omega arith)
numbers_from a (suc n) = ap (λ (v : List ℕ). a ∷ v) (numbers_from (a + 1) n ∙ ap (λ (v : ℕ). range_with_len (a + 1) n ++ v ∷ []) (omega arith))

next_number : (n : ℕ) → range_with_len 0 (n + 1) ≡ range_with_len 0 n ++ n ∷ []
next_number n =
    let more : n + 1 ≡ suc n = omega arith in
    let none : 0 + n ≡ n = omega arith in
    ap (λ (v : ℕ). range_with_len 0 v) more ∙ numbers_from 0 n ∙ ap (λ (v : ℕ). range_with_len 0 n ++ v ∷ []) none

pub times_more : (f : Lane → List ℤ) (g : ℕ → List ℤ) (lanes : List Lane) (lane : Lane) (n : ℕ) → flat_map f lanes ≡ flat_map g (range_with_len 0 n) → f lane ≡ g n →
    flat_map f (lanes ++ lane ∷ []) ≡ flat_map g (range_with_len 0 (n + 1))
times_more f g lanes lane n before here =
    sym (flat_map_more f [] lanes lane) ∙ ap (λ (v : List ℤ). v ++ f lane) before ∙ ap (λ (v : List ℤ). flat_map g (range_with_len 0 n) ++ v) here
    ∙ flat_map_more g [] (range_with_len 0 n) n ∙ ap (λ (v : List ℕ). flat_map g v) (sym (next_number n))

-- the first rows, with others behind them or without
first_of : (lanes more : List Lane) (n : ℕ) → length lanes ≡ n → take n (lanes ++ more) ≡ lanes
first_of lanes more n count = ap (λ (k : ℕ). take k (lanes ++ more)) (sym count) ∙ take-append_seam lanes more

first_all : (lanes : List Lane) (n : ℕ) → length lanes ≡ n → take n lanes ≡ lanes
first_all lanes n count = ap (λ (k : ℕ). take k lanes) (sym count) ∙ take-length lanes

module _ (design : Design) (s : Schedule) (stages : List Stage) (rows : List Row) (shown new : Lanes) (first : AreFirst design s stages rows shown) where
  -- the rows of the first stages, where more stages follow
  pub all_of_first : 24 < length stages → new.lanes.items ≡ shown.lanes.items → new.below ≡ shown.below + 24 → AreAll design s stages rows new
  all_of_first many same below =
      let no : nat_le (length stages) 24 ≡ false = grind (arith, nat_tests) in
      let none : shown_times design s stages rows ≡ first_times design s stages rows (drawn_count stages) = rw no (append-nil (first_times design s stages rows (drawn_count stages))) in
      record {
        each = subst (λ (v : List Lane). All IsLane v) (sym same) first.each;
        count = omega (arith, ap (λ (v : List Lane). length v) same, first.count);
        facts = ap (λ (v : List Lane). map lane_facts (take (drawn_count stages) v)) same ∙ ap (λ (v : List Lane). map lane_facts v) (first_all shown.lanes.items (drawn_count stages) first.count) ∙ first.facts;
        times = ap (λ (v : List Lane). times_of s.cycle v) same ∙ first.times ∙ sym none;
        least = omega (arith, below, first.least);
        most = omega (arith, below, first.most);
      }

  -- the same with the first stage again
  pub all_with_again : length stages ≤ 24 → HasOneMore s.cycle (again_times design s stages rows) shown new → AreAll design s stages rows new
  all_with_again few h =
      let again : Lane = h.more.0 in
      let same : new.lanes.items ≡ shown.lanes.items ++ again ∷ [] = h.more.3 in
      let yes : nat_le (length stages) 24 ≡ true = grind (arith, nat_tests) in
      let both : shown_times design s stages rows ≡ first_times design s stages rows (drawn_count stages) ++ again_times design s stages rows = rw yes refl in
      record {
        each = subst (λ (v : List Lane). All IsLane v) (sym same) (All-push IsLane shown.lanes.items again first.each h.more.1);
        count = omega (arith, ap (λ (v : List Lane). length v) same, length-append shown.lanes.items (again ∷ []), first.count);
        facts = ap (λ (v : List Lane). map lane_facts (take (drawn_count stages) v)) same ∙ ap (λ (v : List Lane). map lane_facts v) (first_of shown.lanes.items (again ∷ []) (drawn_count stages) first.count) ∙ first.facts;
        times = ap (λ (v : List Lane). times_of s.cycle v) same ∙ sym (flat_map_more (lane_times s.cycle) [] shown.lanes.items again)
            ∙ ap (λ (v : List ℤ). v ++ lane_times s.cycle again) first.times ∙ ap (λ (v : List ℤ). first_times design s stages rows (drawn_count stages) ++ v) h.more.2 ∙ sym both;
        least = omega (arith, h.least, first.least);
        most = omega (arith, h.most, first.most);
      }
