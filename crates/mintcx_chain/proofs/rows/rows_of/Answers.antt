use Rattle.std.proofs.Common.{◌≡◌, ◌+◌, [], ◌∷◌, ◌++◌, ℕ, ℤ, ◌+ℤ◌, ◌*ℤ◌, List, map, ap, ◌∙◌, sym, subst, to_z, of_z, w64, arith}
use Rattle.std.specs.List.{range_with_len}
use Rattle.std.proofs.lemmas.Int.{ints, clamps, to_z-of_z}
use Rattle.std.proofs.lemmas.List.Elements.{All-push}
use Rattle.std.proofs.lemmas.List.FromFn.{map-range_with_len_more}
use Rattle.mintcx_chain.specs.declared.rows.Row.{Row}
use Rattle.mintcx_chain.specs.Names.{IsShort}
use Rattle.mintcx_chain.specs.Rows.{AreInTime, IsChainTime, row_at}
use Rattle.mintcx_chain.proofs.RowLaws.{before_more, begins_more, cycle_more, row_is}
use Rattle.mintcx_chain.proofs.rows.rows_of.Goals as goal

pub loop-stage-preserved : goal.loop-stage-preserved
loop-stage-preserved c =
    let design = c.args.flat.now in
    let s = c.args.schedule.now in
    let d = c.args.departures.now in
    let stages = c.args.stages.now in
    let below = c.loop-stage-test.true in
    let i = c.loop-stage.stage-index in
    let k = c.stage-item.result in
    let inv = c.loop-stage.invariant in
    let pace = c.loop-stage.pace in
    let low = c.paced-pace.ensures.low in
    let high = c.paced-pace.ensures.high in
    let short : IsShort k = subst IsShort (sym c.stage-item.is) (c.requires.short i k below) in
    let few = short.cycles in
    let den_low = c.requires.clocked.in_range.den.0 in
    let den_high = c.requires.clocked.in_range.den.1 in
    let den : to_z w64 (of_z w64 s.den) ≡ s.den = to_z-of_z w64 s.den (omega (arith, ints, clamps)) in
    let at : c.paced-pace.result.at ≡ pace.at +ℤ k.delay *ℤ s.den = rw den at c.paced-pace.ensures.at in
    let row : ℕ → Row = row_at design s d stages in
    let here : IsChainTime c.row_of.result.at = rw c.row_of.ensures (omega (arith, ints, inv.at_low), omega (arith, ints, inv.at_high)) in
    record {
      at_is = at ∙ ap (λ (x : ℤ). x +ℤ k.delay *ℤ s.den) inv.at_is ∙ sym (begins_more stages i k below c.stage-item.is design s d);
      at_low = omega (arith, ints, inv.at_low);
      at_high = omega (arith, ints, inv.at_high);
      cycle_is = c.paced-pace.ensures.cycle ∙ ap (λ (x : ℕ). x + k.cycles) inv.cycle_is ∙ sym (cycle_more stages i k below c.stage-item.is);
      cycle_high = omega (arith, inv.cycle_high, c.paced-pace.ensures.cycle);
      comes_is = c.paced-pace.ensures.comes ∙ sym (before_more stages i k below c.stage-item.is);
      rows_are = rw (map-range_with_len_more row 0 i i (omega arith))
          (c.in_ok-push.ensures.items ∙ ap (λ (v : List Row). v ++ c.row_of.result ∷ []) inv.rows_are
          ∙ ap (λ (v : Row). map row (range_with_len 0 i) ++ v ∷ [])
          (c.row_of.ensures ∙ row_is stages i k below c.stage-item.is design s d pace.at pace.cycle pace.comes inv.at_is inv.cycle_is inv.comes_is));
      times = subst AreInTime (sym c.in_ok-push.ensures.items) (All-push (λ (r : Row). IsChainTime r.at) c.loop-stage.rows.items c.row_of.result inv.times here);
    }

pub returns-clause-times : goal.returns-clause-times
returns-clause-times c =
    let inv = c.loop-stage.invariant in
    subst AreInTime (sym (c.new.ensures ∙ c.in_ok-push-2.ensures.items))
    (All-push (λ (r : Row). IsChainTime r.at) c.loop-stage.rows.items _ inv.times
    (omega (arith, ints, clamps, inv.at_low, inv.at_high, c.requires.most), omega (arith, ints, clamps, inv.at_low, inv.at_high, c.requires.most)))
