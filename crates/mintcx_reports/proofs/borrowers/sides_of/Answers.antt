use Rattle.std.proofs.Common.{◌≡◌, ◌<◌, List, length, get_or, ap, sym, subst}
use Rattle.mintc_timing.specs.declared.parts.Pair.{Pair}
use Rattle.mintc_timing.specs.Design.{element_count, no_pair}
use Rattle.mintcx_reports.proofs.FlagLaws.{flag_more}
use Rattle.mintcx_reports.proofs.borrowers.sides_of.Goals as goal

pub loop-pair-preserved : goal.loop-pair-preserved
loop-pair-preserved c =
    let t = c.args.system.now in
    let n = element_count t.flat in
    let i = c.loop-pair.pair-index in
    let pair = get_or c.pairs-pair-items.result.now i no_pair in
    let same = c.pairs-pair-items.ensures.value in
    let inside : i < length t.pairs = subst (λ (ps : List Pair). i < length ps) same c.loop-pair-test.true in
    let is : pair ≡ get_or t.pairs i no_pair = ap (λ (ps : List Pair). get_or ps i no_pair) same in
    let ends = c.pairs-pair-items.ensures.kept.extremes.each i no_pair inside in
    let to : pair.to < n = subst (λ (p : Pair). p.to < n) (sym is) ends.to in
    let from : pair.from < n = subst (λ (p : Pair). p.from < n) (sym is) ends.from in
    record {
      fed_is = flag_more (λ (p : Pair). p.to) t.pairs i n c.loop-pair.fed.items pair inside is to c.loop-pair.invariant.fed_is;
      feeding_is = flag_more (λ (p : Pair). p.from) t.pairs i n c.loop-pair.feeding.items pair inside is from c.loop-pair.invariant.feeding_is;
    }
