use Rattle.std.proofs.Common.{◌≡◌, ◌<◌, ◌*◌, ◌∙◌, ℕ, List, length, arith, ap, get_or}
use Rattle.std.proofs.lemmas.List.{get_or_default}
use Rattle.mintc_paths_sums.specs.Placed.{row_of}
use Rattle.mintc_paths.specs.Found.{end_at}
use Rattle.mintc_paths.proofs.SharedFinding.{IsFoundToEnd-more, IsFoundToEnd-next}
use Rattle.mintc_paths.proofs.found.Found.add_from.Goals as goal

pub loop-number-preserved : goal.loop-number-preserved
loop-number-preserved g c =
    let rows = c.args.rows.now.of_bits.items in
    let ends = c.args.self.now.ends.items in
    let number : ℕ = c.loop-number.number in
    let to : ℕ = c.index-to.result.now in
    let kept = c.loop-number.invariant.ends in
    let inside : number < length ends = omega (arith, c.args.self.now.ends.ok.0, c.loop-number-test.true, c.len-number-end.ensures) in
    let is_to : to ≡ end_at ends number = c.index-to.ensures ∙ ap (λ (xs : List ℕ). get_or xs number to) kept ∙ get_or_default ends number to 0 inside in
    let below = c.requires.1.1.1.0.inside number inside in
    let is_row : c.index-row.result.now ≡ row_of rows (2 * to) = c.index-row.ensures ∙ get_or_default rows (2 * to) c.index-row.result.now 0 (omega (arith, c.requires.1.0, c.requires.1.1.0.of_bits.count)) in
    record {
      found = IsFoundToEnd-more g.design c.args.rows.now c.args.sums.now ends c.requires.1.1.0 c.requires.1.0 c.requires.1.1.1.0 c.args.element c.args.lane c.requires.1.1.1.1.1.0 c.requires.1.1.1.1.1.1.0 number c.loop-number.self c.add_at.new.self inside
          (rw (c.at.ensures, is_row, is_to) at c.in_ok-add_at.ensures.found) c.loop-number.invariant.found;
      ends = c.in_ok-add_at.ensures.ends ∙ kept;
      most = c.in_ok-add_at.ensures.most ∙ c.loop-number.invariant.most;
    }

pub returns-clause-found : goal.returns-clause-found
returns-clause-found g c =
    let ends = c.args.self.now.ends.items in
    let is : c.loop-number.number ≡ length ends = omega (arith, c.args.self.now.ends.ok.0, c.loop-number-test.false, c.loop-number.auto.number-end, c.len-number-end.ensures) in
    IsFoundToEnd-next g.design c.args.rows.now c.args.sums.now ends c.requires.1.1.0 c.requires.1.0 c.requires.1.1.1.0 c.args.element c.args.lane c.requires.1.1.1.1.1.0 c.requires.1.1.1.1.1.1.0 c.loop-number.self c.requires.0
    (rw is at c.loop-number.invariant.found)
