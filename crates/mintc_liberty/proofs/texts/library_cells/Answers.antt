use Rattle.std.proofs.Common.{◌≡◌, ◌++◌, ℕ, [], List, None, option_map, filter_map, length, sym, ap, ◌∙◌, subst, arith}
use Rattle.std.proofs.lemmas.Bool.Decides.{nat_tests}
use Rattle.std.proofs.lemmas.List.{append-nil, nil_from_length}
use Rattle.std.specs.Borrow.{Bor}
use Rattle.mintc_cells.specs.Entries.{AreAscending, AreKept, names_of, is_kept}
use Rattle.mintc_liberty_tokens.specs.Statements.{front}
use Rattle.mintc_liberty_cell.specs.Meaning.{groups}
use Rattle.mintc_liberty.specs.Meaning.{usable, put_all, cells_in}
use Rattle.mintc_liberty.specs.Places.{is_same, named_cells}
use Rattle.mintc_liberty.proofs.PlaceLaws.{cells_from, next-same, next-other, named-cells, ascending-kept, all-kept, all-in-order}
use Rattle.mintc_liberty.proofs.UsableLaws.{usable-name, usable-kept}
use Rattle.mintc_liberty.proofs.texts.library_cells.Goals as goal
use Rattle.mintc_liberty.proofs.texts.library_cells.Goals.{then-not-is_same+in_ok-add, else-not-is_same}

pub loop-place-init : goal.loop-place-init
loop-place-init c = ap (λ xs. xs ++ cells_from c.args.library.now.text None c.into_iter-place-iterator.result.rest.items) (sym c.new-cells.ensures.items)

pub loop-place-preserved : goal.loop-place-preserved
loop-place-preserved c =
    let text = c.args.library.now.text in
    let o = option_map (λ (b : Bor (List ℕ)). b.now) c.loop-place.before in
    let named = ap (is_same o) (sym c.name_from-name.ensures) ∙ sym c.is_same.ensures in
    let before = c.loop-place.invariant ∙ ap (λ ps. c.loop-place.cells.items ++ cells_from text o ps) c.in-Some.ensures.steps.0 in
    elim c.if-not-is_same.branch [
      | then-not-is_same+in_ok-add w ↦
          before ∙ next-other text o c.in-Some.place _ c.next.new.self.rest.items c.loop-place.cells.items _ c.name_from-name.ensures (named ∙ w.if-not-is_same.true)
          (ap (λ v. v.items) w.cells-is ∙ w.in_ok-add.ensures)
      | else-not-is_same w ↦
          before ∙ next-same text o c.in-Some.place _ c.next.new.self.rest.items c.loop-place.cells.items _ c.name_from-name.ensures (named ∙ w.if-not-is_same.false)
          (ap (λ v. v.items) w.cells-is)
    ]

pub returns-clause-cells : goal.returns-clause-cells
returns-clause-cells c =
    let text = c.args.library.now.text in
    let o = option_map (λ (b : Bor (List ℕ)). b.now) c.loop-place.before in
    let none : length c.loop-place.place-iterator.rest.items ≡ 0 = grind (arith, nat_tests, c.loop-place.place-iterator.rest.ok, c.in-None.ensures.steps.0) in
    let all : cells_from text None c.in_ok-places.places.items ≡ c.loop-place.cells.items =
    ap (cells_from text None) (sym c.into_iter-place-iterator.ensures.into_iter_gives.0) ∙ c.loop-place.invariant
    ∙ ap (λ ps. c.loop-place.cells.items ++ cells_from text o ps) (nil_from_length c.loop-place.place-iterator.rest.items none) ∙ append-nil c.loop-place.cells.items in
    sym all ∙ sym (ap (filter_map usable) c.in_ok-places.ensures) ∙ sym (named-cells (cells_in (groups (front 63 c.args.library.now.tokens).statements)))

pub returns-clause-ordered : goal.returns-clause-ordered
returns-clause-ordered c =
    let text = c.args.library.now.text in
    let o = option_map (λ (b : Bor (List ℕ)). b.now) c.loop-place.before in
    let es = put_all (named_cells c.args.library.now.tokens) [] in
    let none : length c.loop-place.place-iterator.rest.items ≡ 0 = grind (arith, nat_tests, c.loop-place.place-iterator.rest.ok, c.in-None.ensures.steps.0) in
    let all : filter_map usable es ≡ c.loop-place.cells.items =
    ap (filter_map usable) c.in_ok-places.ensures ∙ ap (cells_from text None) (sym c.into_iter-place-iterator.ensures.into_iter_gives.0) ∙ c.loop-place.invariant
    ∙ ap (λ ps. c.loop-place.cells.items ++ cells_from text o ps) (nil_from_length c.loop-place.place-iterator.rest.items none) ∙ append-nil c.loop-place.cells.items in
    record {
      few = omega (arith, c.in_ok-try_from.ensures.0, c.len.ensures);
      ascending = subst (λ cells. AreAscending (names_of cells)) all (ascending-kept usable usable-name es (all-in-order (named_cells c.args.library.now.tokens) [] tt));
      each = subst AreKept all (all-kept usable is_kept usable-kept es);
    }
