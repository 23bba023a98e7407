use Rattle.std.proofs.Common.{rules, ℕ, List, subst, ◌∙◌}
use Rattle.std.specs.List.Sorted.{IsPermutation}
use Rattle.std.proofs.lemmas.List.Sorted.{IsPermutation-trans}
use Rattle.mintc_liberty.proofs.SortLaws.{sorted-firsts, sorted-rises, moved-back}
use Rattle.mintc_liberty.proofs.places.sorted_places.Goals as goal

pub returns : goal.returns
returns c =
    let text = c.args.library.now.text in
    let moved = moved-back c.in_ok-places.places.items c.presort.new.places c.in_ok-places.places.len (subst (λ (ps : List ℕ). IsPermutation ps c.presort.new.places) c.deref_mut.ensures.value c.presort.ensures.permutation) (c.presort.ensures.len ∙ c.deref_mut.ensures.len) in
    sorted-firsts text _ _ _ c.in_ok-places.ensures.cells c.in_ok-places.ensures.ascending (IsPermutation-trans _ _ _ moved c.sort_unstable_by.ensures.permutation)
    (sorted-rises text _ c.sort_unstable_by.ensures.sorted (λ a r q k. search rules))
