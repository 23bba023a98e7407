use Rattle.std.proofs.Common.{◌≡◌, ℕ, ℤ, ◌<◌, List, ap, ◌∙◌, sym, subst}
use Rattle.std.specs.Prelude.{All}
use Rattle.std.specs.List.Sorted.{IsPermutation}
use Rattle.mintc_timing.specs.Design.{element_count}
use Rattle.mintcx_reports.specs.Borrowers.{latches_of, places_of}
use Rattle.mintcx_reports.proofs.PlaceLaws.{latches_inside, places_inside}
use Rattle.mintcx_reports.proofs.borrowers.borrowing_of.Goals as goal

pub places_of-requires-clause-latches : goal.places_of-requires-clause-latches
places_of-requires-clause-latches c =
    let t = c.args.system.now in
    subst (All (λ (l : ℕ). l < element_count t.flat)) (sym (c.deref.ensures.value ∙ c.in_ok-latches.ensures)) (latches_inside t)

pub returns-clause-inside : goal.returns-clause-inside
returns-clause-inside c =
    let t = c.args.system.now in
    let d = c.args.departures.now in
    let placed : c.in_ok-places.places.items ≡ places_of d (latches_of t) =
    c.in_ok-places.ensures ∙ ap (places_of d) (c.deref.ensures.value ∙ c.in_ok-latches.ensures) in
    places_inside t d c.sort_unstable.new.self.items
    (subst (λ (ps : List (ℤ × ℕ)). IsPermutation ps c.sort_unstable.new.self.items) placed c.sort_unstable.ensures.permutation)
