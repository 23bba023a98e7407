use Rattle.std.proofs.Common.{◌≡◌, ap, ◌∙◌, ◌++◌, List, ℕ}
use Rattle.mintc_annotate_resolve.specs.Places.{place_at}
use Rattle.mintc_annotate_resolve.proofs.places.find_place.Goals as goal

pub returns : goal.returns
returns c =
    let key : c.extend_from_slice.new.self.items ≡ c.args.text.now = c.in_ok-extend_from_slice.ensures.items ∙ ap (λ (l : List ℕ). l ++ c.args.text.now) c.clear.ensures.items in
    ((c.extend_from_slice.new.self, key), c.copied.ensures ∙ c.get.ensures.value ∙ ap (place_at c.args.places.now) (c.as_slice.ensures.value ∙ key))
