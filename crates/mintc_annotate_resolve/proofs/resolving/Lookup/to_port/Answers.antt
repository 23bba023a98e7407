use Rattle.std.proofs.Common.{◌≡◌, Bool, cond, [], ◌∷◌, Some, sym, ap, ◌∙◌}
use Rattle.mintc_annotate_resolve.specs.Resolution.{of, no_instance, arcs_from, at_port}
use Rattle.mintc_annotate_resolve.specs.Ports.{place_of}
use Rattle.mintc_annotate_resolve.proofs.SharedPlaceLaws.{place_inside}
use Rattle.mintc_annotate_resolve.proofs.resolving.Lookup.to_port.Goals as goal

pub returns-then-place : goal.returns-then-place
returns-then-place c =
    let h = c.args.self.now.hierarchy.now in
    let text = c.args.text.now in
    let known = c.in_ok-place.ensures in
    let place : place_of h text ≡ Some c.in-Some.place = sym (c.requires.places text known.0) ∙ sym known.1 ∙ c.in-Some.is in
    record {
      right = sym (ap at_port place ∙ ap (λ (b : Bool). cond b (of (arcs_from c.in-Some.place.bit ∷ [])) no_instance) c.if-place.true);
      there = place_inside h c.args.self.now.cells.now c.requires.shape text c.in-Some.place place;
    }
