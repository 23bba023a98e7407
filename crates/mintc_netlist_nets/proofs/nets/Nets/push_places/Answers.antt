use Rattle.std.proofs.Common.{◌≡◌, ◌<◌, ℕ, length, get_or, reverse, sym, ◌∙◌, subst}
use Rattle.std.proofs.lemmas.List.{length-reverse, get_or-reverse}
use Rattle.mintc_netlist_nets.proofs.ExpressionLaws.{places_step}
use Rattle.mintc_netlist_nets.proofs.nets.Nets.push_places.Goals as goal

pub loop-number-preserved : goal.loop-number-preserved
loop-number-preserved c =
    let ps = c.args.pieces.now in
    let k = c.loop-number.number in
    let piece = c.index-pieces-pieces.result in
    let inside : k < length (reverse ps) = subst (λ (n : ℕ). k < n) (sym (length-reverse ps)) c.loop-number-test.true in
    let at : piece ≡ get_or (reverse ps) k piece = c.index-pieces-pieces.is ∙ sym (get_or-reverse ps k piece c.loop-number-test.true) in
    places_step c.args.module_nets.now (reverse ps) k piece c.args.places.now.items c.loop-number.places.items c.push_piece.new.places.items inside at c.loop-number.invariant c.in_ok-push_piece.ensures
