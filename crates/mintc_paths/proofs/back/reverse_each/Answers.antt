use Rattle.std.proofs.Common.{◌∙◌, map, arith, sym}
use Rattle.std.proofs.lemmas.List.{same_lists, get_or_default, get_or-map}
use Rattle.std.proofs.Math.ListN.{length-map}
use Rattle.mintc_timing.specs.Design.{no_pair}
use Rattle.mintc_paths.specs.Reversed.{pair_back}
use Rattle.mintc_paths.proofs.back.reverse_each.Goals as goal

pub returns : goal.returns
returns c =
    let old = c.args.pairs.now in
    let new = c.loop-number.pairs in
    let back = pair_back c.args.places.now.bits.items in
    same_lists new (map back old) (c.loop-number.invariant.count ∙ sym (length-map old back))
    (λ k d below. get_or_default new k d no_pair below ∙ c.loop-number.invariant.done k (omega arith) ∙ sym (get_or-map back old k no_pair d (omega arith)))
