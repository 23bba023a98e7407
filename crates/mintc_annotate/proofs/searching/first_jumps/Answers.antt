use Rattle.std.proofs.Common.{◌≡◌, ◌+◌, [], ℕ, None, slice_index_or, sym, ap, ◌∙◌, arith}
use Rattle.mintc_annotate.specs.Searches.{first_jump}
use Rattle.mintc_annotate.proofs.BuildLaws.{pushed}
use Rattle.mintc_annotate.proofs.searching.first_jumps.Goals as goal

pub loop-bit-preserved : goal.loop-bit-preserved
loop-bit-preserved c =
    let count : 0 + c.loop-bit.bit ≡ c.loop-bit.bit = omega arith in
    pushed (λ b. first_jump b (slice_index_or c.args.table.now b None)) [] c.loop-bit.found.items c.push.new.self.items c.first_jump.result 0 c.loop-bit.bit c.loop-bit.invariant c.in_ok-push.ensures.items
    (c.first_jump.ensures ∙ ap (λ (b : ℕ). first_jump b (slice_index_or c.args.table.now b None)) (sym count))
