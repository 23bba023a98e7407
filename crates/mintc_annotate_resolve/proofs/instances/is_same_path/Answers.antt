use Rattle.std.proofs.Common.{◌≡◌, sym, ap, ◌∙◌, not, bytes_eq, true, false, List, ℕ}
use Rattle.mintc_annotate_resolve.proofs.SharedPathLaws.{same_lengths, differ_at, alike_at, alike_past}
use Rattle.mintc_annotate_resolve.proofs.instances.is_same_path.Goals as goal

pub returns-then-one-other : goal.returns-then-one-other
returns-then-one-other c = sym (same_lengths c.args.one.now c.args.other.now c.if-one-other.true)

pub returns-then-ne : goal.returns-then-ne
returns-then-ne c =
    let test : not (bytes_eq c.index-one-number.result c.index-other-number.result) ≡ true =
    ap (λ (x : List ℕ). not (bytes_eq x c.index-other-number.result)) (sym c.bytes.ensures) ∙ ap (λ (y : List ℕ). not (bytes_eq c.bytes.result.now y)) (sym c.bytes-in-loop-number.ensures) ∙ sym c.ne.ensures ∙ c.if-ne.true in
    sym (c.loop-number.invariant ∙ differ_at c.args.one.now c.args.other.now c.loop-number.number c.index-one-number.result c.index-other-number.result c.loop-number-test.true c.if-one-other.false
    c.index-one-number.is c.index-other-number.is test)

pub loop-number-preserved : goal.loop-number-preserved
loop-number-preserved c =
    let test : not (bytes_eq c.index-one-number.result c.index-other-number.result) ≡ false =
    ap (λ (x : List ℕ). not (bytes_eq x c.index-other-number.result)) (sym c.bytes.ensures) ∙ ap (λ (y : List ℕ). not (bytes_eq c.bytes.result.now y)) (sym c.bytes-in-loop-number.ensures) ∙ sym c.ne.ensures ∙ c.if-ne.false in
    c.loop-number.invariant ∙ alike_at c.args.one.now c.args.other.now c.loop-number.number c.index-one-number.result c.index-other-number.result c.loop-number-test.true c.if-one-other.false
    c.index-one-number.is c.index-other-number.is test

pub returns : goal.returns
returns c = sym (c.loop-number.invariant ∙ alike_past c.args.one.now c.args.other.now c.loop-number.number c.loop-number-test.false c.if-one-other.false)
