use Rattle.std.proofs.Common.{◌≡◌, [], length, true, false, Some, IsOk, sym, ap, subst, ◌∙◌, arith}
use Rattle.mintc_liberty_tokens.specs.Statements.{Front, front, count}
use Rattle.mintc_liberty.specs.Texts.{behind_head, is_end, whole, within, library_of}
use Rattle.mintc_liberty_tokens.specs.Reading.{statement_rest}
use Rattle.mintc_text_scan.proofs.SharedTokenLaws.{few}
use Rattle.mintc_liberty_tokens.specs.Tokens.{piece_of}
use Rattle.mintc_liberty_tokens.proofs.SharedNestLaws.{step-shorter}
use Rattle.mintc_liberty_cell.proofs.SharedStepLaws.{one-more, no-more}
use Rattle.mintc_liberty.proofs.LibraryLaws.{is-whole, is-broken, no-end, head-shorter}
use Rattle.mintc_liberty.proofs.texts.syntax_of.Goals as goal

pub overflow_add-result : goal.overflow_add-result
overflow_add-result c =
    omega (
      arith,
      head-shorter c.new-scanner.result.tokens c.head.new.scanner.tokens c.if-not-head.ensures,
      ap length c.new-scanner.ensures.tokens,
      ap length c.at-reader.ensures,
      few piece_of 0 c.args.text.now,
    )

pub overflow_add-result-then-not-statement : goal.overflow_add-result-then-not-statement
overflow_add-result-then-not-statement c =
    omega (
      arith,
      head-shorter c.new-scanner.result.tokens c.head.new.scanner.tokens c.if-not-head.ensures,
      ap length c.new-scanner.ensures.tokens,
      ap length c.at-reader.ensures,
      few piece_of 0 c.args.text.now,
    )

pub overflow_add-count : goal.overflow_add-count
overflow_add-count c =
    omega (
      arith,
      head-shorter c.new-scanner.result.tokens c.head.new.scanner.tokens c.if-not-head.ensures,
      ap length c.new-scanner.ensures.tokens,
      ap length c.at-reader.ensures,
      few piece_of 0 c.args.text.now,
    )

pub returns-then-ends : goal.returns-then-ends
returns-then-ends c =
    let init = c.at-reader.result in
    let here = no-more 63 c.loop-reader.reader (ap (statement_rest 63) (c.if-eat_sign.ensures [])) in
    let ending : is_end (front 63 init).after ≡ true = ap is_end (c.loop-reader.invariant.same ∙ ap (λ (f : Front). f.after) here ∙ c.if-eat_sign.ensures []) ∙ sym c.ends.ensures ∙ c.if-ends.true in
    let lib : library_of c.args.text.now ≡ whole (front 63 init) = ap (λ ts. within (behind_head ts)) (sym c.new-scanner.ensures.tokens) ∙ ap within (c.if-not-head.ensures ∙ ap Some (sym c.at-reader.ensures)) in
    subst IsOk (sym lib) (is-whole (front 63 init) ending)

pub returns-else-ends : goal.returns-else-ends
returns-else-ends c =
    let init = c.at-reader.result in
    let here = no-more 63 c.loop-reader.reader (ap (statement_rest 63) (c.if-eat_sign.ensures [])) in
    let ending : is_end (front 63 init).after ≡ false = ap is_end (c.loop-reader.invariant.same ∙ ap (λ (f : Front). f.after) here ∙ c.if-eat_sign.ensures []) ∙ sym c.ends.ensures ∙ c.if-ends.false in
    let number : count (front 63 init).statements ≡ c.loop-reader.count = omega (arith, ap (λ (f : Front). count f.statements) here) in
    let lib : library_of c.args.text.now ≡ whole (front 63 init) = ap (λ ts. within (behind_head ts)) (sym c.new-scanner.ensures.tokens) ∙ ap within (c.if-not-head.ensures ∙ ap Some (sym c.at-reader.ensures)) in
    lib ∙ is-broken (front 63 init) c.loop-reader.count ending number

pub returns-then-not-statement : goal.returns-then-not-statement
returns-then-not-statement c =
    let init = c.at-reader.result in
    let n = c.if-eat_sign.ensures in
    let here = no-more 63 c.loop-reader.reader (ap (statement_rest 63) (sym n.1) ∙ c.if-not-statement.ensures) in
    let ending : is_end (front 63 init).after ≡ false = ap is_end (c.loop-reader.invariant.same ∙ ap (λ (f : Front). f.after) here) ∙ no-end c.loop-reader.reader n.0 in
    let number : count (front 63 init).statements ≡ c.loop-reader.count = omega (arith, ap (λ (f : Front). count f.statements) here) in
    let lib : library_of c.args.text.now ≡ whole (front 63 init) = ap (λ ts. within (behind_head ts)) (sym c.new-scanner.ensures.tokens) ∙ ap within (c.if-not-head.ensures ∙ ap Some (sym c.at-reader.ensures)) in
    lib ∙ is-broken (front 63 init) c.loop-reader.count ending number

pub loop-reader-smaller : goal.loop-reader-smaller
loop-reader-smaller c =
    let same = ap length c.if-eat_sign.ensures.1 in
    let less = step-shorter 63 c.eat_sign.new.reader c.statement.new.reader c.if-not-statement.ensures in
    omega (arith, same, less)

pub loop-reader-preserved : goal.loop-reader-preserved
loop-reader-preserved c =
    let e : statement_rest 63 c.loop-reader.reader ≡ Some c.statement.new.reader = ap (statement_rest 63) (sym c.if-eat_sign.ensures.1) ∙ c.if-not-statement.ensures in
    let step = (one-more 63 c.loop-reader.reader c.statement.new.reader e).2 in
    let less = step-shorter 63 c.loop-reader.reader c.statement.new.reader e in
    record {
      same = c.loop-reader.invariant.same ∙ ap (λ (f : Front). f.after) step;
      counted = omega (arith, ap (λ (f : Front). count f.statements) step);
      few = omega (arith, c.loop-reader.invariant.few, less);
    }
