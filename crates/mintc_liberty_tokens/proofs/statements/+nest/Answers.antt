use Rattle.std.proofs.Common.{◌≡◌, ◌∷◌, [], Some, option_map, length, sym, ap, ◌∙◌, arith}
use Rattle.mintc_liberty_tokens.specs.Tokens.{closing, word}
use Rattle.mintc_liberty_tokens.specs.Statements.{past_semicolon}
use Rattle.mintc_liberty_tokens.specs.Reading.{kind_of, value_rest, call_rest, called_rest, group_rest, statement_rest}
use Rattle.mintc_liberty_tokens.proofs.SharedPassingLaws.{same-tokens, ahead-then, both-ways, group-more, group-end, not-right}
use Rattle.mintc_liberty_tokens.proofs.SharedNestLaws.{step-shorter, word-there, attribute-rest, call-same, items-there, no-group, no-room, inside, right-here}
use Rattle.mintc_liberty_tokens.proofs.statements.«+nest».Goals as goal

pub call-returns-then-room-eq0-clause-passed : goal.call-returns-then-room-eq0-clause-passed
call-returns-then-room-eq0-clause-passed t c =
    items-there c.args.room c.args.scanner.now.tokens c.items.new.scanner.tokens c.if-not-items.ensures.passed
    ∙ ap (λ ts. called_rest c.args.room (closing ∷ ts)) (c.if-not-eat_sign.ensures.passed [])
    ∙ no-room c.args.room c.eat_sign.new.scanner.tokens c.if-room-eq0.true

pub call-returns-then-not-statements-clause-passed : goal.call-returns-then-not-statements-clause-passed
call-returns-then-not-statements-clause-passed t c =
    items-there c.args.room c.args.scanner.now.tokens c.items.new.scanner.tokens c.if-not-items.ensures.passed
    ∙ ap (λ ts. called_rest c.args.room (closing ∷ ts)) (c.if-not-eat_sign.ensures.passed [])
    ∙ inside c.args.room c.eat_sign.new.scanner.tokens c.if-room-eq0.false
    ∙ ap (option_map past_semicolon) c.if-not-statements.ensures.passed

pub call-returns-clause-passed : goal.call-returns-clause-passed
call-returns-clause-passed t c =
    items-there c.args.room c.args.scanner.now.tokens c.items.new.scanner.tokens c.if-not-items.ensures.passed
    ∙ ap (λ ts. called_rest c.args.room (closing ∷ ts)) (c.if-not-eat_sign.ensures.passed [])
    ∙ inside c.args.room c.eat_sign.new.scanner.tokens c.if-room-eq0.false
    ∙ ap (option_map past_semicolon) c.if-not-statements.ensures.passed
    ∙ ap Some (sym c.semicolon-2.ensures.passed)

pub call-returns-then-not-eat_sign-clause-passed : goal.call-returns-then-not-eat_sign-clause-passed
call-returns-then-not-eat_sign-clause-passed t c =
    items-there c.args.room c.args.scanner.now.tokens c.items.new.scanner.tokens c.if-not-items.ensures.passed
    ∙ no-group c.args.room c.items.new.scanner.tokens c.if-not-eat_sign.ensures.passed.0
    ∙ ap Some (ap past_semicolon (sym (same-tokens _ _ c.if-not-eat_sign.ensures.passed.1)) ∙ sym c.semicolon.ensures.passed)

pub statements-returns-then-eat_sign-clause-passed : goal.statements-returns-then-eat_sign-clause-passed
statements-returns-then-eat_sign-clause-passed t c = c.loop-room.invariant.same ∙ right-here c.args.room c.loop-room.scanner.tokens c.eat_sign.new.scanner.tokens (c.if-eat_sign.ensures.passed [])

pub statements-returns-then-not-statement-clause-passed : goal.statements-returns-then-not-statement-clause-passed
statements-returns-then-not-statement-clause-passed t c =
    c.loop-room.invariant.same ∙ ap (group_rest c.args.room) (sym (same-tokens _ _ c.if-eat_sign.ensures.passed.1))
    ∙ group-end c.args.room c.eat_sign.new.scanner.tokens c.if-not-statement.ensures.passed
    ∙ not-right c.eat_sign.new.scanner.tokens (λ e. c.if-eat_sign.ensures.passed.0 (e ∙ ap kind_of (same-tokens _ _ c.if-eat_sign.ensures.passed.1)))

pub statements-loop-room-smaller : goal.statements-loop-room-smaller
statements-loop-room-smaller t c =
    let same = ap length (same-tokens _ _ c.if-eat_sign.ensures.passed.1) in
    let less = step-shorter c.args.room c.eat_sign.new.scanner.tokens c.statement.new.scanner.tokens c.if-not-statement.ensures.passed in
    omega (arith, same, less)

pub statements-loop-room-preserved : goal.statements-loop-room-preserved
statements-loop-room-preserved t c =
    record {
      same =
          c.loop-room.invariant.same ∙ ap (group_rest c.args.room) (sym (same-tokens _ _ c.if-eat_sign.ensures.passed.1))
          ∙ group-more c.args.room c.eat_sign.new.scanner.tokens c.statement.new.scanner.tokens c.if-not-statement.ensures.passed;
      ahead = ahead-then _ _ _ c.loop-room.invariant.ahead (ahead-then _ _ _ c.if-eat_sign.ensures.ahead c.if-not-statement.ensures.ahead);
    }

pub statement-returns-then-eat_sign-clause-passed : goal.statement-returns-then-eat_sign-clause-passed
statement-returns-then-eat_sign-clause-passed t c =
    let w = c.in-Some.field-0.now in
    let there : c.args.scanner.now.tokens ≡ word w ∷ c.word.new.self.tokens = word-there c.args.scanner.now.tokens c.word.new.self.tokens w c.in-Some.ensures.some in
    let chain : statement_rest c.args.room c.args.scanner.now.tokens ≡ value_rest c.eat_sign.new.scanner.tokens =
    ap (statement_rest c.args.room) (there ∙ ap (λ ts. word w ∷ ts) (c.if-eat_sign.ensures.passed [])) ∙ attribute-rest c.args.room w c.eat_sign.new.scanner.tokens in
    both-ways c.value.result c.value.ensures.passed (λ e. chain ∙ e) (λ e. chain ∙ e)

pub statement-returns-clause-passed : goal.statement-returns-clause-passed
statement-returns-clause-passed t c =
    let w = c.in-Some.field-0.now in
    let there : c.args.scanner.now.tokens ≡ word w ∷ c.word.new.self.tokens = word-there c.args.scanner.now.tokens c.word.new.self.tokens w c.in-Some.ensures.some in
    let chain : statement_rest c.args.room c.args.scanner.now.tokens ≡ call_rest c.args.room c.eat_sign-2.new.scanner.tokens =
    ap (statement_rest c.args.room) (there ∙ ap (λ ts. word w ∷ ts) (sym (same-tokens _ _ c.if-eat_sign.ensures.passed.1) ∙ c.if-not-eat_sign.ensures.passed [])) ∙ call-same c.args.room w c.eat_sign-2.new.scanner.tokens in
    both-ways c.call.result c.call.ensures.passed (λ e. chain ∙ e) (λ e. chain ∙ e)
