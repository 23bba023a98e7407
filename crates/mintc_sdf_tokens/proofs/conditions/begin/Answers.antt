use Rattle.std.proofs.Common.{◌≡◌, suc, ◌+◌, ◌++◌, ◌∷◌, [], Some, None, sym, ap, ◌∙◌, arith, lt-ltb}
use Rattle.mintc_sdf_tokens.specs.Tokens.{opening}
use Rattle.mintc_sdf_tokens.specs.Conditions.{walked}
use Rattle.mintc_sdf_tokens.proofs.SharedConditionLaws.{step-in, step-last}
use Rattle.mintc_sdf_tokens.proofs.conditions.begin.Goals as goal

pub returns-in_ok-push-in-Some-clause-walked : goal.returns-in_ok-push-in-Some-clause-walked
returns-in_ok-push-in-Some-clause-walked c t =
    let next : suc c.args.depth ≡ c.args.depth + 1 = omega arith in
    step-in c.args.both c.args.layers.now.items t c.args.depth c.in-Some.inner c.args.reader.now c.condition.new.reader (lt-ltb _ _ c.requires.within) c.in-Some.ensures.some
    ∙ ap (λ ls. walked c.args.both (ls ++ c.in-Some.inner ∷ []) None (suc c.args.depth) c.condition.new.reader) (sym c.in_ok-note.ensures)
    ∙ ap (λ ls. walked c.args.both ls None (suc c.args.depth) c.condition.new.reader) (sym c.in_ok-push-in-Some.ensures)
    ∙ ap (λ d. walked c.args.both c.push.new.layers.items None d c.condition.new.reader) next

pub returns-in-None-clause-walked : goal.returns-in-None-clause-walked
returns-in-None-clause-walked c t =
    let next : suc c.args.depth ≡ c.args.depth + 1 = omega arith in
    step-last c.args.both c.args.layers.now.items t c.args.depth c.args.reader.now (lt-ltb _ _ c.requires.within) c.in-None.ensures.none.0
    ∙ ap (λ ls. walked c.args.both ls (Some (opening ∷ c.args.reader.now)) (suc c.args.depth) c.args.reader.now) (sym c.in_ok-note.ensures)
    ∙ ap (λ h. walked c.args.both c.note.new.layers.items (Some h) (suc c.args.depth) c.args.reader.now) (sym c.requires.here)
    ∙ ap (λ ts. walked c.args.both c.note.new.layers.items (Some c.args.here) (suc c.args.depth) ts) (sym c.in-None.ensures.none.1)
    ∙ ap (λ d. walked c.args.both c.note.new.layers.items (Some c.args.here) d c.condition.new.reader) next
