use Rattle.std.proofs.Common.{◌≡◌, ◌≤◌, ◌<◌, ℕ, List, [], length, get_or, take, ap, ◌∙◌, arith, sym}
use Rattle.std.proofs.lemmas.List.{get_or_read, take_all}
use Rattle.std.proofs.lemmas.List.Elements.{All-more, All-same}
use Rattle.mintc_text.specs.declared.limits.Most.{Most}
use Rattle.mintc_command_answers.proofs.SourceLaws.{IsLengthRefusal-at}
use Rattle.mintc_command_answers.proofs.source.too_long.Goals as goal

pub returns-then-items-most : goal.returns-then-items-most
returns-then-items-most c =
    let below = c.loop-place-test.true in
    let same : c.items.result.now ≡ get_or c.args.files.now c.loop-place.place [] =
    c.items.ensures ∙ get_or_read c.args.files.now c.loop-place.place c.index-files-place.result below c.index-files-place.is [] in
    let value = ap (λ (m : Most). m.bytes) c.most-most.ensures.value in
    let size = ap (λ (xs : List ℕ). length xs) same in
    let long : c.args.limits.now.bytes < length (get_or c.args.files.now c.loop-place.place []) = omega (arith, value, size, c.if-items-most.true) in
    IsLengthRefusal-at c.args.limits.now c.args.roles.now c.args.files.now c.loop-place.place _ below (omega arith) c.loop-place.invariant long

pub loop-place-preserved : goal.loop-place-preserved
loop-place-preserved c =
    let below = c.loop-place-test.true in
    let same : c.items.result.now ≡ get_or c.args.files.now c.loop-place.place [] =
    c.items.ensures ∙ get_or_read c.args.files.now c.loop-place.place c.index-files-place.result below c.index-files-place.is [] in
    let value = ap (λ (m : Most). m.bytes) c.most-most.ensures.value in
    let size = ap (λ (xs : List ℕ). length xs) same in
    let short : length (get_or c.args.files.now c.loop-place.place []) ≤ c.args.limits.now.bytes = omega (arith, value, size, c.if-items-most.false) in
    All-more (λ (b : List ℕ). length b ≤ c.args.limits.now.bytes) c.args.files.now c.loop-place.place [] below c.loop-place.invariant short

pub returns : goal.returns
returns c =
    let whole : take c.loop-place.place c.args.files.now ≡ c.args.files.now = take_all c.loop-place.place c.args.files.now c.loop-place-test.false in
    All-same (λ (b : List ℕ). length b ≤ c.args.limits.now.bytes) c.args.files.now (take c.loop-place.place c.args.files.now) (sym whole) c.loop-place.invariant
