use Rattle.std.proofs.Common.{◌≡◌, ◌≤◌, ◌∷◌, ◌++◌, List, ℕ, OnOk, arith, decimal, length, subst, ap, ◌∙◌, refl, replicate, ◌-◌}
use Rattle.std.proofs.lemmas.Fmt.{length-decimal-le}
use Rattle.std.proofs.lemmas.List.{get_or-replicate}
use Rattle.mintc_text.proofs.WritingLaws.{after_space}
use Rattle.mintc_text.proofs.writing.Lines.put_spaced.Goals as goal

pub write_digits-start-requires : goal.write_digits-start-requires
write_digits-start-requires c = (omega (arith, length-decimal-le 10 c.from.result (omega arith) (omega arith) (omega arith)), omega arith)

pub overflow_sub-start : goal.overflow_sub-start
overflow_sub-start c = omega (arith, length-decimal-le 10 c.from.result (omega arith) (omega arith) (omega arith), c.write_digits-start.ensures.start)

pub returns-clause-ok : goal.returns-clause-ok
returns-clause-ok c =
    let start = c.write_digits-start.result in
    let few = length-decimal-le 10 c.from.result (omega arith) (omega arith) (omega arith) in
    let some : 1 ≤ start = omega (arith, few, c.write_digits-start.ensures.start) in
    let room : start ≤ 11 = omega (arith, c.write_digits-start.ensures.start) in
    let long : length c.write_digits-start.new.buf ≡ 11 = c.write_digits-start.auto.buf in
    let same = after_space (replicate 11 32) c.write_digits-start.new.buf (decimal c.from.result) start long some room (get_or-replicate 11 (start - 1) 32 0 (omega arith)) refl c.write_digits-start.ensures.before c.write_digits-start.ensures.written in
    subst (λ (bytes : List ℕ). OnOk c.put.result (c.put.new.self ≡ c.args.self.now ++ bytes)) (same ∙ ap (λ (n : ℕ). 32 ∷ decimal n) c.from.ensures) c.put.ensures.ok
