use Rattle.std.proofs.Common.{◌≡◌, ◌≤◌, ◌∷◌, ◌++◌, List, ℕ, IfOk, arith, codes, decimal, length, subst, ap, ◌∙◌, refl, replicate, ◌-◌}
use Rattle.std.proofs.lemmas.Fmt.{length-decimal-le}
use Rattle.std.proofs.lemmas.List.{get_or-replicate}
use Rattle.mintc_timing_text.proofs.InnerLaws.{after_letter}
use Rattle.mintc_timing_text.proofs.table_text.inner_name.Goals as goal

pub write_digits-start-requires : goal.write_digits-start-requires
write_digits-start-requires c = (omega (arith, length-decimal-le 10 c.from.result (omega arith) (omega arith) (omega arith)), omega arith)

pub overflow_sub-start : goal.overflow_sub-start
overflow_sub-start c = omega (arith, length-decimal-le 10 c.from.result (omega arith) (omega arith) (omega arith), c.write_digits-start.ensures.start)

pub returns : goal.returns
returns c =
    let start = c.write_digits-start.result in
    let few = length-decimal-le 10 c.from.result (omega arith) (omega arith) (omega arith) in
    let some : 1 ≤ start = omega (arith, few, c.write_digits-start.ensures.start) in
    let room : start ≤ 11 = omega (arith, c.write_digits-start.ensures.start) in
    let long : length c.write_digits-start.new.buf ≡ 11 = c.write_digits-start.auto.buf in
    let same = after_letter 110 (replicate 11 110) c.write_digits-start.new.buf (decimal c.from.result) start long some room (get_or-replicate 11 (start - 1) 110 0 (omega arith)) refl c.write_digits-start.ensures.before c.write_digits-start.ensures.written in
    subst (λ (bytes : List ℕ). IfOk c.new.result (λ name. name ≡ bytes)) (same ∙ ap (λ (n : ℕ). 110 ∷ decimal n) c.from.ensures) c.new.ensures
