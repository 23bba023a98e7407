use Rattle.std.proofs.Common.{◌≡◌, ℕ, List, subst}
use Rattle.mintc_timing_text.specs.TableText.{IsFromWord, IsToWord}
use Rattle.mintc_timing_text.proofs.table_lines.arc_of.Goals as goal

pub returns-in_err-from : goal.returns-in_err-from
returns-in_err-from c =
    rw c.from_residual-in_err-from.ensures (λ x h. let a = c.in_ok-expect_word.ensures in let b = c.in_ok-word.ensures in let e = h.spelled in
    let same : h.source ≡ c.in_ok-word.field-0.now = cc in
    c.in_err-from.ensures x.from (subst (λ (w : List ℕ). IsFromWord c.args.elements c.args.inner w x.from) same h.leaves))

pub returns-in_err-to : goal.returns-in_err-to
returns-in_err-to c =
    rw c.from_residual-in_err-to.ensures (λ x h. let a = c.in_ok-expect_word.ensures in let b = c.in_ok-word.ensures in let d = c.in_ok-word-2.ensures in let e = h.spelled in
    let same : h.target ≡ c.in_ok-word-2.field-0.now = cc in
    c.in_err-to.ensures x.to (subst (λ (w : List ℕ). IsToWord c.args.elements c.args.inner w x.to) same h.enters))
