use Rattle.std.proofs.Common.{List, [], ◌∷◌, ◌++◌, ℕ, ℤ, decimal, length, ap, ◌∙◌}
use Rattle.std.specs.Prelude.{codes}
use Rattle.std.proofs.lemmas.Result.{on_ok_weaker}
use Rattle.mintc_timing.specs.Design.{phase_count}
use Rattle.mintcx_verdicts.specs.Counts.{counted}
use Rattle.mintcx_verdicts.proofs.WrittenLaws.{in_five}
use Rattle.mintcx_verdicts.proofs.counts.put_phases.Goals as goal

pub returns : goal.returns
returns c = on_ok_weaker c.put-3.result
    (λ e. in_five c.args.lines.now (codes "  the design has ") (counted (phase_count c.args.flat.now) (codes "phase") (codes "phases"))
    (codes ", the certificate ") (decimal (length c.args.schedule.now.starts)) (10 ∷ [])
    c.in_ok-put.ensures.ok
    (c.in_ok-put_counted.ensures ∙ ap (λ (v : List (List ℕ)). c.put.new.self ++ counted (length v) (codes "phase") (codes "phases")) (c.items.ensures ∙ c.phases.ensures.value))
    c.in_ok-put-2.ensures.ok
    (c.in_ok-put_number.ensures ∙ ap (λ (v : List ℤ). c.put-2.new.self ++ decimal (length v)) c.items-2.ensures)
    e)
    c.put-3.ensures.ok
