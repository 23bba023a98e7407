use Rattle.std.proofs.Common.{◌≡◌, ◌++◌, ◌∷◌, [], List, ℕ, length, ap, ◌∙◌}
use Rattle.std.specs.Prelude.{codes}
use Rattle.mintc_fraction.specs.Ratio.{over}
use Rattle.mintc_text.specs.Lines.{ended}
use Rattle.mintcx_frame.specs.Ends.{foot_text, head_text, unit_for}
use Rattle.mintcx_judgements.specs.Fails.{count_line, ranked_text}
use Rattle.mintcx_judgements.proofs.WrittenLaws.{fail_written}
use Rattle.mintcx_judgements.proofs.fail.fail_text.Goals as goal

pub returns : goal.returns
returns c =
    let t = c.args.judged.now.system.now in
    let s = c.args.judged.now.schedule.now in
    let late = c.args.judged.now.late.now in
    let early = c.args.judged.now.early.now in
    let vs = c.args.violations.now in
    let view = c.args.view.now in
    let places = c.in_ok-places.places.items in
    let unit = unit_for view.unit (over s.cycle s.den) in
    let unit_is : c.unit_for-unit.result ≡ unit = c.unit_for-unit.ensures ∙ ap (unit_for view.unit) c.cycle_time-time.ensures.value in
    let told : c.in_ok-causes.causes.told.unit ≡ unit = c.in_ok-causes.ensures.unit ∙ unit_is in
    let ranked : c.put_ranked.new.lines ≡ c.put-2.new.self ++ ranked_text t s late early unit vs places =
    rw (c.in_ok-causes.ensures.system, c.in_ok-causes.ensures.schedule, c.in_ok-causes.ensures.late, c.in_ok-causes.ensures.early, told, c.deref.ensures.value) at c.in_ok-put_ranked.ensures in (
      places,
      c.in_ok-places.ensures,
      c.new.ensures ∙ c.into_bytes.ensures
          ∙ fail_written (10 ∷ []) (head_text (codes "fail") (over s.cycle s.den) view) (ended (count_line (length vs))) (ranked_text t s late early unit vs places) (foot_text unit [])
          c.new-lines.ensures (c.in_ok-put_head.ensures ∙ ap (λ x. c.new-lines.result ++ head_text (codes "fail") x view) c.cycle_time-time.ensures.value)
          c.in_ok-put.ensures.ok c.in_ok-put_count.ensures c.in_ok-put-2.ensures.ok ranked c.in_ok-put-3.ensures.ok
          (c.in_ok-put_foot.ensures ∙ ap (λ u. c.put-3.new.self ++ foot_text u []) unit_is),
    )
