use Rattle.std.proofs.Common.{◌≡◌, ◌<◌, ◌++◌, ◌∷◌, [], ℕ, ℤ, List, length, take, ap, ◌∙◌, sym, subst, arith}
use Rattle.std.specs.Prelude.{All, codes}
use Rattle.std.proofs.lemmas.List.Elements.{All-take}
use Rattle.mintc_fraction.specs.Ratio.{over}
use Rattle.mintc_timing.specs.Design.{element_count}
use Rattle.mintcx_columns.specs.Tables.{Grid, table_text}
use Rattle.mintcx_frame.specs.Ends.{foot_text, head_text, unit_for}
use Rattle.mintcx_frame.specs.Phases.{phases_text}
use Rattle.mintcx_frame.specs.Rows.{more_text, shown_rows}
use Rattle.mintcx_judgements.specs.Passes.{AreByRoom, rooms_grid, rooms_note, rooms_said}
use Rattle.mintcx_judgements.proofs.SharedPlaceLaws.{by_room_inside}
use Rattle.mintcx_judgements.proofs.WrittenLaws.{pass_written}
use Rattle.mintcx_judgements.proofs.pass.pass_text.Goals as goal

pub rooms_table-requires-clause-inside : goal.rooms_table-requires-clause-inside
rooms_table-requires-clause-inside c =
    let causes = c.in_ok-causes.causes in
    let t = causes.told.system.now in
    let places = c.in_ok-places.places.items in
    let inside : All (λ (p : ℕ × ℤ × ℕ). p.2 < element_count t.flat) places = by_room_inside t causes.told.schedule.now causes.late.now places c.in_ok-places.ensures in
    All-take (λ (p : ℕ × ℤ × ℕ). p.2 < element_count t.flat) c.shown_rows-shown.result c.deref.result.now
    (subst (λ (ps : List (ℕ × ℤ × ℕ)). All (λ (p : ℕ × ℤ × ℕ). p.2 < element_count t.flat) ps) (sym c.deref.ensures.value) inside)

pub returns : goal.returns
returns c =
    let t = c.args.judged.now.system.now in
    let s = c.args.judged.now.schedule.now in
    let late = c.args.judged.now.late.now in
    let early = c.args.judged.now.early.now in
    let view = c.args.view.now in
    let places = c.in_ok-places.places.items in
    let unit = unit_for view.unit (over s.cycle s.den) in
    let n = shown_rows view.limit (length places) in
    let unit_is : c.unit_for-unit.result ≡ unit = c.unit_for-unit.ensures ∙ ap (unit_for view.unit) c.cycle_time-time.ensures.value in
    let told : c.in_ok-causes.causes.told.unit ≡ unit = c.in_ok-causes.ensures.unit ∙ unit_is in
    let count : c.len.result ≡ length places = grind (arith, c.len.ensures) in
    let all : c.len-2.result ≡ length places = grind (arith, c.len-2.ensures) in
    let shown : c.shown_rows-shown.result ≡ n = c.shown_rows-shown.ensures.value ∙ ap (shown_rows view.limit) count in
    let by_room : AreByRoom t s late places =
    rw (c.in_ok-causes.ensures.system, c.in_ok-causes.ensures.schedule, c.in_ok-causes.ensures.late) at c.in_ok-places.ensures in
    let grid : c.in_ok-rooms_table.field-0 ≡ rooms_grid t s late early unit (take n places) =
    rw (c.in_ok-causes.ensures.system, c.in_ok-causes.ensures.schedule, c.in_ok-causes.ensures.late, c.in_ok-causes.ensures.early, told, c.deref.ensures.value, shown) at c.in_ok-rooms_table.ensures in
    let table : c.put-3.new.self ≡ c.put-2.new.self ++ table_text (rooms_grid t s late early unit (take n places)) =
    c.in_ok-put-3.ensures.ok ∙ ap (λ v. c.put-2.new.self ++ v) (c.deref-2.ensures.value ∙ c.in_ok-table.ensures.text ∙ ap table_text grid) in (
      places,
      by_room,
      c.new.ensures ∙ c.into_bytes.ensures
          ∙ pass_written (10 ∷ []) (head_text (codes "pass") (over s.cycle s.den) view) (phases_text t.flat s unit) rooms_said
          (table_text (rooms_grid t s late early unit (take n places))) (more_text view.limit (length places)) (foot_text unit rooms_note)
          c.new-lines.ensures (c.in_ok-put_head.ensures ∙ ap (λ x. c.new-lines.result ++ head_text (codes "pass") x view) c.cycle_time-time.ensures.value)
          c.in_ok-put.ensures.ok
          (c.in_ok-put_phases.ensures ∙ ap (λ f. c.put.new.self ++ phases_text f s c.unit_for-unit.result) c.flat.ensures.value ∙ ap (λ u. c.put.new.self ++ phases_text t.flat s u) unit_is)
          c.in_ok-put-2.ensures.ok table
          (c.in_ok-put_more.ensures ∙ ap (λ k. c.put-3.new.self ++ more_text view.limit k) all)
          c.in_ok-put-4.ensures.ok
          (c.in_ok-put_foot.ensures ∙ ap (λ u. c.put-4.new.self ++ foot_text u rooms_note) unit_is),
    )
