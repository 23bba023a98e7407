use Rattle.std.proofs.Common.{◌≡◌, ◌∙◌, ◌<ℤ◌, ◌≤ℤ◌, ◌*ℤ◌, pos, ap, arith, w64}
use Rattle.std.proofs.lemmas.Int.{ints, clamps, to_z-of_z}
use Rattle.mintcx_chart.specs.Stretches.{greatest_of, least_of, shown_first, shown_last, times_of}
use Rattle.mintcx_chart.proofs.WideLaws.{begins_is, ends_is, not_too_long, read_scale, too_long}
use Rattle.mintcx_chart.proofs.stretch.scale_for.Goals as goal

pub returns-then-shown_length-most_cycles-clause-shown : goal.returns-then-shown_length-most_cycles-clause-shown
returns-then-shown_length-most_cycles-clause-shown c =
    let den = to_z-of_z w64 c.args.den c.ranges.den in
    let cycle = to_z-of_z w64 c.args.cycle c.ranges.cycle in
    let lanes = c.args.lanes.now in
    let span = c.with_lanes-span.result in
    let shown = c.padded-shown.result in
    let first = c.with_lanes-span.ensures.least ∙ ap (λ v. least_of c.args.marks.first (times_of v lanes)) cycle in
    let last = c.with_lanes-span.ensures.greatest ∙ ap (λ v. greatest_of c.args.marks.last (times_of v lanes)) cycle in
    let begins = c.padded-shown.ensures.begins ∙ ap (λ v. shown_first v span.first span.last) den in
    let ends = c.padded-shown.ensures.ends ∙ ap (λ v. shown_last v span.first span.last) den in
    let most = c.most_cycles.ensures ∙ ap (λ v. pos 80 *ℤ v) cycle in
    let h : c.most_cycles.result <ℤ c.shown_length.result = omega (arith, ints, clamps, c.if-shown_length-most_cycles.true, c.most_cycles.ensures, c.shown_length.ensures, c.requires.cycle.0, c.requires.cycle.1, c.padded-shown.ensures.first.0, c.padded-shown.ensures.first.1, c.padded-shown.ensures.last.0, c.padded-shown.ensures.last.1) in
    too_long c.args.den c.args.cycle span.first span.last (least_of c.args.marks.first (times_of c.args.cycle lanes))
    (greatest_of c.args.marks.last (times_of c.args.cycle lanes)) shown.first shown.last c.most_cycles.result c.shown_length.result first last begins ends most c.shown_length.ensures h

pub returns-clause-shown : goal.returns-clause-shown
returns-clause-shown c =
    let den = to_z-of_z w64 c.args.den c.ranges.den in
    let cycle = to_z-of_z w64 c.args.cycle c.ranges.cycle in
    let lanes = c.args.lanes.now in
    let span = c.with_lanes-span.result in
    let shown = c.padded-shown.result in
    let first = c.with_lanes-span.ensures.least ∙ ap (λ v. least_of c.args.marks.first (times_of v lanes)) cycle in
    let last = c.with_lanes-span.ensures.greatest ∙ ap (λ v. greatest_of c.args.marks.last (times_of v lanes)) cycle in
    let begins = c.padded-shown.ensures.begins ∙ ap (λ v. shown_first v span.first span.last) den in
    let ends = c.padded-shown.ensures.ends ∙ ap (λ v. shown_last v span.first span.last) den in
    let most = c.most_cycles.ensures ∙ ap (λ v. pos 80 *ℤ v) cycle in
    let h : c.shown_length.result ≤ℤ c.most_cycles.result = omega (arith, ints, clamps, c.if-shown_length-most_cycles.false, c.most_cycles.ensures, c.shown_length.ensures, c.requires.cycle.0, c.requires.cycle.1, c.padded-shown.ensures.first.0, c.padded-shown.ensures.first.1, c.padded-shown.ensures.last.0, c.padded-shown.ensures.last.1) in (
      c.scale_of.ensures.first ∙ read_scale shown.first c.padded-shown.ensures.first ∙ begins_is c.args.den c.args.cycle span.first span.last (least_of c.args.marks.first (times_of c.args.cycle lanes))
          (greatest_of c.args.marks.last (times_of c.args.cycle lanes)) shown.first shown.last c.most_cycles.result c.shown_length.result first last begins ends most c.shown_length.ensures,
      c.scale_of.ensures.last ∙ read_scale shown.last c.padded-shown.ensures.last ∙ ends_is c.args.den c.args.cycle span.first span.last (least_of c.args.marks.first (times_of c.args.cycle lanes))
          (greatest_of c.args.marks.last (times_of c.args.cycle lanes)) shown.first shown.last c.most_cycles.result c.shown_length.result first last begins ends most c.shown_length.ensures,
      not_too_long c.args.den c.args.cycle span.first span.last (least_of c.args.marks.first (times_of c.args.cycle lanes))
          (greatest_of c.args.marks.last (times_of c.args.cycle lanes)) shown.first shown.last c.most_cycles.result c.shown_length.result first last begins ends most c.shown_length.ensures h,
    )
