use Rattle.std.proofs.Common.{◌<◌, ◌+◌, length, sym, ap, ◌∙◌, arith, length-drop}
use Rattle.mintc_sdf.specs.Forms.{parts_of}
use Rattle.mintc_sdf_edges.specs.Spans.{wider_of, parts_span}
use Rattle.mintc_sdf_edges.proofs.SpanLaws.{word-start, word-turn, word-end}
use Rattle.mintc_sdf_edges.proofs.spans.word_span.Goals as goal

pub loop-rest-init : goal.loop-rest-init
loop-rest-init c = record { few = omega arith; whole = word-start c.args.scale c.args.word.now }

pub returns-then-size-rest : goal.returns-then-size-rest
returns-then-size-rest c =
    c.wider_of-span.ensures ∙ ap (wider_of c.loop-rest.span) c.part_span.ensures
    ∙ word-end c.args.scale _ c.loop-rest.span c.loop-rest.rest.now c.colon_size-size.result c.loop-rest.invariant.whole c.colon_size-size.ensures.value c.if-size-rest.true

pub overflow_add-size : goal.overflow_add-size
overflow_add-size c = omega (arith, c.loop-rest.invariant.few, c.colon_size-size.ensures.within)

pub loop-rest-preserved : goal.loop-rest-preserved
loop-rest-preserved c =
    let size : c.colon_size-size.result < length c.loop-rest.rest.now = omega (arith, c.colon_size-size.ensures.within, c.if-size-rest.false) in
    record {
      few = omega (arith, c.loop-rest.invariant.few, ap length c.rest_from-rest.ensures, length-drop (c.colon_size-size.result + 1) c.loop-rest.rest.now);
      whole =
          word-turn c.args.scale _ c.loop-rest.span c.loop-rest.rest.now c.rest_from-rest.result.now c.colon_size-size.result c.loop-rest.invariant.whole c.colon_size-size.ensures.value size c.rest_from-rest.ensures
          ∙ ap (λ o. wider_of o (parts_span c.args.scale (parts_of c.rest_from-rest.result.now))) (sym (c.wider_of-span.ensures ∙ ap (wider_of c.loop-rest.span) c.part_span.ensures));
    }
