use Rattle.std.proofs.Common.{length, rules}
use Rattle.mintc_paths.proofs.SharedReversedPaths.{IsDesign-reversed, IsOrder-reversed}
use Rattle.mintc_paths_count.proofs.back.count_reversed.Goals as goal

pub count_along-requires : goal.count_along-requires
count_along-requires g c =
    let design = c.args.flat.now in
    let kept = c.element_count-elements.ensures.kept in
    let there = c.requires.1.1.1.of_bits in
    let back = c.requires.1.1.1.bits in
    let places = c.args.places.now.of_bits.items in
    let elements = c.args.places.now.bits.items in
    let bits = c.requires.1.1.0.rows.of_bits.count in
    rw c.requires.0 (
      record {
        is_ordered = record {
          kept = IsDesign-reversed design places elements kept there back;
          order = IsOrder-reversed (length design.elements) (length design.inner) places elements there back design.arcs kept.each_arc c.args.order.now c.requires.1.0;
        };
        bits = bits;
        is_sequence = rw bits c.requires.1.1.0;
      },
      search rules,
    )
