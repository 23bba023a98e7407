use Rattle.std.proofs.Common.{◌<◌, ◌/◌, ◌%◌, ◌∙◌, length, arith, ap, get_or-set_same}
use Rattle.mintc_paths_count.specs.declared.marks.Marks.{Marks}
use Rattle.mintc_paths_count.specs.Marks.{mark_in, marks_at, no_marks}
use Rattle.mintc_paths_count.proofs.Setting.{with_bit, set_own, set_other}
use Rattle.mintc_paths_count.proofs.marks.set.Goals as goal

pub returns-clause-lanes : goal.returns-clause-lanes
returns-clause-lanes c = λ other ne.
    let inside : c.args.lane / 64 < length (marks_at c.args.marks.now c.args.row).words = omega arith in
    let now : Marks = record { words = with_bit (marks_at c.args.marks.now c.args.row).words (c.args.lane / 64) (c.args.lane % 64) } in
    ap (λ (m : Marks). mark_in m other) (get_or-set_same c.args.marks.now c.args.row now no_marks c.requires.row)
    ∙ set_other (marks_at c.args.marks.now c.args.row).words c.args.lane other inside ne

pub returns-clause-own : goal.returns-clause-own
returns-clause-own c =
    let inside : c.args.lane / 64 < length (marks_at c.args.marks.now c.args.row).words = omega arith in
    let now : Marks = record { words = with_bit (marks_at c.args.marks.now c.args.row).words (c.args.lane / 64) (c.args.lane % 64) } in
    ap (λ (m : Marks). mark_in m c.args.lane) (get_or-set_same c.args.marks.now c.args.row now no_marks c.requires.row)
    ∙ set_own (marks_at c.args.marks.now c.args.row).words c.args.lane inside
