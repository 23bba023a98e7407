use Rattle.std.proofs.Common.{◌∷◌, []}
use Rattle.mintc_text.specs.Lines.{numeral_of}
use Rattle.mintc_timing_text.specs.declared.table_lines.ElementNumbers.{ElementNumbers}
use Rattle.mintc_timing_text.specs.Fields.{AreDelays}
use Rattle.mintc_timing.proofs.SharedFitting.{read_time, IsTime-IsDelay, IsTime-IsGap}
use Rattle.mintc_timing_text.proofs.TableLineLaws.{element_phase, element_kind, element_read, opening_of, openings_same, same_delays, after_hold, after_dq}
use Rattle.mintc_timing_text.proofs.table_lines.element_of.Goals as goal

pub returns-in_err-phase : goal.returns-in_err-phase
returns-in_err-phase c =
    rw c.from_residual-in_err-phase.ensures (λ e h. c.in_err-phase.ensures e.phase _ h.ranges.phase.0 h.ranges.phase.1
    (element_phase c.args.version e _ _ _ _ c.in_ok-expect_word.ensures c.in_ok-name.ensures.1 h.spelled))

pub returns-in_err-setup : goal.returns-in_err-setup
returns-in_err-setup c =
    rw c.from_residual-in_err-setup.ensures (λ e h.
    let kind = element_kind c.args.version e _ _ c.in_ok-flop.flop _ _ _ _ c.kind.new.fields c.in_ok-expect_word.ensures c.in_ok-name.ensures.1 c.in_ok-phase.ensures.2 c.in_ok-flop.ensures.1 c.in_ok-flop.ensures.0 h.version h.spelled in
    c.in_err-setup.ensures e.setup _ h.ranges.setup kind.1)

pub returns-in_err-has_hold : goal.returns-in_err-has_hold
returns-in_err-has_hold c =
    rw c.from_residual-in_err-has_hold.ensures (λ e h.
    let kind = element_kind c.args.version e _ _ c.in_ok-flop.flop _ _ _ _ c.kind.new.fields c.in_ok-expect_word.ensures c.in_ok-name.ensures.1 c.in_ok-phase.ensures.2 c.in_ok-flop.ensures.1 c.in_ok-flop.ensures.0 h.version h.spelled in
    let a = kind.1 in let b = c.in_ok-setup.ensures.1 in
    c.in_err-has_hold.ensures e.has_hold e.hold (after_hold c.args.version e) (h.ranges.hold, h.ranges.no_hold) cc)

pub returns-in_err-dq : goal.returns-in_err-dq
returns-in_err-dq c =
    rw c.from_residual-in_err-dq.ensures (λ e h.
    let kind = element_kind c.args.version e _ _ c.in_ok-flop.flop _ _ _ _ c.kind.new.fields c.in_ok-expect_word.ensures c.in_ok-name.ensures.1 c.in_ok-phase.ensures.2 c.in_ok-flop.ensures.1 c.in_ok-flop.ensures.0 h.version h.spelled in
    let a = kind.1 in let b = c.in_ok-setup.ensures.1 in let d = c.in_ok-has_hold.ensures.1 in
    c.in_err-dq.ensures e.dq_min e.dq_max (after_dq c.args.version e) (record { low_is = h.ranges.dq_min; high_is = h.ranges.dq_max; ordered = h.ranges.dq }) cc)

pub returns-in_err-cq : goal.returns-in_err-cq
returns-in_err-cq c =
    rw c.from_residual-in_err-cq.ensures (λ e h.
    let kind = element_kind c.args.version e _ _ c.in_ok-flop.flop _ _ _ _ c.kind.new.fields c.in_ok-expect_word.ensures c.in_ok-name.ensures.1 c.in_ok-phase.ensures.2 c.in_ok-flop.ensures.1 c.in_ok-flop.ensures.0 h.version h.spelled in
    let a = kind.1 in let b = c.in_ok-setup.ensures.1 in let d = c.in_ok-has_hold.ensures.1 in let f = c.in_ok-dq.ensures.1 in
    let delays : AreDelays e.dq_min e.dq_max = record { low_is = h.ranges.dq_min; high_is = h.ranges.dq_max; ordered = h.ranges.dq } in
    let same = same_delays c.in_ok-dq.dq.0 c.in_ok-dq.dq.1 e.dq_min e.dq_max c.delays.new.self (after_dq c.args.version e) c.in_ok-dq.ensures.0 delays cc in
    c.in_err-cq.ensures e.cq_min e.cq_max (numeral_of e.width ∷ []) (opening_of c.args.version c.args.phases e c.in_ok-flop.flop c.in_ok-dq.dq.0 c.in_ok-dq.dq.1 h.ranges h.version kind.0 same.0 same.1) cc)

pub returns-in_err-width : goal.returns-in_err-width
returns-in_err-width c =
    rw c.from_residual-in_err-width.ensures (λ e h.
    let kind = element_kind c.args.version e _ _ c.in_ok-flop.flop _ _ _ _ c.kind.new.fields c.in_ok-expect_word.ensures c.in_ok-name.ensures.1 c.in_ok-phase.ensures.2 c.in_ok-flop.ensures.1 c.in_ok-flop.ensures.0 h.version h.spelled in
    let a = kind.1 in let b = c.in_ok-setup.ensures.1 in let d = c.in_ok-has_hold.ensures.1 in let f = c.in_ok-dq.ensures.1 in let g = c.in_ok-cq.ensures.1 in
    c.in_err-width.ensures e.width [] h.ranges.width (openings_same c.args.version c.in_ok-cq.cq.0 c.in_ok-cq.cq.1 e.cq_min e.cq_max c.openings.new.fields (numeral_of e.width ∷ []) cc))

pub returns : goal.returns
returns c =
    let dq = c.in_ok-dq.dq in
    let cq = c.in_ok-cq.cq in
    let n : ElementNumbers = record {
      phase = c.in_ok-phase.phase;
      flop = c.in_ok-flop.flop;
      setup = c.in_ok-setup.setup;
      hold = c.in_ok-has_hold.hold;
      has_hold = c.in_ok-has_hold.has_hold;
      dq_min = dq.0;
      dq_max = dq.1;
      cq_min = cq.0;
      cq_max = cq.1;
      width = c.in_ok-width.width;
    } in
    rw (
      read_time n.setup (IsTime-IsGap n.setup c.in_ok-setup.ensures.0),
      read_time n.hold (IsTime-IsGap n.hold c.in_ok-has_hold.ensures.0.0),
      read_time dq.0 (IsTime-IsDelay dq.0 c.in_ok-dq.ensures.0.low_is),
      read_time dq.1 (IsTime-IsDelay dq.1 c.in_ok-dq.ensures.0.high_is),
      read_time cq.0 (IsTime-IsDelay cq.0 c.in_ok-cq.ensures.0.0.low_is),
      read_time cq.1 (IsTime-IsDelay cq.1 c.in_ok-cq.ensures.0.0.high_is),
      read_time n.width (IsTime-IsDelay n.width c.in_ok-width.ensures.0),
    )
    (element_read c.args.version c.args.phases c.in_ok-name.name.now n c.args.fields _ _ _ _ _ _ _ _ _ c.in_ok-expect_word.ensures c.in_ok-name.ensures c.in_ok-phase.ensures c.in_ok-flop.ensures c.in_ok-setup.ensures
    c.in_ok-has_hold.ensures c.in_ok-dq.ensures c.in_ok-cq.ensures c.in_ok-width.ensures c.in_ok-end.ensures)
