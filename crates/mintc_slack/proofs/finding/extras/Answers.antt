use Rattle.std.proofs.Common.{◌≡◌, ◌<◌, ◌≤◌, ℕ, ℤ, pos, length, get_or, arith, ◌∙◌, sym, subst}
use Rattle.std.proofs.lemmas.List.{get_or_default}
use Rattle.std.proofs.Math.ListN.{length-set}
use Rattle.mintc_constraints.specs.Ordinary.{Constraints}
use Rattle.mintc_timing.specs.Design.{pair_at}
use Rattle.mintc_slack.specs.declared.finding.Entry.{Entry}
use Rattle.mintc_slack.specs.WalkedFrom.{AreSettled}
use Rattle.mintc_slack.specs.Slack.{IsSlack}
use Rattle.mintc_slack.proofs.EntryLaws.{done-next, entry_number, entry-same, entry-to, last-entry, ready-kept}
use Rattle.mintc_slack.proofs.SizeLaws.{narrow, read_narrow}
use Rattle.mintc_slack.proofs.finding.extras.Goals as goal

pub turn_to-requires-clause-settled : goal.turn_to-requires-clause-settled
turn_to-requires-clause-settled g c =
    let ready = c.loop-place.invariant.ready in
    rw (c.deref.ensures.value, ready.system, ready.at_is) c.loop-place.invariant.settled

pub slack_of-requires-clause-settled : goal.slack_of-requires-clause-settled
slack_of-requires-clause-settled g c =
    let t = c.args.system.now in
    let ready = c.loop-place.invariant.ready in
    let entries = c.in_ok-entries.entries.items in
    let to = entry-to t entries c.loop-place.place (omega arith) c.in_ok-entries.ensures c.index.result.now c.index.ensures in
    rw c.values.ensures (subst (λ l. AreSettled t c.args.cycle.now l c.turn_to.new.room.values) to (rw (c.deref.ensures.value, ready.system, ready.at_is) at c.in_ok-turn_to.ensures.settled))

pub loop-place-preserved : goal.loop-place-preserved
loop-place-preserved g c =
    let t = c.args.system.now in
    let inv = c.loop-place.invariant in
    let ready = inv.ready in
    let entries = c.in_ok-entries.entries.items in
    let e = c.index.result.now in
    let place = c.loop-place.place in
    let inside = entry_number t entries place (omega arith) c.in_ok-entries.ensures e c.index.ensures in
    let P = λ (n : ℕ) (u : ℤ). IsSlack t c.args.cycle.now.num c.args.cycle.now.den n u in
    let x = c.slack_of.result in
    let fits : narrow x ≡ x = read_narrow x c.slack_of.ensures.range in
    let settled = rw (c.deref.ensures.value, ready.system, ready.at_is) at c.in_ok-turn_to.ensures.settled in
    record {
      ready = ready-kept t c.args.list.now c.args.cycle.now c.loop-place.walker c.turn_to.new.walker ready c.turn_to.ensures.kept c.turn_to.ensures.count;
      nodes = omega arith;
      chain = subst (λ (l : Constraints). length c.turn_to.new.room.chain ≤ l.nodes) ready.list_is c.turn_to.ensures.chain;
      settled = λ l h. subst (λ n. AreSettled t c.args.cycle.now n c.turn_to.new.room.values) (last-entry entries place l h) settled;
      count = length-set c.loop-place.extra.items e.number (narrow x) ∙ inv.count;
      done = done-next P entries c.loop-place.extra.items place e (narrow x) (entry-same t entries place (omega arith) c.in_ok-entries.ensures e c.index.ensures)
          (omega arith) (subst (P e.number) (sym fits) c.slack_of.ensures.slack) inv.done;
    }

pub returns : goal.returns
returns g c =
    let t = c.args.system.now in
    let entries = c.in_ok-entries.entries.items in
    let inv = c.loop-place.invariant in
    let P = λ (n : ℕ) (u : ℤ). IsSlack t c.args.cycle.now.num c.args.cycle.now.den n u in
    rw c.new.ensures (record {
      count = inv.count;
      each = λ n h.
          let found = c.in_ok-entries.ensures.all n h in
          let below : found.0 < c.loop-place.place = omega (arith, found.1) in
          let is = get_or_default entries found.0 (record { to = 0; number = 0 }) (record { to = (pair_at t n).to; number = n }) found.1 ∙ found.2 in
          subst (λ (x : Entry). P x.number (get_or c.loop-place.extra.items x.number (pos 0))) is (inv.done found.0 below);
    })
