use Rattle.std.proofs.Common.{ℕ, ◌<◌, ◌++◌, length, All, refl, ap, ◌∙◌, subst, inr}
use Rattle.std.proofs.lemmas.Result.{on_ok_weaker}
use Rattle.mintc_text.specs.Lines.{ended}
use Rattle.mintc_timing.specs.Design.{Design}
use Rattle.mintc_certificate.specs.Valid.{IsMember}
use Rattle.mintcx_verdicts.specs.Chains.{IsBreak, LeadsOn, break_line}
use Rattle.mintcx_verdicts.proofs.ChainLaws.{ring_of}
use Rattle.mintcx_verdicts.proofs.ring.put_ring.Goals as goal

pub unreachable-requires : goal.unreachable-requires
unreachable-requires c =
    let t = c.args.system.now in
    let ms = c.args.members.now in
    let all : All (IsMember t) ms = c.first_strange.ensures.none c.in_default.is in
    c.requires.fails
    (ring_of t ms c.requires.chain.some all
    (subst (λ (v : Design). (n : ℕ) → n < length ms → LeadsOn v ms n) c.flat-flat.ensures.value (c.first_break.ensures.none c.in-None.is)))

pub returns : goal.returns
returns c =
    let t = c.args.system.now in
    let ms = c.args.members.now in
    let n = c.in-Some-first_break.place in
    let old = c.args.lines.now in
    let all : All (IsMember t) ms = c.first_strange.ensures.none c.in_default.is in
    let breaks : IsBreak t.flat ms n = subst (λ (v : Design). IsBreak v ms n) c.flat-flat.ensures.value c.in-Some-first_break.ensures.some in
    on_ok_weaker c.put_break.result
    (λ e. (ended (break_line t.flat ms n), (n, inr (all, breaks, refl)), e ∙ ap (λ (v : Design). old ++ ended (break_line v ms n)) c.flat-flat.ensures.value))
    c.put_break.ensures
