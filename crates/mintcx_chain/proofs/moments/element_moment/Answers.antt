use Rattle.std.proofs.Common.{◌≡◌, ℤ, ◌-ℤ◌, ◌*ℤ◌, true, to_z, of_z, w64, refl, sym, ap, ◌∙◌, arith}
use Rattle.std.proofs.lemmas.Int.{ints, clamps, to_z-of_z}
use Rattle.mintc_timing.specs.declared.parts.Element.{Element}
use Rattle.mintc_timing.specs.Clocking.{start_of}
use Rattle.mintc_timing.specs.Design.{element_at, phase_of}
use Rattle.mintcx_chain.proofs.moments.element_moment.Goals as goal

pub returns-then-element-clause-value : goal.returns-then-element-clause-value
returns-then-element-clause-value c =
    let design = c.args.flat.now in
    let s = c.args.schedule.now in
    let l = c.args.number in
    let value = c.element-element.ensures.value in
    let flop : (element_at design l).flop ≡ true = sym (ap (λ (e : Element). e.flop) value) ∙ c.if-element.true in
    let e = c.element-element.result.now in
    let gap = c.element-element.ensures.element.setup in
    let low = gap.0 in
    let high = gap.1 in
    let den_low = c.requires.clocked.in_range.den.0 in
    let den_high = c.requires.clocked.in_range.den.1 in
    let setup : to_z w64 (of_z w64 e.setup) ≡ e.setup = to_z-of_z w64 e.setup (omega (arith, ints, clamps)) in
    let den : to_z w64 (of_z w64 s.den) ≡ s.den = to_z-of_z w64 s.den (omega (arith, ints, clamps)) in
    let span : c.span_of.result ≡ e.setup *ℤ s.den = rw (setup, den) at c.span_of.ensures.value in
    let least = c.span_of.ensures.low in
    let most = c.span_of.ensures.high in
    let from = c.start_at-start.ensures.range.0 in
    let to = c.start_at-start.ensures.range.1 in
    let both : to_z w64 (of_z w64 (to_z w64 (of_z w64 c.start_at-start.result) -ℤ to_z w64 (of_z w64 c.span_of.result))) ≡ c.start_at-start.result -ℤ c.span_of.result = omega (arith, ints, clamps) in
    let set : c.span_of.result ≡ (element_at design l).setup *ℤ s.den = span ∙ ap (λ (x : Element). x.setup *ℤ s.den) value in
    let start : c.start_at-start.result ≡ start_of s (phase_of design l) = c.start_at-start.ensures.value ∙ ap (λ (x : Element). start_of s x.phase) value in
    both ∙ ap (λ (z : ℤ). c.start_at-start.result -ℤ z) set ∙ ap (λ (z : ℤ). z -ℤ (element_at design l).setup *ℤ s.den) start
    ∙ rw flop refl
