use Rattle.std.proofs.Common.{◌≡◌, suc, ◌+◌, ◌≤◌, ◌∷◌, length, sym, ap, ◌∙◌, arith, le-ltb}
use Rattle.mintc_sdf_tokens.specs.Tokens.{opening}
use Rattle.mintc_sdf_tokens.specs.Conditions.{walked}
use Rattle.mintc_sdf_tokens.proofs.ItemLaws.{step-opening}
use Rattle.mintc_sdf_tokens.proofs.SharedConditionLaws.{step-off}
use Rattle.mintc_sdf_tokens.proofs.conditions.innermost.Goals as goal
use Rattle.mintc_sdf_tokens.proofs.conditions.innermost.Goals.{then-depth-len+in_ok-last-in-Open, else-depth-len}

pub loop-layers-preserved-in-Open : goal.loop-layers-preserved-in-Open
loop-layers-preserved-in-Open c =
    let front = step-opening c.loop-layers.reader (sym c.step.ensures.kind ∙ c.in-Open.is) ∙ ap (λ ts. opening ∷ ts) (sym c.step.ensures.rest) in
    let size = ap length front in
    elim c.if-depth-len.branch [
      | then-depth-len+in_ok-last-in-Open w ↦
          let less = ap length w.reader-is in
          record {
            same =
                c.loop-layers.invariant.same ∙ ap (walked c.args.both c.loop-layers.layers.items c.loop-layers.last c.loop-layers.depth) front
                ∙ w.in_ok-last-in-Open.ensures.walked c.loop-layers.last
                ∙ ap (λ ts. walked c.args.both w.begin.new.layers.items w.in_ok-last-in-Open.last (c.loop-layers.depth + 1) ts) (sym w.reader-is)
                ∙ ap (λ v. walked c.args.both v.items w.in_ok-last-in-Open.last (c.loop-layers.depth + 1) c.if-depth-len.reader) (sym w.layers-is)
                ∙ ap (λ o. walked c.args.both c.if-depth-len.layers.items o (c.loop-layers.depth + 1) c.if-depth-len.reader) (sym w.last-is);
            few = omega (arith, c.loop-layers.invariant.few, size, less, w.begin.ensures.shorter);
          }
      | else-depth-len w ↦
          let less = ap length w.reader-is in
          let next : suc c.loop-layers.depth ≡ c.loop-layers.depth + 1 = omega arith in
          let over : length c.loop-layers.layers.items ≤ c.loop-layers.depth = omega (arith, w.if-depth-len.false, c.len.ensures, c.loop-layers.layers.ok) in
          record {
            same =
                c.loop-layers.invariant.same ∙ ap (walked c.args.both c.loop-layers.layers.items c.loop-layers.last c.loop-layers.depth) front
                ∙ step-off c.args.both c.loop-layers.layers.items c.loop-layers.last c.loop-layers.depth c.step.new.self (le-ltb _ _ over)
                ∙ ap (λ d. walked c.args.both c.loop-layers.layers.items c.loop-layers.last d c.step.new.self) next
                ∙ ap (λ ts. walked c.args.both c.loop-layers.layers.items c.loop-layers.last (c.loop-layers.depth + 1) ts) (sym w.reader-is)
                ∙ ap (λ v. walked c.args.both v.items c.loop-layers.last (c.loop-layers.depth + 1) c.if-depth-len.reader) (sym w.layers-is)
                ∙ ap (λ o. walked c.args.both c.if-depth-len.layers.items o (c.loop-layers.depth + 1) c.if-depth-len.reader) (sym w.last-is);
            few = omega (arith, c.loop-layers.invariant.few, size, less);
          }
    ]
