use Rattle.std.proofs.Common.{◌≡◌, ◌≤◌, List, length, arith, ap, ◌∙◌, subst, sym}
use Rattle.std.specs.Prelude.{All}
use Rattle.mintcx_chart.specs.declared.lanes.Lane.{Lane}
use Rattle.mintcx_chart.specs.declared.waves.Wave.{Wave}
use Rattle.mintcx_chart.specs.Sheets.{IsLane, IsWave}
use Rattle.mintcx_draw.proofs.WideLaws.{keep_cycle, keep_den}
use Rattle.mintcx_draw.proofs.drawing.on_scale.Goals as goal

pub picture_of-requires : goal.picture_of-requires
picture_of-requires c =
    let s = c.args.told.now.schedule.now in
    let lanes = c.deref.ensures.value in
    let waves = c.deref-2.ensures.value in
    record {
      sheet = record {
        lanes = subst (λ (v : List Lane). All IsLane v) (sym lanes) c.requires.lanes;
        waves = subst (λ (v : List Wave). All IsWave v) (sym waves) c.in_ok-waves.ensures.each;
        few = omega (arith, ap (λ (v : List Wave). length v) waves, c.in_ok-waves.ensures.count, c.requires.design.phases.1);
        scale = c.requires.scale;
        den = keep_den s.den c.requires.in_range.den;
        cycle = keep_cycle s.cycle c.requires.cycle c.requires.in_range.cycle;
        foot = omega (arith, c.requires.most);
        below = omega (arith, c.requires.least);
      };
      bars = omega (arith, ap (λ (v : List Lane). length v) lanes, c.min.ensures, c.requires.count);
      least = c.sums_of.ensures.least;
      greatest = c.sums_of.ensures.greatest;
    }
