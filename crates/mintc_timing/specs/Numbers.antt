-- Designs that are one but for the numbers that delay files say.
use Rattle.std.specs.Prelude.{◌≡◌, pos, false, map}
use Rattle.mintc_timing.specs.declared.parts.Element.{Element}
use Rattle.mintc_timing.specs.declared.parts.TimingArc.{TimingArc}
use Rattle.mintc_timing.specs.Design.{Design}

-- what delay files don't say of an element
abbrev pub unnumbered : Element → Element
unnumbered e = record e {
  setup = pos 0;
  hold = pos 0;
  has_hold = false;
  dq_min = pos 0;
  dq_max = pos 0;
  cq_min = pos 0;
  cq_max = pos 0;
  width = pos 0;
}

-- what delay files don't say of an arc
abbrev pub undelayed : TimingArc → TimingArc
undelayed arc = record arc { min = pos 0; max = pos 0 }

-- The designs are one but for the numbers of their elements and arcs.
pub record DifferInNumbers (d e : Design) : Type 0 where
  pub phases : e.phases ≡ d.phases
  pub elements : map unnumbered e.elements ≡ map unnumbered d.elements
  pub inner : e.inner ≡ d.inner
  pub arcs : map undelayed e.arcs ≡ map undelayed d.arcs
  pub bounds : e.bounds ≡ d.bounds
