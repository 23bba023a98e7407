-- What a corner's link is among those of all corners, and which links are low enough to be one.
use Rattle.std.specs.Prelude.{◌<◌, ◌+◌, ℕ, ℤ, pos, nat_lt, if◌then◌else◌, List, [], ◌∷◌}
use Rattle.std.specs.Int.{int_max}
use Rattle.mintc_text.specs.declared.limits.TheConstants.{MOST_ELEMENTS, MOST_NODES}
use Rattle.mintc_timing.specs.declared.link.Link.{Link}
use Rattle.mintc_timing.specs.declared.link.LinkKind.{LinkKind}
use Rattle.mintc_timing.specs.declared.link.LinkKind.TheVariants as kind
use Rattle.mintc_timing.specs.Clocking.{least_width}
use Rattle.mintc_timing.specs.Design.{Timing}
use Rattle.mintc_timing.specs.Links.{link}

-- Node 0 and those of the clock are all corners'; a corner's elements are numbered after those of the corners before.
abbrev pub lifted_node : ℕ → ℕ → ℕ → ℕ
lifted_node clock before x = if nat_lt clock x then before + x else x

-- what a link stands for, its elements numbered after so many others
abbrev pub lifted_kind : ℕ → LinkKind → LinkKind
lifted_kind before (kind.Opening l) = kind.Opening (before + l)
lifted_kind before (kind.Opened l) = kind.Opened (before + l)
lifted_kind before (kind.Reach j l) = kind.Reach (before + j) (before + l)
lifted_kind before (kind.Setup l) = kind.Setup (before + l)
lifted_kind before which = which

-- Widths are raised to those that all corners ask for.
abbrev pub lifted_delay : (ℕ → ℤ) → LinkKind → ℤ → ℤ
lifted_delay wide (kind.Width p) gap = wide p
lifted_delay wide which gap = gap

-- a corner's link among those of all
abbrev pub lifted_link : (ℕ → ℤ) → ℕ → ℕ → Link → Link
lifted_link wide clock before k = link (lifted_kind before k.kind) (lifted_node clock before k.from)
    (lifted_node clock before k.to) (lifted_delay wide k.kind k.delay) k.cycles

-- the greatest least width of a phase
abbrev pub widest : List Timing → ℕ → ℤ
widest [] p = pos 0
widest (t ∷ ts) p = int_max (least_width t.flat p) (widest ts p)

-- The link's nodes and elements are few, so that those of all corners are.
abbrev pub HasLowKind : LinkKind → Type 0
HasLowKind (kind.Opening l) = l < MOST_ELEMENTS
HasLowKind (kind.Opened l) = l < MOST_ELEMENTS
HasLowKind (kind.Reach j l) = (j < MOST_ELEMENTS) × (l < MOST_ELEMENTS)
HasLowKind (kind.Setup l) = l < MOST_ELEMENTS
HasLowKind which = Unit {0}

-- The nodes and the elements of the link are of one design.
pub record IsLow (k : Link) : Type 0 where
  pub from : k.from < MOST_NODES
  pub to : k.to < MOST_NODES
  pub kind : HasLowKind k.kind
