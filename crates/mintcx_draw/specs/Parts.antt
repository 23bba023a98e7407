-- The parts of stages.
use Rattle.std.specs.Prelude.{ℕ, ◌≤◌, List, [], codes, length}
use Rattle.mintc_text.specs.declared.limits.TheConstants.{MOST_COUNT}
use Rattle.mintc_timing.specs.declared.link.LinkKind.{LinkKind}
use Rattle.mintc_timing.specs.declared.link.LinkKind.TheVariants as link
use Rattle.mintcx_chain.specs.declared.stages.Stage.{Stage}
use Rattle.mintcx_chain.specs.declared.stages.Why.{Why}
use Rattle.mintcx_chain.specs.declared.stages.Why.TheVariants as why
use Rattle.mintcx_chart.specs.declared.parts.PartKind.{PartKind}
use Rattle.mintcx_chart.specs.declared.parts.PartKind.TheVariants as part

-- the word of a rule
abbrev pub rule_name : LinkKind → List ℕ
rule_name (link.Start p) = codes "start"
rule_name (link.Cycle p) = codes "cycle"
rule_name (link.Order p) = codes "order"
rule_name (link.Span p) = codes "span"
rule_name (link.Width p) = codes "width"
rule_name (link.Apart i j) = codes "apart"
rule_name (link.Opening l) = codes "open"
rule_name (link.Opened l) = codes "opened"
rule_name (link.Setup l) = codes "setup"
rule_name (link.Bound n) = codes "bound"
rule_name kind = []

-- what a part by a rule is of
abbrev pub rule_kind : LinkKind → PartKind
rule_kind (link.Setup l) = part.Setup
rule_kind kind = part.Rule

-- the arcs that data goes along in a stage
abbrev pub arcs_of : Why → List ℕ
arcs_of (why.Reach j l path) = path
arcs_of other = []

-- A stage goes along no more arcs than a certificate may count.
abbrev pub IsCounted : Stage → Type 0
IsCounted stage = length (arcs_of stage.why) ≤ MOST_COUNT
