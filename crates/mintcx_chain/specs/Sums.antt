-- The sums over a chain.
use Rattle.std.specs.Prelude.{ℕ, ℤ, List}
use Rattle.std.specs.List.{sum_by}
use Rattle.mintc_graph.specs.Rings.{total}
use Rattle.mintcx_chain.specs.declared.stages.Stage.{Stage}

-- the delay of a chain, in femtoseconds
abbrev pub delay_of : List Stage → ℤ
delay_of stages = total (λ (k : Stage). k.delay) stages

-- how many cycles a chain has
abbrev pub cycles_of : List Stage → ℕ
cycles_of stages = sum_by (λ (k : Stage). k.cycles) stages
