-- Links as arcs that weigh what they ask for.
use Rattle.std.specs.Prelude.{◌^◌, pos, ◌≤ℤ◌, List, map}
use Rattle.mintc_fraction.specs.Ratio.{Ratio}
use Rattle.mintc_timing.specs.declared.link.Link.{Link}
use Rattle.mintc_graph_walks.specs.declared.network.Arc.{Arc}
use Rattle.mintc_ratio.specs.Greatest.{asked_by_link}

-- a cycle time at which links can be tested
pub record IsTestable (at : Ratio) : Type 0 where
  pub low : pos 0 ≤ℤ at.num
  pub num : at.num ≤ℤ pos (10 ^ 23)
  pub some : pos 1 ≤ℤ at.den
  pub den : at.den ≤ℤ pos (10 ^ 9)

-- a link at a cycle time, as an arc: what it asks for is its weight
abbrev pub weighed : Ratio → Link → Arc
weighed at k = record { from = k.from; to = k.to; weight = asked_by_link at k }

-- the arcs of a list of links
abbrev pub arcs_of : Ratio → List Link → List Arc
arcs_of at links = map (weighed at) links
