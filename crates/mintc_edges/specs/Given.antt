-- Delays by edge that texts give.
use Rattle.std.specs.Prelude.{ℕ, List}
use Rattle.mintc_sdf_edges.specs.declared.delays.EdgeDelay.{EdgeDelay}
use Rattle.mintc_sdf_edges.specs.Texts.{AreTold}

-- the delays by edge of some text
abbrev pub AreGivenEdgeDelays : List EdgeDelay → Type 0
AreGivenEdgeDelays delays = (text : List ℕ) × AreTold text delays
