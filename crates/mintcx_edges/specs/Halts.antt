-- Why a library with gates for the clock gives no design with edges apart.
use Rattle.std.specs.Prelude.{ℕ, List}
use Rattle.mintc_text.specs.declared.limits.Most.{Most}
use Rattle.mintc_text.specs.declared.refusals.Stop.{Stop}
use Rattle.mintc_text.specs.declared.refusals.Stop.TheVariants as stop
use Rattle.mintc_netlist.specs.declared.module.Netlist.{Netlist}
use Rattle.mintc_verilog.specs.Netlists.{IsNetlist}
use Rattle.mintc_sdf_edges.specs.declared.delays.EdgeDelay.{EdgeDelay}
use Rattle.mintc_sdf_edges.specs.Texts.{AreTold}
use Rattle.mintcx_clock_cells.specs.Clocks.{IsUnfit}
use Rattle.mintcx_clock_cells.specs.declared.unfit.Unfit.{Unfit}
use Rattle.mintcx_clock_cells.specs.declared.unfit.Unfit.TheVariants as unfit
use Rattle.mintcx_edges.specs.declared.halt.Halt.{Halt}
use Rattle.mintcx_edges.specs.declared.halt.Halt.TheVariants as halt
use Rattle.mintcx_edges.specs.EdgeFiles.{IsEdgeLibertyRefusal}

-- what a call that stopped tells
abbrev pub halt_of : Stop → Halt
halt_of (stop.Refused refused) = halt.Refused refused
halt_of stop.OutOfMemory = halt.OutOfMemory

-- what gates that don't fit tell
abbrev pub unfit_halt : Unfit → Halt
unfit_halt (unfit.Refused refused) = halt.Refused refused
unfit_halt (unfit.Unknown at) = halt.Unknown at
unfit_halt (unfit.Unusable at) = halt.Unusable at
unfit_halt unfit.OutOfMemory = halt.OutOfMemory

-- The netlist and the delays are in form, and the library with its gates isn't given, for this reason: so it is told
-- where cells are read.
pub record IsUnfitOver (v d l : List ℕ) (gates : List (List ℕ)) (why : Unfit) : Type 0 where
  pub netlist : Netlist
  pub delays : List EdgeDelay
  pub netlist_read : IsNetlist v netlist
  pub delays_read : AreTold d delays
  pub cells : IsUnfit l gates why

-- Why four texts give no design: their first refusal, the first gate that isn't fit, or memory was wanting.
abbrev pub IsEdgeHalt : Most → List ℕ → List ℕ → List ℕ → List (List ℕ) → List ℕ → Halt → Type 0
IsEdgeHalt most v d l gates k (halt.Refused refused) = IsEdgeLibertyRefusal most v d l gates k refused
IsEdgeHalt most v d l gates k (halt.Unknown at) = IsUnfitOver v d l gates (unfit.Unknown at)
IsEdgeHalt most v d l gates k (halt.Unusable at) = IsUnfitOver v d l gates (unfit.Unusable at)
IsEdgeHalt most v d l gates k halt.OutOfMemory = Unit {0}
