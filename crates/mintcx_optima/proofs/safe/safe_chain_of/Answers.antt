use Rattle.std.proofs.Common.{◌≡◌, List, map, subst, sym}
use Rattle.std.specs.Prelude.{All}
use Rattle.mintc_timing.specs.Design.{Design}
use Rattle.mintcx_chain.specs.declared.stages.Stage.{Stage}
use Rattle.mintcx_chain.specs.Names.{IsStage}
use Rattle.mintcx_chain.specs.Turning.{HasTurned}
use Rattle.mintcx_optima.specs.Safe.{safe_stage}
use Rattle.mintcx_optima.proofs.RingLaws.{each_of, some_stages, turned_of, turned_ring}
use Rattle.mintcx_optima.proofs.safe.safe_chain_of.Goals as goal

pub turned-requires : goal.turned-requires
turned-requires c = some_stages (safe_stage c.args.system.now.flat) c.args.members.now _ c.in_ok-stages.ensures.value c.requires.chain.some

pub returns : goal.returns
returns c =
    let design = c.args.system.now.flat in
    let members = c.args.members.now in
    let are = c.in_ok-stages.ensures.value in
    let result = c.turned.result in
    let same = c.flat.ensures.value in
    record {
      stages = turned_of (safe_stage design) members _ are c.flat.result.now design c.args.departures.now result same c.turned.ensures.turned;
      ring = turned_ring (safe_stage design) members _ are design result c.requires.chain.some c.requires.chain.most c.turned.ensures.count
          (each_of (safe_stage design) members _ are c.flat.result.now design result same c.turned.ensures.each c.in_ok-stages.ensures.each)
          (c.turned.ensures.short c.in_ok-stages.ensures.short);
    }
