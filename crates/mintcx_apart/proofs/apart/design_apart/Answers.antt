use Rattle.std.proofs.Common.{◌≡◌, ℕ, List, [], ◌∙◌, arith}
use Rattle.std.proofs.lemmas.List.{get_or_read}
use Rattle.std.proofs.lemmas.Result.{err_from_is_err_and}
use Rattle.mintc_text.specs.Stops.{StopsAt}
use Rattle.mintc_command_answers.specs.Sources.{file_at}
use Rattle.mintcx_edges.specs.EdgeFiles.{IsEdgeFilesDesign, IsEdgeFilesRefusal}
use Rattle.mintcx_apart.proofs.ApartLaws.{files_halted, of_four}
use Rattle.mintcx_apart.proofs.apart.design_apart.Goals as goal

pub returns-in_err-from_edge_files-clause-halt : goal.returns-in_err-from_edge_files-clause-halt
returns-in_err-from_edge_files-clause-halt c =
    let texts = c.args.texts.now in
    let four = c.requires.four in
    let v : c.items-netlist.result.now ≡ file_at texts 0 = c.items-netlist.ensures ∙ get_or_read texts 0 c.index-texts-0.result (omega (arith, four)) c.index-texts-0.is [] in
    let d : c.items-delays.result.now ≡ file_at texts 1 = c.items-delays.ensures ∙ get_or_read texts 1 c.index-texts-1.result (omega (arith, four)) c.index-texts-1.is [] in
    let e : c.items-cells.result.now ≡ file_at texts 2 = c.items-cells.ensures ∙ get_or_read texts 2 c.index-texts-2.result (omega (arith, four)) c.index-texts-2.is [] in
    let k : c.items-clock.result.now ≡ file_at texts 3 = c.items-clock.ensures ∙ get_or_read texts 3 c.index-texts-3.result (omega (arith, four)) c.index-texts-3.is [] in
    let p = err_from_is_err_and c.from_residual.result c.from_residual.ensures.1 in
    let stop = c.in_err-from_edge_files.field-0.0 in
    let stops = of_four (λ (v d t k : List ℕ). StopsAt (IsEdgeFilesRefusal c.args.limits.now v d t k) stop) _ _ _ _ _ _ _ _ v d e k c.in_err-from_edge_files.ensures.stop in
    rw (p.1, p.2, c.if-is_library.false) (files_halted c.args.limits.now texts stop stops)

pub returns-in_ok-from_edge_files-clause-value : goal.returns-in_ok-from_edge_files-clause-value
returns-in_ok-from_edge_files-clause-value c =
    let texts = c.args.texts.now in
    let four = c.requires.four in
    let v : c.items-netlist.result.now ≡ file_at texts 0 = c.items-netlist.ensures ∙ get_or_read texts 0 c.index-texts-0.result (omega (arith, four)) c.index-texts-0.is [] in
    let d : c.items-delays.result.now ≡ file_at texts 1 = c.items-delays.ensures ∙ get_or_read texts 1 c.index-texts-1.result (omega (arith, four)) c.index-texts-1.is [] in
    let e : c.items-cells.result.now ≡ file_at texts 2 = c.items-cells.ensures ∙ get_or_read texts 2 c.index-texts-2.result (omega (arith, four)) c.index-texts-2.is [] in
    let k : c.items-clock.result.now ≡ file_at texts 3 = c.items-clock.ensures ∙ get_or_read texts 3 c.index-texts-3.result (omega (arith, four)) c.index-texts-3.is [] in
    rw c.if-is_library.false (of_four (λ (v d t k : List ℕ). IsEdgeFilesDesign c.args.limits.now v d t k c.in_ok-from_edge_files.field-0) _ _ _ _ _ _ _ _ v d e k c.in_ok-from_edge_files.ensures.value)
