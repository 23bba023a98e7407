use Rattle.std.proofs.Common.{None, false, refl, sym}
use Rattle.mintc_sdf_tokens.proofs.SharedInsideLaws.{inside-word, inside-none, needs-word}
use Rattle.mintc_sdf.specs.Forms.{inner_port}
use Rattle.mintc_sdf.proofs.SharedCarriedLaws.{passed-on}
use Rattle.mintc_sdf.proofs.SharedFoundLaws.{plain-word, plain-port}
use Rattle.mintc_sdf.proofs.ports.edge_port.Goals as goal

pub returns-in_err-edge : goal.returns-in_err-edge
unfolding inner_port
returns-in_err-edge c = passed-on c.from_residual.result c.in_err-edge.field-0.0 _ _ _ c.from_residual.ensures.1 (needs-word inner_port c.args.reader.now refl (λ _ _. refl) (λ _ _. refl)) c.in_err-edge.ensures

pub returns-then-is_edge : goal.returns-then-is_edge
unfolding inner_port
returns-then-is_edge c = rw (inside-word inner_port _ _ _ c.in_ok-edge.ensures, sym c.if-is_edge.ensures) c.lone_name.ensures

pub returns-else-is_edge : goal.returns-else-is_edge
unfolding inner_port
returns-else-is_edge c =
    rw (inside-word inner_port _ _ _ c.in_ok-edge.ensures, sym c.if-is_edge.ensures, plain-port c.in_ok-edge.edge.now (plain-word false c.args.reader.now c.read_word.new.reader c.in_ok-edge.edge.now c.in_ok-edge.ensures c.requires.plain)) (inside-none (λ _. None) c.read_word.new.reader refl)
