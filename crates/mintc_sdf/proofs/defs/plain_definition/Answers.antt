use Rattle.std.proofs.Common.{None, true, refl, sym}
use Rattle.mintc_sdf_tokens.proofs.SharedInsideLaws.{inside-word, inside-none, needs-word}
use Rattle.mintc_sdf.specs.Forms.{inner_def}
use Rattle.mintc_sdf.proofs.SharedCarriedLaws.{passed-on}
use Rattle.mintc_sdf.proofs.SharedFoundLaws.{plain-word, plain-def}
use Rattle.mintc_sdf.proofs.defs.plain_definition.Goals as goal

pub returns-in_err-key : goal.returns-in_err-key
unfolding inner_def
returns-in_err-key c = passed-on c.from_residual.result c.in_err-key.field-0.0 _ _ _ c.from_residual.ensures.1 (needs-word (inner_def c.args.divider) c.args.reader.now refl (λ _ _. refl) (λ _ _. refl)) c.in_err-key.ensures

pub returns-then-is_key : goal.returns-then-is_key
unfolding inner_def
returns-then-is_key c = rw (inside-word (inner_def c.args.divider) _ _ _ c.in_ok-key.ensures, sym c.if-is_key.ensures) c.iopath.ensures

pub returns-then-is_key-2 : goal.returns-then-is_key-2
unfolding inner_def
returns-then-is_key-2 c = rw (inside-word (inner_def c.args.divider) _ _ _ c.in_ok-key.ensures, sym c.if-is_key.ensures, sym c.if-is_key-2.ensures) c.interconnect.ensures

pub returns-then-is_key-3 : goal.returns-then-is_key-3
unfolding inner_def
returns-then-is_key-3 c = rw (inside-word (inner_def c.args.divider) _ _ _ c.in_ok-key.ensures, sym c.if-is_key.ensures, sym c.if-is_key-2.ensures, sym c.if-is_key-3.ensures) c.port_delay.ensures

pub returns-else-is_key-3 : goal.returns-else-is_key-3
unfolding inner_def
returns-else-is_key-3 c =
    let plain = plain-def c.in_ok-key.key.now (plain-word true c.args.reader.now c.read_word.new.reader c.in_ok-key.key.now c.in_ok-key.ensures c.requires.plain) in
    rw (inside-word (inner_def c.args.divider) _ _ _ c.in_ok-key.ensures, sym c.if-is_key.ensures, sym c.if-is_key-2.ensures, sym c.if-is_key-3.ensures, plain.0, plain.1) (inside-none (λ _. None) c.read_word.new.reader refl)
