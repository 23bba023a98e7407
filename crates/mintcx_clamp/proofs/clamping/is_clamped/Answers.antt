use Rattle.mintcx_clamp.proofs.ExactLaws.{told}
use Rattle.mintcx_clamp.proofs.clamping.is_clamped.Goals as goal

pub returns : goal.returns
returns c =
    told c.args.text.now c.args.clamped.now c.items_are_the_tokens.ensures.written c.items_are_the_tokens.ensures.read_back c.in_ok-is_followed.field-0 c.in_ok-is_below.field-0 c.if-not-branch.false
    c.in_ok-is_followed.ensures c.requires c.in_ok-is_below.ensures
