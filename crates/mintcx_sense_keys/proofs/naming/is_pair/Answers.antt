use Rattle.std.proofs.Common.{◌≡◌, ℕ, true, false, nat_eq, List, [], ◌∷◌, length, take, drop, subst, ◌∙◌}
use Rattle.std.specs.Cmp.Lexicographic.{pointwise}
use Rattle.mintcx_sense_keys.proofs.PairLaws.{no_pin, no_space, by_name, cut, uncut}
use Rattle.mintcx_sense_keys.proofs.naming.is_pair.Goals as goal

pub returns-in_default : goal.returns-in_default
returns-in_default c = no_pin c.args.item.now c.args.pin.now c.args.output.now (uncut c.args.item.now c.args.pin.now c.in_default.ensures.cases)

pub returns-in_default-strip_prefix : goal.returns-in_default-strip_prefix
returns-in_default-strip_prefix c =
    let rest = c.in-Some.rest.now in
    no_space c.args.item.now c.args.pin.now c.args.output.now rest (cut c.args.item.now c.args.pin.now rest c.in-Some.ensures.cases.0 c.in-Some.ensures.cases.1)
    (uncut rest (32 ∷ []) (subst (λ (p : List ℕ). pointwise nat_eq (take (length p) rest) p ≡ false) c.as_slice.ensures c.in_default-strip_prefix.ensures.cases))

pub returns : goal.returns
returns c =
    let rest = c.in-Some.rest.now in
    let name = c.in-Some-strip_prefix.name.now in
    let behind = c.in-Some-strip_prefix.ensures.cases in
    c.eq.ensures ∙ by_name c.args.item.now c.args.pin.now c.args.output.now rest name (cut c.args.item.now c.args.pin.now rest c.in-Some.ensures.cases.0 c.in-Some.ensures.cases.1)
    (cut rest (32 ∷ []) name (subst (λ (p : List ℕ). pointwise nat_eq (take (length p) rest) p ≡ true) c.as_slice.ensures behind.0)
    (subst (λ (p : List ℕ). name ≡ drop (length p) rest) c.as_slice.ensures behind.1))
