-- Names of listed ports by their places.
use Rattle.std.proofs.Common.{◌≡◌, ◌<◌, ℕ, Bool, List, [], length, get_or, ap, ◌∙◌, sym}
use Rattle.std.proofs.lemmas.List.{get_or-map}
use Rattle.mintc_clock.specs.declared.clock.Listed.{Listed}
use Rattle.mintcx_sdc.specs.Obstacles.{has_special, is_special_at}

-- what is seen of a port's name is told of its place
pub special_here : (ports : List Listed) (at : ℕ) (port : Listed) (name : List ℕ) (special : Bool) → at < length ports → name ≡ (get_or ports at port).port →
    special ≡ has_special name → is_special_at ports at ≡ special
special_here ports at port name special below named seen =
    ap has_special (get_or-map (λ (l : Listed). l.port) ports at port [] below ∙ sym named) ∙ sym seen
