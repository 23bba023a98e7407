-- A certificate of the two latches by computation.
use Rattle.std.proofs.Common.{pos, [], ◌∷◌, arith, refl}
use Rattle.std.proofs.lemmas.Int.{ints}
use Rattle.std.proofs.lemmas.List.Elements.{All-nil, All-cons}
use Rattle.mintc_certificate.specs.declared.members.Member.TheVariants as member
use Rattle.mintc_certificate.specs.declared.certificate.Certificate.{Certificate}
use Rattle.mintc_certificate.specs.declared.certificate.Certificate.TheVariants.{Least}
use Rattle.mintc_certificate.specs.Valid.{IsMember, IsValid, counts, clock, bounds, departures, setups, ring, sums}
use Rattle.mintc_timing.specs.Worked.{of_100}
use Rattle.mintc_timing.specs.Worked as worked
use Rattle.mintc_timing.proofs.SharedWorkedRows.{right_100}

abbrev certificate : Certificate
certificate = Least of_100 (pos 0 ∷ pos 20 ∷ []) (member.Reach 0 1 (0 ∷ []) ∷ member.Reach 1 0 (1 ∷ []) ∷ [])

first : IsMember worked.ring (member.Reach 0 1 (0 ∷ []))
first = (omega arith, omega arith, ((λ e. cc e), (omega arith, refl, refl)))

second : IsMember worked.ring (member.Reach 1 0 (1 ∷ []))
second = (omega arith, omega arith, ((λ e. cc e), (omega arith, refl, refl)))

valid : IsValid worked.ring certificate
valid counts = (refl, refl, refl)
valid clock = right_100.clock
valid bounds = right_100.bounds
valid departures = right_100.exact
valid setups = right_100.setup
valid ring = (
  All-cons (IsMember worked.ring) (member.Reach 0 1 (0 ∷ [])) (member.Reach 1 0 (1 ∷ []) ∷ []) first
      (All-cons (IsMember worked.ring) (member.Reach 1 0 (1 ∷ [])) [] second (All-nil (IsMember worked.ring))),
  (refl, refl),
)
valid sums = record { turns = omega (arith, ints); tight = refl }
