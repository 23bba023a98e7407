-- The turn of the loop that writes the departures of each corner.
use Rattle.std.proofs.Common.{◌≡◌, ℕ, ℤ, ◌+◌, ◌<◌, List, [], ◌∷◌, ◌++◌, length, get_or, take, codes}
use Rattle.std.specs.List.{flat_map}
use Rattle.std.proofs.lemmas.Grind.{flat_map-append}
use Rattle.std.proofs.lemmas.List.{append-nil, take_more}
use Rattle.mintc_text.specs.Lines.{text_of}
use Rattle.mintc_certificate.specs.Written.{departure_lines}
use Rattle.mintc_timing_text.specs.LineForms.{count_line}
use Rattle.mintc_certificate.proofs.SharedWritingLaws.{texts_joined}

pub corner_more : (corners : List (List ℤ)) (i : ℕ) (d : List ℤ) (old now new : List ℕ) → i < length corners → d ≡ get_or corners i d →
    now ≡ old ++ text_of (count_line (codes "corners") (length corners) ∷ flat_map departure_lines (take i corners)) → new ≡ now ++ text_of (departure_lines d) →
    new ≡ old ++ text_of (count_line (codes "corners") (length corners) ∷ flat_map departure_lines (take (i + 1) corners))
corner_more corners i d old now new below is before step =
    let head = count_line (codes "corners") (length corners) in
    rw (take_more corners i d below, ← is, flat_map-append departure_lines (take i corners) (d ∷ []), append-nil (departure_lines d))
    (texts_joined old now new (head ∷ flat_map departure_lines (take i corners)) (departure_lines d) before step)
