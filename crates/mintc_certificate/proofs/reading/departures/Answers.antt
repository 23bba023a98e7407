use Rattle.std.proofs.Common.{◌≡◌, ℤ, [], SFits, w64, refl, arith}
use Rattle.std.proofs.lemmas.Int.{ints, to_z-of_z}
use Rattle.mintc_timing.proofs.SharedFitting.{read_time}
use Rattle.mintc_certificate.specs.declared.version.Version.{Version}
use Rattle.mintc_certificate.specs.CertificateText.{departure, least_departure}
use Rattle.mintc_certificate.proofs.CertificateReading.{departure_states, IsDepartureLine, least_is}
use Rattle.mintc_timing_text.proofs.SharedReadingLaws.{at_fault, at_more, list_more, list_fault, list_all}
use Rattle.mintc_certificate.proofs.reading.departures.Goals as goal

fits_as : (x : ℤ) (v : Version) → x ≡ least_departure v → SFits w64 x
fits_as x v e = let low = least_is v in omega (arith, ints)

pub returns-in_default : goal.returns-in_default
returns-in_default c = λ text most s at.
    at_fault at c.in_default.ensures.read c.in_default.ensures.counted (λ e. e) (λ line after step. (step.0, step.1))

pub returns-in_default-number_line : goal.returns-in_default-number_line
returns-in_default-number_line c = λ text most s at.
    let begun = at_more c.count_line.new.self (departure c.args.version c.in-Some.count s []) at c.in-Some.ensures.read c.in-Some.ensures.counted (λ line spells. (_, spells, refl)) in
    let low = c.least_departure-least.ensures in
    let none = rw (to_z-of_z w64 c.least_departure-least.result (fits_as c.least_departure-least.result c.args.version low), low) at c.in_default-number_line.ensures.read in
    list_fault (departure_states c.args.version s) (IsDepartureLine c.args.version) text c.loop-departure.reader c.number_line.new.self.number c.loop-departure.found.items c.loop-departure._departure c.in-Some.count
    (c.loop-departure.invariant text most s begun) (omega arith) none c.in_default-number_line.ensures.counted (λ left all e. e) (λ left all line after step. (step.0, step.1))

pub loop-departure-preserved : goal.loop-departure-preserved
loop-departure-preserved c = λ text most s at.
    let low = c.least_departure-least.ensures in
    let read = rw (to_z-of_z w64 c.least_departure-least.result (fits_as c.least_departure-least.result c.args.version low), low) at c.in-Some-number_line.ensures.read in
    let pushed = rw (read_time c.in-Some-number_line.departure (let h = read.spells.1.0 in let v = least_is c.args.version in (omega (arith, ints), omega (arith, ints)))) at c.in_ok-push.ensures.items in
    list_more (departure_states c.args.version s) (IsDepartureLine c.args.version) text c.loop-departure.reader c.number_line.new.self c.loop-departure.found.items c.push.new.self.items c.loop-departure._departure c.in-Some.count c.in-Some-number_line.departure
    (c.loop-departure.invariant text most s at) (omega arith) read c.in-Some-number_line.ensures.counted pushed (λ left all line spells. (c.in-Some-number_line.departure, spells, refl))

pub returns : goal.returns
returns c = λ text most s at.
    let begun = at_more c.count_line.new.self (departure c.args.version c.in-Some.count s []) at c.in-Some.ensures.read c.in-Some.ensures.counted (λ line spells. (_, spells, refl)) in
    rw c.new.ensures
    (list_all (departure_states c.args.version s) text c.loop-departure.reader c.loop-departure.found.items c.loop-departure._departure c.in-Some.count (c.loop-departure.invariant text most s begun) (omega arith))
