use Rattle.std.proofs.Common.{ℕ, List, [], ◌-◌}
use Rattle.mintc_timing.specs.declared.clocking.Schedule.{Schedule}
use Rattle.mintc_certificate.specs.CertificateText.{departure}
use Rattle.mintc_certificate.proofs.CertificateReading.{At}
use Rattle.mintc_certificate.proofs.reading.departures.Given as goal

-- the lines so far gave these departures
abbrev pub invariant-loop-departure : goal.invariant-loop-departure
invariant-loop-departure l = (text : List ℕ) (most : ℕ) (s : Schedule) → At most text l.initial.reader (departure l.fn.version l.count s []) → At most text l.reader (departure l.fn.version (l.count - l._departure) s l.found.items)
