-- What calls of the outside leave.
use Rattle.std.proofs.Common.{◌≡◌, ℕ, ◌≤◌, Bool, true, false, Result, Ok, Err, IfOk, OnOk, OnErr, is_ok, arith}
use Rattle.std.proofs.lemmas.Bool.Decides.{nat_tests}
use Rattle.mintc_text.specs.Outside.{Rose, faults_after}

-- a count of faults never falls, and rises where a call failed
pub faults-later : (done : Bool) (old new : ℕ) → new ≡ faults_after done old → old ≤ new
faults-later true old new e = omega arith
faults-later false old new e = grind (arith, nat_tests)

pub faults-rose : (old new : ℕ) → new ≡ faults_after false old → Rose old new
faults-rose old new e = grind (arith, nat_tests)

-- what is said of nothing
pub IfOk-nothing : {T E : Type 0} (r : Result T E) → IfOk r (λ v. Unit {0})
IfOk-nothing (Ok v) = tt
IfOk-nothing (Err e) = tt

pub failed-rose : {T E : Type 0} (r : Result T E) (e : E) (old new : ℕ) → new ≡ faults_after (is_ok r) old → r ≡ Err e → Rose old new
failed-rose (Ok v) e old new h is = let none : ⊥ = cc in absurd none
failed-rose (Err d) e old new h is = faults-rose old new h

pub err-rose : {T E : Type 0} (r : Result T E) (old new : ℕ) → new ≡ faults_after (is_ok r) old → OnErr r (Rose old new)
err-rose (Ok v) old new h = tt
err-rose (Err d) old new h = faults-rose old new h

pub OnOk-always : {T E : Type 0} (r : Result T E) {P : Type 0} → P → OnOk r P
OnOk-always (Ok v) holds = holds
OnOk-always (Err e) holds = tt

pub OnErr-always : {T E : Type 0} (r : Result T E) {P : Type 0} → P → OnErr r P
OnErr-always (Ok v) holds = tt
OnErr-always (Err e) holds = holds
