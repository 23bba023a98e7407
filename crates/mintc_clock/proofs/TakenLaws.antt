-- What phases have taken tells whether a later one clashes with one of them.
use Rattle.std.proofs.Common.{◌≡◌, ℕ, Bool, true, false, ◌&&◌, ◌||◌, cond, List, [], ◌∷◌, ◌++◌, bytes_eq, append-nil, ◌+◌, ◌<◌, length, get_or, take, drop, Some, refl, sym, ap, ◌∙◌, subst}
use Rattle.std.specs.Bool.{beq}
use Rattle.std.specs.List.{list_any}
use Rattle.std.proofs.lemmas.List.{map-append, drop_more, take_more}
use Rattle.mintc_clock.specs.declared.clock.PhaseDef.{PhaseDef}
use Rattle.mintc_clock.specs.declared.clashing.Taken.{Taken}
use Rattle.mintc_clock.specs.Values.{clashes}
use Rattle.mintc_clock.specs.ClockOf.{names_of, first_clash}
use Rattle.mintc_text_names.specs.Names.{is_among, with_name}
use Rattle.mintc_clock.specs.Taken.{has_port, has_some, with_phase, ports_at, AreTaken}

-- one phase more, by whether its name, its port and its level are those asked for
step : (named ported level x y : Bool) → ((named || (ported && level)) || (x || y)) ≡ ((named || x) || cond level (ported || y) y)
step true ported level x y = refl
step false true true true y = refl
step false true true false y = refl
step false false true x y = refl
step false true false x y = refl
step false false false x y = refl

among_if : (level : Bool) (port : List ℕ) (one : List ℕ) (ports : List (List ℕ)) → is_among port (cond level (one ∷ ports) ports) ≡ cond level (bytes_eq port one || is_among port ports) (is_among port ports)
among_if true port one ports = refl
among_if false port one ports = refl

-- a phase clashes with one of some phases where its name or its port at its level is taken
pub clashes-taken : (p : PhaseDef) (ps : List PhaseDef) → list_any (clashes p) ps ≡ (is_among p.name (names_of ps) || is_among p.port (ports_at p.high ps))
clashes-taken p [] = refl
clashes-taken p (q ∷ ps) =
    ap (λ b. clashes p q || b) (clashes-taken p ps)
    ∙ step (bytes_eq p.name q.name) (bytes_eq p.port q.port) (beq p.high q.high) (is_among p.name (names_of ps)) (is_among p.port (ports_at p.high ps))
    ∙ ap (λ b. (bytes_eq p.name q.name || is_among p.name (names_of ps)) || b) (sym (among_if (beq p.high q.high) p.port q.port (ports_at p.high ps)))

-- the ports of some phases and one more
abbrev put : Bool → List ℕ → List (List ℕ)
put true port = port ∷ []
put false port = []

keep : (b : Bool) (x : List ℕ) (xs ys : List (List ℕ)) → cond b (x ∷ (xs ++ ys)) (xs ++ ys) ≡ cond b (x ∷ xs) xs ++ ys
keep true x xs ys = refl
keep false x xs ys = refl

last_port : (b : Bool) (port : List ℕ) → cond b (port ∷ []) [] ≡ put b port
last_port true port = refl
last_port false port = refl

ports-append : (level : Bool) (ps : List PhaseDef) (p : PhaseDef) → ports_at level (ps ++ p ∷ []) ≡ ports_at level ps ++ put (beq level p.high) p.port
ports-append level [] p = last_port (beq level p.high) p.port
ports-append level (q ∷ ps) p =
    ap (λ (rest : List (List ℕ)). cond (beq level q.high) (q.port ∷ rest) rest) (ports-append level ps p)
    ∙ keep (beq level q.high) q.port (ports_at level ps) (put (beq level p.high) p.port)

-- a phase of which something is taken, and one of which nothing is
taken_at : (p : PhaseDef) (ps : List PhaseDef) (taken : Taken) (high : Bool) → AreTaken ps taken → cond high taken.highs taken.lows ≡ ports_at high ps
taken_at p ps taken true are = are.highs
taken_at p ps taken false are = are.lows

pub clashes-some : (p : PhaseDef) (ps : List PhaseDef) (taken : Taken) → AreTaken ps taken → list_any (clashes p) ps ≡ has_some taken p
clashes-some p ps taken are =
    clashes-taken p ps
    ∙ ap (λ ns. is_among p.name ns || is_among p.port (ports_at p.high ps)) (sym are.names)
    ∙ ap (λ ports. is_among p.name taken.names || is_among p.port ports) (sym (taken_at p ps taken p.high are))

neither : (a b : Bool) → (a || b) ≡ false → (a ≡ false) × (b ≡ false)
neither true b h = absurd (cc)
neither false b h = (refl, h)

new_name : (names : List (List ℕ)) (name : List ℕ) → is_among name names ≡ false → with_name names name ≡ names ++ name ∷ []
new_name names name new = ap (λ (b : Bool). cond b names (names ++ name ∷ [])) new

new_high : (p : PhaseDef) (ps : List PhaseDef) (taken : Taken) (high : Bool) → AreTaken ps taken → is_among p.port (cond high taken.highs taken.lows) ≡ false →
    cond high (with_name taken.highs p.port) taken.highs ≡ ports_at true ps ++ put (beq true high) p.port
new_high p ps taken true are new = new_name taken.highs p.port new ∙ ap (λ (ports : List (List ℕ)). ports ++ p.port ∷ []) are.highs
new_high p ps taken false are new = are.highs ∙ sym (append-nil (ports_at true ps))

new_low : (p : PhaseDef) (ps : List PhaseDef) (taken : Taken) (high : Bool) → AreTaken ps taken → is_among p.port (cond high taken.highs taken.lows) ≡ false →
    cond high taken.lows (with_name taken.lows p.port) ≡ ports_at false ps ++ put (beq false high) p.port
new_low p ps taken true are new = are.lows ∙ sym (append-nil (ports_at false ps))
new_low p ps taken false are new = new_name taken.lows p.port new ∙ ap (λ (ports : List (List ℕ)). ports ++ p.port ∷ []) are.lows

pub with_one_more : (p : PhaseDef) (ps : List PhaseDef) (taken : Taken) → AreTaken ps taken → has_some taken p ≡ false → AreTaken (ps ++ p ∷ []) (with_phase taken p)
with_one_more p ps taken are free =
    let parts = neither (is_among p.name taken.names) (has_port taken p) free in
    record {
      names = new_name taken.names p.name parts.0 ∙ ap (λ (ns : List (List ℕ)). ns ++ p.name ∷ []) are.names ∙ sym (map-append (λ (q : PhaseDef). q.name) ps (p ∷ []));
      highs = new_high p ps taken p.high are parts.1 ∙ sym (ports-append true ps p);
      lows = new_low p ps taken p.high are parts.1 ∙ sym (ports-append false ps p);
    }

-- the phase at a number, the phases before it and those after it
clash_at : (ps : List PhaseDef) (n : ℕ) (p : PhaseDef) → n < length ps → p ≡ get_or ps n p → first_clash 1 [] ps ≡ first_clash (n + 1) (take n ps) (drop n ps) →
    first_clash 1 [] ps ≡ cond (list_any (clashes p) (take n ps)) (Some (n + 1)) (first_clash (n + 1 + 1) (take n ps ++ p ∷ []) (drop (n + 1) ps))
clash_at ps n p inside is left =
    left ∙ ap (first_clash (n + 1) (take n ps)) (drop_more ps n p inside ∙ ap (λ (q : PhaseDef). q ∷ drop (n + 1) ps) (sym is))

taken_more : (ps : List PhaseDef) (n : ℕ) (p : PhaseDef) → n < length ps → p ≡ get_or ps n p → take (n + 1) ps ≡ take n ps ++ p ∷ []
taken_more ps n p inside is = take_more ps n p inside ∙ ap (λ (q : PhaseDef). take n ps ++ q ∷ []) (sym is)

-- the phase of that number is the first that clashes
pub next_clash : (ps : List PhaseDef) (n : ℕ) (taken : Taken) (p : PhaseDef) → n < length ps → p ≡ get_or ps n p → first_clash 1 [] ps ≡ first_clash (n + 1) (take n ps) (drop n ps) →
    AreTaken (take n ps) taken → has_some taken p ≡ true → first_clash 1 [] ps ≡ Some (n + 1)
next_clash ps n taken p inside is left are some =
    clash_at ps n p inside is left ∙ ap (λ b. cond b (Some (n + 1)) (first_clash (n + 1 + 1) (take n ps ++ p ∷ []) (drop (n + 1) ps))) (clashes-some p (take n ps) taken are ∙ some)

-- it doesn't clash, and is one of those before the next
pub next_phase : (ps : List PhaseDef) (n : ℕ) (taken : Taken) (p : PhaseDef) → n < length ps → p ≡ get_or ps n p → first_clash 1 [] ps ≡ first_clash (n + 1) (take n ps) (drop n ps) →
    AreTaken (take n ps) taken → has_some taken p ≡ false → (first_clash 1 [] ps ≡ first_clash (n + 1 + 1) (take (n + 1) ps) (drop (n + 1) ps)) × AreTaken (take (n + 1) ps) (with_phase taken p)
next_phase ps n taken p inside is left are free =
    let more = taken_more ps n p inside is in (
      clash_at ps n p inside is left ∙ ap (λ b. cond b (Some (n + 1)) (first_clash (n + 1 + 1) (take n ps ++ p ∷ []) (drop (n + 1) ps))) (clashes-some p (take n ps) taken are ∙ free)
          ∙ ap (λ (before : List PhaseDef). first_clash (n + 1 + 1) before (drop (n + 1) ps)) (sym more),
      subst (λ (before : List PhaseDef). AreTaken before (with_phase taken p)) (sym more) (with_one_more p (take n ps) taken are free),
    )
