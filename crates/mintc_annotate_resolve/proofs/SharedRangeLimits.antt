-- What is said lies within its limits.
use Rattle.std.proofs.Common.{◌≡◌, ◌==◌, ℕ, ℤ, pos, neg_ℤ, ◌≤ℤ◌, Bool, true, false, cond, List, [], ◌∷◌, ◌++◌, map, All, Option, Some, None, option_map, refl, subst, arith}
use Rattle.std.proofs.lemmas.Int.{ints, int_min_is, int_max_is}
use Rattle.std.proofs.lemmas.List.Elements.{All-head, All-tail}
use Rattle.std.specs.Prelude.{int_lt}
use Rattle.mintc_text.specs.declared.limits.TheConstants.{MOST_DELAY}
use Rattle.mintc_cells.specs.declared.cell.Cell.{Cell}
use Rattle.mintc_cells.specs.declared.cell.Cell.TheVariants.{Gate, Latch, Flop, Clock}
use Rattle.mintc_flatten_hierarchy.specs.declared.hierarchy.Hierarchy.{Hierarchy}
use Rattle.mintc_sdf.specs.declared.delays.Delay.{Delay}
use Rattle.mintc_sdf.specs.declared.delays.Place.{Place}
use Rattle.mintc_sdf.specs.declared.delays.Place.TheVariants.{Top, Every, Path}
use Rattle.mintc_sdf.specs.declared.delays.Subject.{Subject}
use Rattle.mintc_sdf.specs.declared.delays.Subject.TheVariants as subject
use Rattle.mintc_sdf.specs.Laws.{lowest, IsWithin}
use Rattle.mintc_annotate_resolve.specs.declared.ports.PortBit.{PortBit}
use Rattle.mintc_flatten_hierarchy.specs.Shape.{CellTable}
use Rattle.mintc_annotate_resolve.specs.Pins.{leaf_cell, input_pin, output_pin, pin_bit}
use Rattle.mintc_annotate_resolve.specs.Ports.{place_of}
use Rattle.mintc_annotate_resolve.specs.Resolution.{Target, join_into, arcs_from, dq_of, cq_of, setup_of, hold_of, width_of, Resolved, of, no_instance, of_path, of_check, pins_named, both, of_leaf, at_port, into, at_pin, of_interconnect, of_instance, is_scope, leaf_called, together, of_each, of_every, leaves_of, of_place, resolved, targets, Said, said_by, said, same_target, widened, range_of}

-- a delay in femtoseconds, and a time that may be negative
abbrev pub IsDelay : ℤ → Type 0
IsDelay x = (pos 0 ≤ℤ x) × (x ≤ℤ MOST_DELAY)

abbrev pub IsGap : ℤ → Type 0
IsGap x = (neg_ℤ MOST_DELAY ≤ℤ x) × (x ≤ℤ MOST_DELAY)

-- the limits of the numbers that annotate a target
abbrev pub IsOf : Target → ℤ → Type 0
IsOf (setup_of l) x = IsGap x
IsOf (hold_of l) x = IsGap x
IsOf _ x = IsDelay x

same_limits : (a b : Target) (x : ℤ) → same_target a b ≡ true → IsOf a x → IsOf b x
same_limits (setup_of l) (setup_of k) x e h = h
same_limits (hold_of l) (hold_of k) x e h = h
same_limits (setup_of l) _ x e h = absurd (cc)
same_limits (hold_of l) _ x e h = absurd (cc)
same_limits _ (setup_of l) x e h = absurd (cc)
same_limits _ (hold_of l) x e h = absurd (cc)
same_limits _ _ x e h = h

-- the numbers of a subject
abbrev pub IsFor : Subject → ℤ → Type 0
IsFor s x = (lowest s ≤ℤ x) × (x ≤ℤ MOST_DELAY)

-- what a subject's numbers may annotate
abbrev pub Fit : Subject → List Target → Type 0
Fit s [] = Unit {0}
Fit s (m ∷ ms) = ((x : ℤ) → IsFor s x → IsOf m x) × Fit s ms

abbrev pub Fits : Subject → Resolved → Type 0
Fits s (of ms) = Fit s ms
Fits s _ = Unit {0}

fit-append : (s : Subject) (ms ns : List Target) → Fit s ms → Fit s ns → Fit s (ms ++ ns)
fit-append s [] ns a b = b
fit-append s (m ∷ ms) ns a b = (a.0, fit-append s ms ns a.1 b)

fits_pins : {A : Type 0} (s : Subject) (f : A → List Target) (o : Option A) → ((x : A) → Fit s (f x)) → Fits s (pins_named (option_map f o))
fits_pins s f None give = tt
fits_pins s f (Some x) give = give x

either : {A : Type 0} (P : A → Type 0) (b : Bool) (x y : A) → P x → P y → P (cond b x y)
either P true x y a b = a
either P false x y a b = b

fit_path : (from to : List ℕ) (l : ℕ) (cell : Cell) (i o : ℕ) → Fit (subject.Iopath from to) (of_path l cell i o)
fit_path from to l (Gate a b c d) i o = ((λ x h. h), tt)
fit_path from to l (Latch a b c d e f g j k m n p q r) i o =
    either (Fit (subject.Iopath from to)) (i == 0) (dq_of l ∷ []) (cond (i == 1) (cq_of l ∷ []) []) ((λ x h. h), tt) (either (Fit (subject.Iopath from to)) (i == 1) (cq_of l ∷ []) [] ((λ x h. h), tt) tt)
fit_path from to l (Flop a b c d e f g j k m n) i o = either (Fit (subject.Iopath from to)) (i == 1) (dq_of l ∷ []) [] ((λ x h. h), tt) tt
fit_path from to l (Clock a b c d) i o = tt

fits_leaf : (h : Hierarchy) (cells : CellTable) (l : ℕ) (s : Subject) → Fits s (of_leaf h cells l s)
fits_leaf h cells l (subject.Iopath from to) = fits_pins (subject.Iopath from to) (λ p. of_path l (leaf_cell h cells l) p.0 p.1) (both (input_pin (leaf_cell h cells l) from) (output_pin (leaf_cell h cells l) to)) (λ p. fit_path from to l (leaf_cell h cells l) p.0 p.1)
fits_leaf h cells l (subject.Port pin) = fits_pins (subject.Port pin) (λ i. join_into (pin_bit h l i) ∷ []) (input_pin (leaf_cell h cells l) pin) (λ i. ((λ x h. h), tt))
fits_leaf h cells l (subject.Setup pin) = fits_pins (subject.Setup pin) (of_check (leaf_cell h cells l) 0 (setup_of l)) (input_pin (leaf_cell h cells l) pin) (λ i. either (Fit (subject.Setup pin)) _ (setup_of l ∷ []) [] ((λ x h. h), tt) tt)
fits_leaf h cells l (subject.Hold pin) = fits_pins (subject.Hold pin) (of_check (leaf_cell h cells l) 0 (hold_of l)) (input_pin (leaf_cell h cells l) pin) (λ i. either (Fit (subject.Hold pin)) _ (hold_of l ∷ []) [] ((λ x h. h), tt) tt)
fits_leaf h cells l (subject.Width pin) = fits_pins (subject.Width pin) (of_check (leaf_cell h cells l) 1 (width_of l)) (input_pin (leaf_cell h cells l) pin) (λ i. either (Fit (subject.Width pin)) _ (width_of l ∷ []) [] ((λ x h. h), tt) tt)
fits_leaf h cells l (subject.Interconnect to) = tt

fits_port : (to : List (List ℕ)) (o : Option PortBit) → Fits (subject.Interconnect to) (at_port o)
fits_port to None = tt
fits_port to (Some p) = either (Fits (subject.Interconnect to)) p.output (of (arcs_from p.bit ∷ [])) no_instance ((λ x h. h), tt) tt

fits_into : (to : List (List ℕ)) (o : Option ℕ) → Fits (subject.Interconnect to) (into o)
fits_into to None = tt
fits_into to (Some b) = ((λ x h. h), tt)

fits_pin : (h : Hierarchy) (cells : CellTable) (to : List (List ℕ)) (o : Option ℕ) (name : List ℕ) → Fits (subject.Interconnect to) (at_pin h cells o name)
fits_pin h cells to None name = tt
fits_pin h cells to (Some l) name = fits_into to (option_map (pin_bit h l) (input_pin (leaf_cell h cells l) name))

fits_interconnect : (h : Hierarchy) (cells : CellTable) (to path : List (List ℕ)) → Fits (subject.Interconnect to) (of_interconnect h cells path)
fits_interconnect h cells to [] = tt
fits_interconnect h cells to (name ∷ []) = fits_port to (place_of h name)
fits_interconnect h cells to (name ∷ next ∷ path) = fits_pin h cells to _ _

fits_instance : (h : Hierarchy) (cells : CellTable) (path : List (List ℕ)) (s : Subject) (o : Option ℕ) → Fits s (of_instance h cells path s o)
fits_instance h cells path (subject.Interconnect to) (Some l) = fits_interconnect h cells to (path ++ to)
fits_instance h cells path (subject.Interconnect to) None = either (Fits (subject.Interconnect to)) (is_scope h path) (of_interconnect h cells (path ++ to)) no_instance (fits_interconnect h cells to (path ++ to)) tt
fits_instance h cells path s (Some l) = fits_leaf h cells l s
fits_instance h cells path _ None = tt

fits_together : (s : Subject) (a b : Resolved) → Fits s a → Fits s b → Fits s (together a b)
fits_together s (of ms) (of ns) x y = fit-append s ms ns x y
fits_together s _ _ x y = tt

fits_each : (h : Hierarchy) (cells : CellTable) (s : Subject) (ls : List ℕ) → Fits s (of_each h cells s ls)
fits_each h cells s [] = tt
fits_each h cells s (l ∷ ls) = fits_together s (of_leaf h cells l s) (of_each h cells s ls) (fits_leaf h cells l s) (fits_each h cells s ls)

fits_every : (h : Hierarchy) (cells : CellTable) (celltype : List ℕ) (s : Subject) → Fits s (of_every h cells celltype s)
fits_every h cells celltype (subject.Interconnect to) = tt
fits_every h cells celltype s = fits_each h cells s (leaves_of h cells celltype)

fits_place : (h : Hierarchy) (cells : CellTable) (d : Delay) (p : Place) → Fits d.subject (of_place h cells d p)
fits_place h cells d Top = fits_instance h cells [] d.subject None
fits_place h cells d Every = fits_every h cells d.celltype d.subject
fits_place h cells d (Path path) = fits_instance h cells path d.subject (leaf_called h path)

-- ---- all that is said
pub record IsSaid (s : Said) : Type 0 where
  pub low : IsOf s.target s.least
  pub high : IsOf s.target s.greatest
  pub ordered : s.least ≤ℤ s.greatest

abbrev pub AreSaid : List Said → Type 0
AreSaid [] = Unit {0}
AreSaid (s ∷ ss) = IsSaid s × AreSaid ss

AreSaid-append : (ss ts : List Said) → AreSaid ss → AreSaid ts → AreSaid (ss ++ ts)
AreSaid-append [] ts a b = b
AreSaid-append (s ∷ ss) ts a b = (a.0, AreSaid-append ss ts a.1 b)

said_of : (d : Delay) (ms : List Target) → IsWithin d → Fit d.subject ms → AreSaid (map (λ m. record { target = m; least = d.least; greatest = d.greatest }) ms)
said_of d [] sound fit = tt
said_of d (m ∷ ms) sound fit =
    (record { low = fit.0 d.least (sound.0, omega (arith, ints)); high = fit.0 d.greatest (omega (arith, ints), sound.2); ordered = sound.1 }, said_of d ms sound fit.1)

fit_targets : (s : Subject) (x : Resolved) → Fits s x → Fit s (targets x)
fit_targets s (of ms) h = h
fit_targets s _ h = tt

pub all_said : (h : Hierarchy) (cells : CellTable) (ds : List Delay) → All IsWithin ds → AreSaid (said h cells ds)
all_said h cells [] sound = tt
all_said h cells (d ∷ ds) sound =
    AreSaid-append (said_by h cells d) (said h cells ds)
    (said_of d (targets (resolved h cells d)) (All-head IsWithin d ds sound) (fit_targets d.subject (resolved h cells d) (fits_place h cells d d.place)))
    (all_said h cells ds (All-tail IsWithin d ds sound))

-- ---- the range of a target
pub record IsRange (m : Target) (r : ℤ × ℤ) : Type 0 where
  pub low : IsOf m r.0
  pub high : IsOf m r.1
  pub ordered : r.0 ≤ℤ r.1

widened_in : (m : Target) (least greatest : ℤ) (o : Option (ℤ × ℤ)) → IsOf m least → IsOf m greatest → least ≤ℤ greatest → ((q : ℤ × ℤ) → o ≡ Some q → IsRange m q) → IsRange m (widened least greatest o)
widened_in m least greatest None low high ordered more = record { low = low; high = high; ordered = ordered }
widened_in m least greatest (Some q) low high ordered more =
    let rest = more q refl in
    record {
      low = either (IsOf m) (int_lt q.0 least) q.0 least rest.low low;
      high = either (IsOf m) (int_lt q.1 greatest) greatest q.1 high rest.high;
      ordered = omega (arith, ints, int_min_is least q.0, int_max_is greatest q.1);
    }

range_at : (b : Bool) (m : Target) (s : Said) (o : Option (ℤ × ℤ)) (r : ℤ × ℤ) → same_target s.target m ≡ b → IsSaid s → ((q : ℤ × ℤ) → o ≡ Some q → IsRange m q) →
    cond b (Some (widened s.least s.greatest o)) o ≡ Some r → IsRange m r
range_at true m s o r same is more e =
    let this : widened s.least s.greatest o ≡ r = cc in
    subst (IsRange m) this (widened_in m s.least s.greatest o (same_limits s.target m s.least same is.low) (same_limits s.target m s.greatest same is.high) is.ordered more)
range_at false m s o r same is more e = more r e

-- the range of a target is within its limits, the least at most the greatest
pub range_in : (ss : List Said) (m : Target) (r : ℤ × ℤ) → AreSaid ss → range_of ss m ≡ Some r → IsRange m r
range_in [] m r are e = absurd (cc)
range_in (s ∷ ss) m r are e = range_at (same_target s.target m) m s (range_of ss m) r refl are.0 (λ q more. range_in ss m q are.1 more) e
