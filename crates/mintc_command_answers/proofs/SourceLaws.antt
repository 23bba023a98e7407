-- Tables and their systems.
use Rattle.std.proofs.Common.{◌≡◌, ◌<◌, ◌≤◌, ℕ, zero, suc, List, [], ◌∷◌, length, get_or, take, inl, inr, refl, sym, subst, arith, Result, Ok, Err, IfOk, IfErr}
use Rattle.std.proofs.lemmas.List.Elements.{All-head, All-tail}
use Rattle.mintc_text.specs.declared.limits.Most.{Most}
use Rattle.mintc_text.specs.declared.refusals.Refusal.TheVariants as refusal
use Rattle.mintc_text.specs.declared.refusals.Role.{Role}
use Rattle.mintc_text.specs.declared.refusals.Stop.{Stop}
use Rattle.mintc_text.specs.declared.refusals.Stop.TheVariants as stop
use Rattle.mintc_text.specs.Stops.{StopsAt}
use Rattle.mintc_timing.specs.Design.{Design, Timing}
use Rattle.mintc_timing.specs.Accepted.{SystemsAreAccepted}
use Rattle.mintc_timing.specs.Limits.{IsDesign, IsWithinLimits}
use Rattle.mintc_build.specs.Designs.{HasSystem, IsDesignRefusal}
use Rattle.mintc_command_answers.specs.Sources.{AreShort, Describes, Gives, GivesOrdered, HasNoDesign, IsLengthRefusal, IsSourceRefused, no_design, no_system, IsSystemOf, file_at}
use Rattle.mintc_command_answers.specs.declared.command.Source.{Source}

-- What is said of the texts of four files is said of the files that a command names, whose source is this one.
pub of_four : (Q : List ℕ → List ℕ → List ℕ → List ℕ → Type 0) (R : Source → Type 0) (own source : Source) (files : List (List ℕ)) (v d c k : List ℕ) →
    (Q (file_at files 0) (file_at files 1) (file_at files 2) (file_at files 3) → R own) → source ≡ own →
    v ≡ file_at files 0 → d ≡ file_at files 1 → c ≡ file_at files 2 → k ≡ file_at files 3 → Q v d c k → R source
of_four Q R own source files v d c k said is a b e f h =
    let all : Q (file_at files 0) (file_at files 1) (file_at files 2) (file_at files 3) = rw (sym a, sym b, sym e, sym f) h in
    subst R (sym is) (said all)

-- In a run with these limits.
module _ (most : Most) where
  -- What stops a system of the design of files stops the files.
  pub StopsAt-system : (source : Source) (files : List (List ℕ)) (design : Design) (s : Stop) → Describes most source files design → IsDesign design → IsWithinLimits most design → StopsAt (IsDesignRefusal most design) s → StopsAt (IsSourceRefused most source files) s
  StopsAt-system source files design (stop.Refused refused) described limits within h = no_system design described limits within h
  StopsAt-system source files design stop.OutOfMemory described limits within h = tt

  -- So does what stops their design.
  pub StopsAt-design : (source : Source) (files : List (List ℕ)) (s : Stop) → StopsAt (HasNoDesign most source files) s → StopsAt (IsSourceRefused most source files) s
  StopsAt-design source files (stop.Refused refused) h = no_design h
  StopsAt-design source files stop.OutOfMemory h = tt

  -- A system of the design of files is theirs.
  pub Gives-system : (source : Source) (files : List (List ℕ)) (design : Design) (r : Result Timing Stop) → Describes most source files design → IfOk r (IsSystemOf most design) → IfOk r (Gives most source files)
  Gives-system source files design (Ok t) described h =
      record { design = subst (λ (d : Design). Describes most source files d) (sym h.same) described; accepted = h.accepted; pairs = h.pairs }
  Gives-system source files design (Err s) described h = tt

  pub Refuses-system : (source : Source) (files : List (List ℕ)) (design : Design) (r : Result Timing Stop) → Describes most source files design → IsDesign design → IsWithinLimits most design →
      IfErr r (StopsAt (IsDesignRefusal most design)) → IfErr r (StopsAt (IsSourceRefused most source files))
  Refuses-system source files design (Ok t) described limits within h = tt
  Refuses-system source files design (Err s) described limits within h = StopsAt-system source files design s described limits within h

  -- So is a design that has a system with an order of its arcs.
  pub GivesOrdered-system : SystemsAreAccepted → (source : Source) (files : List (List ℕ)) (design : Design) (order : List ℕ) → Describes most source files design → IsDesign design → IsWithinLimits most design →
      HasSystem most design order → GivesOrdered most source files design order
  GivesOrdered-system accepted source files design order described limits within h = record {
    timing = record { flat = design; order = order; pairs = h.0 };
    given = record { design = described; accepted = accepted most design order h.0 limits within h.1 h.2; pairs = h.1.extremes };
    same = refl;
    ordered = h.1.ordered;
  }

  -- A file that is too long, after some that aren't, is refused by its role.
  pub IsLengthRefusal-at : (roles : List Role) (files : List (List ℕ)) (n : ℕ) (d : Role) → n < length files → n < length roles →
      AreShort most (take n files) → most.bytes < length (get_or files n []) → IsLengthRefusal most roles files (refusal.TooLong (get_or roles n d))
  IsLengthRefusal-at [] files n d below role_below short long = absurd (omega (arith, role_below))
  IsLengthRefusal-at (r ∷ roles) [] n d below role_below short long = absurd (omega (arith, below))
  IsLengthRefusal-at (r ∷ roles) (bytes ∷ files) zero d below role_below short long = inl (long, refl)
  IsLengthRefusal-at (r ∷ roles) (bytes ∷ files) (suc n) d below role_below short long =
      inr (
        All-head (λ (b : List ℕ). length b ≤ most.bytes) bytes (take n files) short,
        IsLengthRefusal-at roles files n d (omega (arith, below)) (omega (arith, role_below)) (All-tail (λ (b : List ℕ). length b ≤ most.bytes) bytes (take n files) short) long,
      )
