-- Delays taken in one after another.
use Rattle.std.proofs.Common.{◌≡◌, ◌<◌, ℕ, ℤ, List, [], ◌∷◌, ◌++◌, length, Some, refl, sym, ap, ◌∙◌, subst, arith, append_assoc, append-nil}
use Rattle.std.proofs.lemmas.List.{map-append}
use Rattle.mintc_flatten_hierarchy.specs.declared.hierarchy.Hierarchy.{Hierarchy}
use Rattle.mintc_annotate_resolve.specs.declared.targets.Target.TheVariants.{PathOn}
use Rattle.mintc_annotate_resolve.specs.declared.targets.Resolved.{Resolved as Answer}
use Rattle.mintc_annotate_resolve.specs.declared.targets.Resolved.TheVariants as answer
use Rattle.mintc_annotate_delays.specs.declared.ranges.Ranges.{Ranges}
use Rattle.mintc_annotate_resolve.specs.Resolution.{Target, Resolved, of, together, Said}
use Rattle.mintc_annotate_resolve.specs.Targets.{AreThere}
use Rattle.mintc_annotate_delays.specs.Ranges.{HasRoom, HasRanges, IsWidened, IsSameRoom}
use Rattle.mintc_annotate_delays.specs.Gathered.{annotated, HasPlaceOf, IsTakenIn}
use Rattle.mintc_annotate_delays.proofs.RangeLaws.{range_push}

-- ---- places
pub has_place : (h : Hierarchy) (r : Ranges) (x : Answer) → HasRoom (length h.inner) (length h.leaves) r → AreThere h x → HasPlaceOf r x
has_place h r (answer.Of (Some (PathOn leaf from to))) room there = tt
has_place h r (answer.Of (Some _)) room there = omega arith
has_place h r _ room there = tt

-- ---- one delay
pub taken_one : (entry : ℕ) (m : Target) (least greatest : ℤ) (old new : Ranges) → IsWidened old new m least greatest → IsSameRoom old new → IsTakenIn entry (of (m ∷ [])) least greatest old new
taken_one entry m least greatest old new widen room = record {
  unrefused = refl;
  ranges = λ ss has k. rw (widen k, has k, range_push ss (record { target = m; least = least; greatest = greatest }) k) refl;
  room = room;
}

pub taken_nothing : (entry : ℕ) (least greatest : ℤ) (r : Ranges) → IsTakenIn entry (of []) least greatest r r
taken_nothing entry least greatest r = record {
  unrefused = refl;
  ranges = λ ss has. subst (HasRanges r) (sym (append-nil ss)) has;
  room = λ bits leaves room. room;
}

-- one after another
pub taken_both : (entry : ℕ) (a b : Resolved) (least greatest : ℤ) (old mid new : Ranges) → IsTakenIn entry a least greatest old mid → IsTakenIn entry b least greatest mid new → IsTakenIn entry (together a b) least greatest old new
taken_both entry (of ms) (of ns) least greatest old mid new first second = record {
  unrefused = refl;
  ranges = λ ss has.
      subst (HasRanges new) (append_assoc ss (annotated least greatest ms) (annotated least greatest ns) ∙ ap (λ (l : List Said). ss ++ l) (sym (map-append (λ (m : Target). record { target = m; least = least; greatest = greatest }) ms ns)))
      (second.ranges (ss ++ annotated least greatest ms) (first.ranges ss has));
  room = λ bits leaves room. second.room bits leaves (first.room bits leaves room);
}
taken_both entry _ _ least greatest old mid new first second = absurd (cc (first.unrefused, second.unrefused))
