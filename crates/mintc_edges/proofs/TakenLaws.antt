-- Delays taken in one after another.
use Rattle.std.proofs.Common.{◌≡◌, ◌<◌, ◌+◌, ℕ, List, [], ◌∷◌, ◌++◌, length, take, drop, get_or, Option, Some, None, Result, Ok, Err, refl, sym, ap, ◌∙◌, subst, arith, append_assoc, append-nil}
use Rattle.std.specs.Result.{OnOk}
use Rattle.std.proofs.lemmas.List.{map-append, take_more, drop_more, take-append-drop}
use Rattle.std.proofs.lemmas.List.Concat.{flat_map-append}
use Rattle.mintc_text.specs.declared.refusals.Refusal.{Refusal}
use Rattle.mintc_cells.specs.Entries.{AreKept}
use Rattle.mintc_sdf_edges.specs.declared.delays.EdgeDelay.{EdgeDelay}
use Rattle.mintc_sdf_edges.specs.Laws.{HasEdges}
use Rattle.mintc_flatten_hierarchy.specs.declared.hierarchy.Hierarchy.{Hierarchy}
use Rattle.mintc_flatten_hierarchy.specs.Shape.{CellTable}
use Rattle.mintc_annotate_resolve.specs.declared.targets.Target.{Target as Annotated}
use Rattle.mintc_annotate_resolve.specs.declared.targets.Target.TheVariants as annotated
use Rattle.mintc_annotate_resolve.specs.Resolution.{Target, Resolved, of, together, resolved, targets, refusal_of, first_refusal}
use Rattle.mintc_annotate_resolve.specs.Targets.{target_of, IsThere}
use Rattle.mintc_annotate_delays.proofs.SharedDelayLaws.{refusal_append}
use Rattle.mintc_annotate.proofs.SharedPartLaws.{stored_rules}
use Rattle.mintc_edges.specs.declared.matters.Matter.{Matter}
use Rattle.mintc_edges.specs.declared.told.Told.{Told}
use Rattle.mintc_edges.specs.Claims.{Claim, claims_of, claims, HasClaims, IsApt, IsTakenIn, matter_at, said_of}
use Rattle.mintc_edges.specs.Matters.{matter_of}
use Rattle.mintc_edges.specs.Numbers.{without_edges}
use Rattle.mintc_edges.specs.Told.{HasRoom, HasPlace, IsToldMore, IsSameRoom}
use Rattle.mintc_edges.proofs.StepLaws.{has-end, matter-is, has-more}

-- ---- places
place-at : (h : Hierarchy) (cells : CellTable) (told : Told) (o : ℕ) (a : Annotated) → HasRoom (length h.inner) (length h.leaves) told → IsThere h a → HasPlace told (matter_at h cells o (target_of a))
place-at h cells told o (annotated.PathOn leaf from to) room there = tt
place-at h cells told o (annotated.DqOf leaf) room there = tt
place-at h cells told o (annotated.CqOf leaf) room there = tt
place-at h cells told o (annotated.JoinInto bit) room there = omega (arith, there, room.joins)
place-at h cells told o (annotated.ArcsFrom bit) room there = omega (arith, there, room.ports)
place-at h cells told o (annotated.SetupOf leaf) room there = omega (arith, there, room.setups)
place-at h cells told o (annotated.HoldOf leaf) room there = omega (arith, there, room.holds)
place-at h cells told o (annotated.WidthOf leaf) room there = omega (arith, there, room.widths)

one-some : {A : Type 0} (o : Option A) (x y : A) → o ≡ Some x → o ≡ Some y → x ≡ y
one-some o x y a b = cc

some-none : {A : Type 0} (o : Option A) (x : A) → o ≡ Some x → o ≡ None → ⊥
some-none o x a b = absurd (cc)

module _ (h : Hierarchy) (cells : CellTable) (kept : AreKept cells) (d : EdgeDelay) (edges : HasEdges d) (a : Annotated) (apt : IsApt h cells d.delay.subject (target_of a)) where
  abbrev m : Target
  m = target_of a

  abbrev end : ℕ
  end = (has-end h cells (stored_rules h cells kept) d edges m apt).0

  is-matter : matter_of h cells m d.delay.subject ≡ Some (matter_at h cells end m)
  is-matter = matter-is h cells (stored_rules h cells kept) d edges m end (has-end h cells (stored_rules h cells kept) d edges m apt).1

  -- an apt target has a matter, which has its place
  pub no-matter : matter_of h cells m d.delay.subject ≡ None → ⊥
  no-matter none = some-none (matter_of h cells m d.delay.subject) (matter_at h cells end m) is-matter none

  pub has-place : (told : Told) (x : Matter) → matter_of h cells m d.delay.subject ≡ Some x → HasRoom (length h.inner) (length h.leaves) told → IsThere h a → HasPlace told x
  has-place told x is room there = subst (HasPlace told) (one-some (matter_of h cells m d.delay.subject) (matter_at h cells end m) x is-matter is) (place-at h cells told end a room there)

  -- one delay of one target
  pub taken-one : (old new : Told) (x : Matter) → matter_of h cells m d.delay.subject ≡ Some x → IsToldMore old new x (said_of h cells m d) → IsSameRoom old new → IsTakenIn h cells d (of (m ∷ [])) old new
  taken-one old new x is more room = record {
    unrefused = refl;
    told = λ cs has.
        has-more h cells (stored_rules h cells kept) d edges end old new m apt (has-end h cells (stored_rules h cells kept) d edges m apt).1
        (subst (λ v. IsToldMore old new v (said_of h cells m d)) (sym (one-some (matter_of h cells m d.delay.subject) (matter_at h cells end m) x is-matter is)) more) cs has;
    room = room;
  }

module _ (h : Hierarchy) (cells : CellTable) where
  pub taken-nothing : (d : EdgeDelay) (r : Told) → IsTakenIn h cells d (of []) r r
  taken-nothing d r = record {
    unrefused = refl;
    told = λ cs has. subst (λ l. HasClaims h cells l r) (sym (append-nil cs)) has;
    room = λ bits leaves room. room;
  }

  -- one after another
  pub taken-both : (d : EdgeDelay) (a b : Resolved) (old mid new : Told) → IsTakenIn h cells d a old mid → IsTakenIn h cells d b mid new → IsTakenIn h cells d (together a b) old new
  taken-both d (of ms) (of ns) old mid new first second = record {
    unrefused = refl;
    told = λ cs has.
        subst (λ l. HasClaims h cells l new) (append_assoc cs (claims_of d ms) (claims_of d ns) ∙ ap (λ (l : List Claim). cs ++ l) (sym (map-append (λ (m : Target). record { target = m; delay = d }) ms ns)))
        (second.told (cs ++ claims_of d ms) (first.told cs has));
    room = λ bits leaves room. second.room bits leaves (first.room bits leaves room);
  }
  taken-both d _ _ old mid new first second = absurd (cc)

-- what holds where two facts do, of a result that isn't an error
pub on-ok-both : {A E P Q R : Type 0} (r : Result A E) → (P → Q → R) → OnOk r P → OnOk r Q → OnOk r R
on-ok-both (Ok x) f p q = f p q
on-ok-both (Err e) f p q = tt

-- ---- delay after delay
pub unrefused_more : (h : Hierarchy) (cells : CellTable) (ds : List EdgeDelay) (k : ℕ) (d : EdgeDelay) → k < length ds → d ≡ get_or ds k d → first_refusal h cells (without_edges (take k ds)) ≡ None → refusal_of d.delay.entry (resolved h cells d.delay) ≡ None →
    first_refusal h cells (without_edges (take (k + 1) ds)) ≡ None
unrefused_more h cells ds k d within is before here =
    ap (λ l. first_refusal h cells (without_edges l)) (take_more ds k d within ∙ ap (λ x. take k ds ++ x ∷ []) (sym is))
    ∙ rw (map-append (λ (x : EdgeDelay). x.delay) (take k ds) (d ∷ []), refusal_append h cells (without_edges (take k ds)) (d.delay ∷ []), before, here) refl

pub refused_here : (h : Hierarchy) (cells : CellTable) (ds : List EdgeDelay) (k : ℕ) (d : EdgeDelay) (r : Refusal) → k < length ds → d ≡ get_or ds k d → first_refusal h cells (without_edges (take k ds)) ≡ None → refusal_of d.delay.entry (resolved h cells d.delay) ≡ Some r →
    first_refusal h cells (without_edges ds) ≡ Some r
refused_here h cells ds k d r within is before here =
    ap (λ l. first_refusal h cells (without_edges l)) (sym (take-append-drop k ds) ∙ ap (λ (l : List EdgeDelay). take k ds ++ l) (drop_more ds k d within ∙ ap (λ (x : EdgeDelay). x ∷ drop (k + 1) ds) (sym is)))
    ∙ rw (map-append (λ (x : EdgeDelay). x.delay) (take k ds) (d ∷ drop (k + 1) ds), refusal_append h cells (without_edges (take k ds)) (d.delay ∷ without_edges (drop (k + 1) ds)), before, here) refl

-- ---- what is claimed
claims-more : (h : Hierarchy) (cells : CellTable) (ds : List EdgeDelay) (k : ℕ) (d : EdgeDelay) → k < length ds → d ≡ get_or ds k d → claims h cells (take (k + 1) ds) ≡ claims h cells (take k ds) ++ claims_of d (targets (resolved h cells d.delay))
claims-more h cells ds k d within is = rw (take_more ds k d within, ← is, flat_map-append, append-nil) refl

pub told-more : (h : Hierarchy) (cells : CellTable) (ds : List EdgeDelay) (k : ℕ) (d : EdgeDelay) (old new : Told) → k < length ds → d ≡ get_or ds k d → HasClaims h cells (claims h cells (take k ds)) old →
    IsTakenIn h cells d (resolved h cells d.delay) old new → HasClaims h cells (claims h cells (take (k + 1) ds)) new
told-more h cells ds k d old new within is has taken =
    subst (λ l. HasClaims h cells l new) (sym (claims-more h cells ds k d within is)) (taken.told (claims h cells (take k ds)) has)
