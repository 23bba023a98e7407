-- A value that rises, and the tree of last arcs with it.
use Rattle.std.proofs.Common.{◌≡◌, ◌≢◌, ℕ, suc, ℤ, pos, ◌≤ℤ◌, ◌<ℤ◌, ◌<◌, List, length, get_or, set, cond, eqb, ⊎_elim, refl, sym, ap, arith, ◌∙◌, get_or-set_same, get_or-set_other, length-set}
use Rattle.std.proofs.lemmas.Int.{ints}
use Rattle.std.proofs.lemmas.Bool.{cases_eq, eq-eqb, ne_eqb}
use Rattle.mintc_graph_walks.specs.declared.network.Arc.{Arc}
use Rattle.mintc_graph_walks.specs.declared.network.TheConstants.{UNREACHED, NONE}
use Rattle.mintc_graph_walks.specs.Walks.{arc_at, value_at, brought}
use Rattle.mintc_graph_walks.specs.Rises.{IsTended, AreTended}

-- the ages after t was raised from u
abbrev pub aged : (ℕ → ℕ) → ℕ → ℕ → ℕ → ℕ
aged age u t v = cond (eqb v t) (suc (age u)) (age v)

aged-same : (age : ℕ → ℕ) (u t v : ℕ) → v ≡ t → aged age u t v ≡ suc (age u)
aged-same age u t v e = rw (eq-eqb v t e)

aged-other : (age : ℕ → ℕ) (u t v : ℕ) → v ≢ t → aged age u t v ≡ age v
aged-other age u t v e = rw (ne_eqb v t e)

module _ (values : List ℤ) (t : ℕ) (x : ℤ) (fits : t < length values) (more : value_at values t <ℤ x) where
  pub set_same : (v : ℕ) → v ≡ t → value_at (set values t x) v ≡ x
  set_same v e = rw (e, get_or-set_same)

  pub set_other : (v : ℕ) → v ≢ t → value_at (set values t x) v ≡ value_at values v
  set_other v e = get_or-set_other values t v x (pos 0) e

  pub set_grows : (v : ℕ) → value_at values v ≤ℤ value_at (set values t x) v
  set_grows v = ⊎_elim (λ e. let s = set_same v e in let more' : value_at values v <ℤ x = rw (← e) at more in omega (arith, ints)) (λ e. let s = set_other v e in omega (arith, ints)) (cases_eq v t)

-- an arc e raises its end: what holds at each moment still holds
module _ (arcs : List Arc) (starts values : List ℤ) (before : List ℕ) (age : ℕ → ℕ) (all : AreTended arcs starts values before age) (same : length before ≡ length values) (e : ℕ) (below : e < length arcs) (numbered : e ≢ NONE) (inside : (arc_at arcs e).from < length values) (fits : (arc_at arcs e).to < length values) (reached : UNREACHED <ℤ value_at values (arc_at arcs e).from) (more : value_at values (arc_at arcs e).to <ℤ brought values (arc_at arcs e)) where
  abbrev pub arc : Arc
  arc = arc_at arcs e

  abbrev pub new : List ℤ
  new = set values arc.to (brought values arc)

  abbrev pub new_age : ℕ → ℕ
  new_age = aged age arc.from arc.to

  abbrev pub new_before : List ℕ
  new_before = set before arc.to e

  before_same : (v : ℕ) → v ≡ arc.to → get_or new_before v 0 ≡ e
  before_same v h = let lt : arc.to < length before = omega arith in rw (h, get_or-set_same)

  before_other : (v : ℕ) → v ≢ arc.to → get_or new_before v 0 ≡ get_or before v 0
  before_other v h = get_or-set_other before arc.to v e 0 h

  new_same : (v : ℕ) → v ≡ arc.to → value_at new v ≡ brought values arc
  new_same = set_same values arc.to (brought values arc) fits more

  new_other : (v : ℕ) → v ≢ arc.to → value_at new v ≡ value_at values v
  new_other = set_other values arc.to (brought values arc) fits more

  new_grows : (v : ℕ) → value_at values v ≤ℤ value_at new v
  new_grows = set_grows values arc.to (brought values arc) fits more

  new_younger : value_at new arc.to ≡ brought new arc → new_age arc.from < new_age arc.to
  new_younger h =
      let s = new_same arc.to refl in
      let a = aged-same age arc.from arc.to arc.to refl in
      ⊎_elim
      (λ same'. let f = new_same arc.from same' in let old : value_at values arc.from ≡ value_at values arc.to = ap (value_at values) same' in absurd (omega (arith, ints)))
      (λ other. let b = aged-other age arc.from arc.to arc.from other in omega arith)
      (cases_eq arc.from arc.to)

  tended_new : IsTended new new_age arc.to arc
  tended_new = record {
    ends = refl;
    inside = simp length-set inside;
    reached = (let g = new_grows arc.from in omega (arith, ints));
    brings = (let g = new_grows arc.from in let s = new_same arc.to refl in omega (arith, ints));
    younger = new_younger;
  }

  old_younger : (v : ℕ) (b : Arc) → v ≢ arc.to → IsTended values age v b → value_at new v ≡ brought new b → new_age b.from < new_age v
  old_younger v b other t h =
      let s = new_other v other in
      let a = aged-other age arc.from arc.to v other in
      ⊎_elim
      (λ same'. let f = new_same b.from same' in let old : value_at values b.from ≡ value_at values arc.to = ap (value_at values) same' in let g = t.brings in absurd (omega (arith, ints)))
      (λ other'. let f = new_other b.from other' in let c = aged-other age arc.from arc.to b.from other' in let q : value_at values v ≡ brought values b = omega (arith, ints) in let y = t.younger q in omega arith)
      (cases_eq b.from arc.to)

  tended_old : (v : ℕ) (b : Arc) → v ≢ arc.to → IsTended values age v b → IsTended new new_age v b
  tended_old v b other t = record {
    ends = t.ends;
    inside = simp length-set t.inside;
    reached = (let g = new_grows b.from in let r = t.reached in omega (arith, ints));
    brings = (let g = new_grows b.from in let s = new_other v other in let r = t.brings in omega (arith, ints));
    younger = old_younger v b other t;
  }

  pub raised_tended : AreTended arcs starts new new_before new_age
  raised_tended = record {
    unraised = λ v h z. ⊎_elim
        (λ same'. absurd (numbered (sym (before_same v same') ∙ z)))
        (λ other. new_other v other ∙ all.unraised v (simp length-set at h) (sym (before_other v other) ∙ z))
        (cases_eq v arc.to);
    numbered = λ v h z. ⊎_elim
        (λ same'. rw (before_same v same') below)
        (λ other. rw (before_other v other) (all.numbered v (simp length-set at h) (λ q. z (before_other v other ∙ q))))
        (cases_eq v arc.to);
    tended = λ v h z. ⊎_elim
        (λ same'. rw (before_same v same', same') tended_new)
        (λ other. rw (before_other v other) (tended_old v _ other (all.tended v (simp length-set at h) (λ q. z (before_other v other ∙ q)))))
        (cases_eq v arc.to);
    walked = λ v h r. ⊎_elim
        (λ same'. let w = all.walked arc.from inside reached in (suc w.0, (e, value_at values arc.from, below, w.1, sym same', sym (new_same v same'))))
        (λ other. let s = new_other v other in let w = all.walked v (simp length-set at h) (rw s at r) in (w.0, rw s w.1))
        (cases_eq v arc.to);
  }
