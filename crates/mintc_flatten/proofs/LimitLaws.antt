-- A limit is judged by what is counted as it is by the hierarchy's lists.
use Rattle.std.proofs.Common.{◌≡◌, ℕ, ◌<◌, List, [], ◌∷◌, length, Bool, true, false, cond, find, subst, slice_index_or, min, nat_lt, Option, Some, refl, sym, ap, ◌∙◌, arith}
use Rattle.std.specs.Option.{option_map}
use Rattle.std.proofs.lemmas.Bool.Decides.{nat_tests}
use Rattle.std.proofs.lemmas.List.{get_or_read}
use Rattle.mintc_text.specs.Limits.{AreLimits}
use Rattle.mintc_text.specs.Refusals.{over_limit}
use Rattle.mintc_text.specs.declared.limits.Most.{Most}
use Rattle.mintc_text.specs.declared.limits.TheConstants.{MOST_DEPTH, MOST_TOLD}
use Rattle.mintc_text.specs.declared.refusals.Kind.{Kind}
use Rattle.mintc_text.specs.declared.refusals.Kind.TheVariants as kind
use Rattle.mintc_text.specs.declared.refusals.Refusal.{Refusal}
use Rattle.mintc_text.specs.declared.refusals.Refusal.TheVariants as refusal
use Rattle.mintc_flatten.specs.declared.counts.Count.{Count}
use Rattle.mintc_flatten_hierarchy.specs.Sources.{Source, module_at, is_stub}
use Rattle.mintc_flatten_hierarchy.specs.Walks.{depth}
use Rattle.mintc_flatten.specs.Totals.{all_in, capped, IsCount, AreCounted, no_count}
use Rattle.mintc_flatten_binding.specs.Orders.{HoldsAll}
use Rattle.mintc_flatten_hierarchy.specs.Hierarchies.{hierarchy_of}
use Rattle.mintc_flatten_hierarchy.specs.Refusals.{limit_refusal}
use Rattle.mintc_flatten.proofs.TotalLaws.{hierarchy-scopes, hierarchy-leaves, hierarchy-inner}

passes_alike : (n a : ℕ) → n < MOST_TOLD → nat_lt n (capped a) ≡ nat_lt n a
passes_alike n a h = grind (arith, nat_tests)

over_by : (k : Kind) (q q' m : ℕ) (rest rest' : List (Kind × ℕ × ℕ)) (b : Bool) → min q MOST_TOLD ≡ min q' MOST_TOLD → over_limit rest ≡ over_limit rest' →
    option_map (λ (x : Kind × ℕ × ℕ). refusal.Limit x.0 (min x.1 MOST_TOLD)) (cond b (Some (k, q, m)) (find (λ (x : Kind × ℕ × ℕ). nat_lt x.2 x.1) rest))
    ≡ option_map (λ (x : Kind × ℕ × ℕ). refusal.Limit x.0 (min x.1 MOST_TOLD)) (cond b (Some (k, q', m)) (find (λ (x : Kind × ℕ × ℕ). nat_lt x.2 x.1) rest'))
over_by k q q' m rest rest' true e h = ap (λ (n : ℕ). Some (refusal.Limit k n)) e
over_by k q q' m rest rest' false e h = h

over_step : (k : Kind) (q q' m : ℕ) (rest rest' : List (Kind × ℕ × ℕ)) → nat_lt m q ≡ nat_lt m q' → min q MOST_TOLD ≡ min q' MOST_TOLD → over_limit rest ≡ over_limit rest' →
    over_limit ((k, q, m) ∷ rest) ≡ over_limit ((k, q', m) ∷ rest')
over_step k q q' m rest rest' test e h =
    over_by k q q' m rest rest' (nat_lt m q) e h
    ∙ ap (λ (b : Bool). option_map (λ (x : Kind × ℕ × ℕ). refusal.Limit x.0 (min x.1 MOST_TOLD)) (cond b (Some (k, q', m)) (find (λ (x : Kind × ℕ × ℕ). nat_lt x.2 x.1) rest'))) test

capped_alike : (a : ℕ) → min (capped a) MOST_TOLD ≡ min a MOST_TOLD
capped_alike a = omega arith

capped_step : (k : Kind) (c a n m : ℕ) (rest rest' : List (Kind × ℕ × ℕ)) → m < MOST_TOLD → c ≡ capped a → n ≡ a → over_limit rest ≡ over_limit rest' → over_limit ((k, c, m) ∷ rest) ≡ over_limit ((k, n, m) ∷ rest')
capped_step k c a n m rest rest' small is same h =
    over_step k c n m rest rest' (ap (nat_lt m) is ∙ passes_alike m a small ∙ ap (nat_lt m) (sym same)) (ap (λ (x : ℕ). min x MOST_TOLD) is ∙ capped_alike a ∙ ap (λ (x : ℕ). min x MOST_TOLD) (sym same)) h

pub limits_alike : (most : Most) → AreLimits most → (s : Source) (top : ℕ) (c : Count) → IsCount s top c →
    over_limit ((kind.Scopes, c.scopes, most.scopes) ∷ (kind.Depth, c.depth, MOST_DEPTH) ∷ (kind.Leaves, c.leaves, most.leaves) ∷ (kind.Inner, c.inner, most.inner) ∷ []) ≡ limit_refusal most s top
limits_alike most kept s top c h =
    let inner = capped_step kind.Inner c.inner (all_in s top).inner (length (hierarchy_of s top).inner) most.inner [] [] (omega (arith, kept.inner)) h.inner (hierarchy-inner s top) refl in
    let leaves = capped_step kind.Leaves c.leaves (all_in s top).leaves (length (hierarchy_of s top).leaves) most.leaves ((kind.Inner, c.inner, most.inner) ∷ []) ((kind.Inner, length (hierarchy_of s top).inner, most.inner) ∷ [])
    (omega (arith, kept.leaves)) h.leaves (hierarchy-leaves s top) inner in
    let deep = over_step kind.Depth c.depth (depth s (length s.modules) top) MOST_DEPTH ((kind.Leaves, c.leaves, most.leaves) ∷ (kind.Inner, c.inner, most.inner) ∷ [])
    ((kind.Leaves, length (hierarchy_of s top).leaves, most.leaves) ∷ (kind.Inner, length (hierarchy_of s top).inner, most.inner) ∷ []) (ap (nat_lt MOST_DEPTH) h.depth) (ap (λ (x : ℕ). min x MOST_TOLD) h.depth) leaves in
    capped_step kind.Scopes c.scopes (all_in s top).scopes (length (hierarchy_of s top).scopes) most.scopes ((kind.Depth, c.depth, MOST_DEPTH) ∷ (kind.Leaves, c.leaves, most.leaves) ∷ (kind.Inner, c.inner, most.inner) ∷ [])
    ((kind.Depth, depth s (length s.modules) top, MOST_DEPTH) ∷ (kind.Leaves, length (hierarchy_of s top).leaves, most.leaves) ∷ (kind.Inner, length (hierarchy_of s top).inner, most.inner) ∷ []) (omega (arith, kept.scopes)) h.scopes (hierarchy-scopes s top) deep

-- the top is counted
pub top_counted : (s : Source) (order : List ℕ) (table : List Count) (top : ℕ) → HoldsAll s order → AreCounted s order (length order) table → top < length s.modules → is_stub s (module_at s top) ≡ false →
    IsCount s top (slice_index_or table top no_count)
top_counted s order table top whole counted inside live =
    let at = whole top inside live in
    subst (λ (k : ℕ). IsCount s k (slice_index_or table k no_count)) at.2 (counted.each at.0 at.1)

-- the refusal by the count of the top is that of its limits
pub judged : (most : Most) → AreLimits most → (s : Source) (order : List ℕ) (table : List Count) (top : ℕ) (x : Count) (r : Option Refusal) → HoldsAll s order → AreCounted s order (length order) table → length table ≡ length s.modules →
    top < length s.modules → is_stub s (module_at s top) ≡ false → x ≡ slice_index_or table top x →
    r ≡ over_limit ((kind.Scopes, x.scopes, most.scopes) ∷ (kind.Depth, x.depth, MOST_DEPTH) ∷ (kind.Leaves, x.leaves, most.leaves) ∷ (kind.Inner, x.inner, most.inner) ∷ []) → limit_refusal most s top ≡ r
judged most kept s order table top x r whole counted size inside live is e =
    let within : top < length table = omega arith in
    let at : x ≡ slice_index_or table top no_count = get_or_read table top x within is no_count in
    let one : IsCount s top x = subst (λ (c : Count). IsCount s top c) (sym at) (top_counted s order table top whole counted inside live) in
    sym (limits_alike most kept s top x one) ∙ sym e
