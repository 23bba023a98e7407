-- What values tell of a delay, one after the other.
use Rattle.std.proofs.Common.{◌≡◌, ℕ, suc, ◌+◌, ◌<◌, ◌≤◌, true, false, if◌then◌else◌, List, [], ◌∷◌, ◌++◌, length, get_or, drop, drop-cons, add-one, Option, Some, None, is_some, option_and_then, sym, ap, ◌∙◌, append_assoc, append-nil}
use Rattle.std.specs.List.{list_any}
use Rattle.std.proofs.Math.ListN.{drop_of_length-le}
use Rattle.mintc_sdf.specs.declared.delays.Delay.{Delay}
use Rattle.mintc_sdf_edges.specs.declared.delays.Edges.{Edges}
use Rattle.mintc_sdf_edges.specs.declared.delays.EdgeDelay.{EdgeDelay}
use Rattle.mintc_sdf_edges.specs.Edges.{speaks}
use Rattle.mintc_sdf_edges.specs.Spans.{Span}
use Rattle.mintc_sdf_edges.specs.Telling.{Progress, told_one, told, take_next, keep, keep_each}

-- one value more
pub told-step : (d : Delay) (e : Edges) (n place : ℕ) (ss : List Span) (old new whole : List EdgeDelay) → place < length ss → whole ≡ old ++ told d e n place (drop place ss) →
    new ≡ old ++ told_one d e (speaks n place) (get_or ss place None) → whole ≡ new ++ told d e n (place + 1) (drop (place + 1) ss)
told-step d e n place ss old new whole h f g =
    f
    ∙ ap (λ l. old ++ told d e n place l) (drop-cons ss place None h)
    ∙ sym (append_assoc old (told_one d e (speaks n place) (get_or ss place None)) (told d e n (suc place) (drop (suc place) ss)))
    ∙ ap (λ l. l ++ told d e n (suc place) (drop (suc place) ss)) (sym g)
    ∙ ap (λ k. new ++ told d e n k (drop k ss)) (sym (add-one place))

pub told-end : (d : Delay) (e : Edges) (n place : ℕ) (ss : List Span) (old whole : List EdgeDelay) → length ss ≤ place → whole ≡ old ++ told d e n place (drop place ss) → old ≡ whole
told-end d e n place ss old whole h f = sym (f ∙ ap (λ l. old ++ told d e n place l) (drop_of_length-le ss h) ∙ append-nil old)

-- nothing is told where no value has a number
pub keep-silent : (e : Edges) (ss : List Span) (p : Progress) → list_any is_some ss ≡ false → keep e ss p ≡ Some p
keep-silent e ss p f = ap (λ b. if b then take_next e ss p p.left else Some p) f

pub keep-none : (e : Edges) (ss : List Span) (p : Progress) → list_any is_some ss ≡ true → p.left ≡ [] → keep e ss p ≡ None
keep-none e ss p f g = ap (λ b. if b then take_next e ss p p.left else Some p) f ∙ ap (take_next e ss p) g

pub keep-some : (e : Edges) (ss : List Span) (p : Progress) (d : Delay) (ds : List Delay) → list_any is_some ss ≡ true → p.left ≡ d ∷ ds →
    keep e ss p ≡ Some (record { scale = p.scale; left = ds; found = p.found ++ told d e (length ss) 0 ss })
keep-some e ss p d ds f g = ap (λ b. if b then take_next e ss p p.left else Some p) f ∙ ap (take_next e ss p) g

-- values of which each is said of another subject
pub each-step : (e : Edges) (s : Span) (ss : List Span) (p : Progress) (o : Option Progress) → keep e (s ∷ []) p ≡ o → keep_each e (s ∷ ss) p ≡ option_and_then (keep_each e ss) o
each-step e s ss p o f = ap (option_and_then (keep_each e ss)) f
