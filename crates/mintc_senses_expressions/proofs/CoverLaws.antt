-- The sense of a name covers what an expression does when that name alone changes.
use Rattle.std.proofs.Common.{◌≡◌, ℕ, Bool, true, false, not, ◌&&◌, ◌||◌, if◌then◌else◌, List, bytes_eq, refl, sym, ap, ◌∙◌}
use Rattle.mintc_senses_expressions.specs.declared.transitions.Transitions.{Transitions}
use Rattle.mintc_senses_expressions.specs.Transitions.{has, no_transitions, same_edges, all_transitions, turned, together, has_some, all_if_some}
use Rattle.mintc_senses_expressions.specs.Expressions.{Expression, named, fixed, inverse, both, either, exclusive, value_of, sense, changed, CoverChanges}

or-true : (b : Bool) → (b || true) ≡ true
or-true true = refl
or-true false = refl

not-swap : (a b : Bool) → not a ≡ b → a ≡ not b
not-swap true true p = cc
not-swap true false p = refl
not-swap false true p = refl
not-swap false false p = cc

has-turned : (t : Transitions) (i o : Bool) → has (turned t) i o ≡ has t i (not o)
has-turned t true true = refl
has-turned t true false = refl
has-turned t false true = refl
has-turned t false false = refl

has-together : (s t : Transitions) (i o : Bool) → has (together s t) i o ≡ (has s i o || has t i o)
has-together s t true true = refl
has-together s t true false = refl
has-together s t false true = refl
has-together s t false false = refl

has-all : (i o : Bool) → has all_transitions i o ≡ true
has-all true true = refl
has-all true false = refl
has-all false true = refl
has-all false false = refl

-- one of four
first-of : (a b c d : Bool) → a ≡ true → ((a || b) || (c || d)) ≡ true
first-of a b c d h = ap (λ v. (v || b) || (c || d)) h

second-of : (a b c d : Bool) → b ≡ true → ((a || b) || (c || d)) ≡ true
second-of a b c d h = ap (λ v. (a || v) || (c || d)) h ∙ ap (λ v. v || (c || d)) (or-true a)

third-of : (a b c d : Bool) → c ≡ true → ((a || b) || (c || d)) ≡ true
third-of a b c d h = ap (λ v. (a || b) || (v || d)) h ∙ or-true (a || b)

fourth-of : (a b c d : Bool) → d ≡ true → ((a || b) || (c || d)) ≡ true
fourth-of a b c d h = ap (λ v. (a || b) || (c || v)) h ∙ ap (λ v. (a || b) || v) (or-true c) ∙ or-true (a || b)

some-has : (t : Transitions) (i o : Bool) → has t i o ≡ true → has_some t ≡ true
some-has t true true h = first-of t.rise_to_rise t.rise_to_fall t.fall_to_rise t.fall_to_fall h
some-has t true false h = second-of t.rise_to_rise t.rise_to_fall t.fall_to_rise t.fall_to_fall h
some-has t false true h = third-of t.rise_to_rise t.rise_to_fall t.fall_to_rise t.fall_to_fall h
some-has t false false h = fourth-of t.rise_to_rise t.rise_to_fall t.fall_to_rise t.fall_to_fall h

all-has : (t : Transitions) (i u o : Bool) → has t i u ≡ true → has (all_if_some t) i o ≡ true
all-has t i u o h = ap (λ b. has (if b then all_transitions else no_transitions) i o) (some-has t i u h) ∙ has-all i o

abbrev differ : Bool → Bool → Bool
differ a b = if a then not b else b

-- a name: it goes as the changed one does, or stays
named-changes : (c v i o : Bool) → (if c then not i else v) ≡ not o → (if c then i else v) ≡ o → has (if c then same_edges else no_transitions) i o ≡ true
named-changes true v true true p q = refl
named-changes true v true false p q = cc
named-changes true v false true p q = cc
named-changes true v false false p q = refl
named-changes false v i true p q = cc
named-changes false v i false p q = cc

fixed-stays : (b i o : Bool) → b ≡ not o → b ≡ o → has no_transitions i o ≡ true
fixed-stays b i true p q = cc
fixed-stays b i false p q = cc

-- where an and changes, one of its sides changes the same way
both-changes : (o a b c d x y : Bool) → (a ≡ not o → c ≡ o → x ≡ true) → (b ≡ not o → d ≡ o → y ≡ true) → (a && b) ≡ not o → (c && d) ≡ o → (x || y) ≡ true
both-changes true true true true true x y f g p q = cc
both-changes true true true true false x y f g p q = cc
both-changes true true true false true x y f g p q = cc
both-changes true true true false false x y f g p q = cc
both-changes true true false true true x y f g p q = ap (λ v. x || v) (g refl refl) ∙ or-true x
both-changes true true false true false x y f g p q = cc
both-changes true true false false true x y f g p q = cc
both-changes true true false false false x y f g p q = cc
both-changes true false true true true x y f g p q = ap (λ v. v || y) (f refl refl)
both-changes true false true true false x y f g p q = cc
both-changes true false true false true x y f g p q = cc
both-changes true false true false false x y f g p q = cc
both-changes true false false true true x y f g p q = ap (λ v. v || y) (f refl refl)
both-changes true false false true false x y f g p q = cc
both-changes true false false false true x y f g p q = cc
both-changes true false false false false x y f g p q = cc
both-changes false true true true true x y f g p q = cc
both-changes false true true true false x y f g p q = ap (λ v. x || v) (g refl refl) ∙ or-true x
both-changes false true true false true x y f g p q = ap (λ v. v || y) (f refl refl)
both-changes false true true false false x y f g p q = ap (λ v. v || y) (f refl refl)
both-changes false true false true true x y f g p q = cc
both-changes false true false true false x y f g p q = cc
both-changes false true false false true x y f g p q = cc
both-changes false true false false false x y f g p q = cc
both-changes false false true true true x y f g p q = cc
both-changes false false true true false x y f g p q = cc
both-changes false false true false true x y f g p q = cc
both-changes false false true false false x y f g p q = cc
both-changes false false false true true x y f g p q = cc
both-changes false false false true false x y f g p q = cc
both-changes false false false false true x y f g p q = cc
both-changes false false false false false x y f g p q = cc

-- where an or changes, one of its sides changes the same way
either-changes : (o a b c d x y : Bool) → (a ≡ not o → c ≡ o → x ≡ true) → (b ≡ not o → d ≡ o → y ≡ true) → (a || b) ≡ not o → (c || d) ≡ o → (x || y) ≡ true
either-changes true true true true true x y f g p q = cc
either-changes true true true true false x y f g p q = cc
either-changes true true true false true x y f g p q = cc
either-changes true true true false false x y f g p q = cc
either-changes true true false true true x y f g p q = cc
either-changes true true false true false x y f g p q = cc
either-changes true true false false true x y f g p q = cc
either-changes true true false false false x y f g p q = cc
either-changes true false true true true x y f g p q = cc
either-changes true false true true false x y f g p q = cc
either-changes true false true false true x y f g p q = cc
either-changes true false true false false x y f g p q = cc
either-changes true false false true true x y f g p q = ap (λ v. v || y) (f refl refl)
either-changes true false false true false x y f g p q = ap (λ v. v || y) (f refl refl)
either-changes true false false false true x y f g p q = ap (λ v. x || v) (g refl refl) ∙ or-true x
either-changes true false false false false x y f g p q = cc
either-changes false true true true true x y f g p q = cc
either-changes false true true true false x y f g p q = cc
either-changes false true true false true x y f g p q = cc
either-changes false true true false false x y f g p q = ap (λ v. v || y) (f refl refl)
either-changes false true false true true x y f g p q = cc
either-changes false true false true false x y f g p q = cc
either-changes false true false false true x y f g p q = cc
either-changes false true false false false x y f g p q = ap (λ v. v || y) (f refl refl)
either-changes false false true true true x y f g p q = cc
either-changes false false true true false x y f g p q = cc
either-changes false false true false true x y f g p q = cc
either-changes false false true false false x y f g p q = ap (λ v. x || v) (g refl refl) ∙ or-true x
either-changes false false false true true x y f g p q = cc
either-changes false false false true false x y f g p q = cc
either-changes false false false false true x y f g p q = cc
either-changes false false false false false x y f g p q = cc

-- where an exclusive or changes, one of its sides changes in some way
exclusive-changes : (o a b c d : Bool) (x y : Bool → Bool) → ((u : Bool) → a ≡ not u → c ≡ u → x u ≡ true) → ((u : Bool) → b ≡ not u → d ≡ u → y u ≡ true) → differ a b ≡ not o → differ c d ≡ o → (u : Bool) × ((x u || y u) ≡ true)
exclusive-changes true true true true true x y f g p q = absurd cc
exclusive-changes true true true true false x y f g p q = (false, ap (λ v. x false || v) (g false refl refl) ∙ or-true (x false))
exclusive-changes true true true false true x y f g p q = (false, ap (λ v. v || y false) (f false refl refl))
exclusive-changes true true true false false x y f g p q = absurd cc
exclusive-changes true true false true true x y f g p q = absurd cc
exclusive-changes true true false true false x y f g p q = absurd cc
exclusive-changes true true false false true x y f g p q = absurd cc
exclusive-changes true true false false false x y f g p q = absurd cc
exclusive-changes true false true true true x y f g p q = absurd cc
exclusive-changes true false true true false x y f g p q = absurd cc
exclusive-changes true false true false true x y f g p q = absurd cc
exclusive-changes true false true false false x y f g p q = absurd cc
exclusive-changes true false false true true x y f g p q = absurd cc
exclusive-changes true false false true false x y f g p q = (true, ap (λ v. v || y true) (f true refl refl))
exclusive-changes true false false false true x y f g p q = (true, ap (λ v. x true || v) (g true refl refl) ∙ or-true (x true))
exclusive-changes true false false false false x y f g p q = absurd cc
exclusive-changes false true true true true x y f g p q = absurd cc
exclusive-changes false true true true false x y f g p q = absurd cc
exclusive-changes false true true false true x y f g p q = absurd cc
exclusive-changes false true true false false x y f g p q = absurd cc
exclusive-changes false true false true true x y f g p q = (true, ap (λ v. x true || v) (g true refl refl) ∙ or-true (x true))
exclusive-changes false true false true false x y f g p q = absurd cc
exclusive-changes false true false false true x y f g p q = absurd cc
exclusive-changes false true false false false x y f g p q = (false, ap (λ v. v || y false) (f false refl refl))
exclusive-changes false false true true true x y f g p q = (true, ap (λ v. v || y true) (f true refl refl))
exclusive-changes false false true true false x y f g p q = absurd cc
exclusive-changes false false true false true x y f g p q = absurd cc
exclusive-changes false false true false false x y f g p q = (false, ap (λ v. x false || v) (g false refl refl) ∙ or-true (x false))
exclusive-changes false false false true true x y f g p q = absurd cc
exclusive-changes false false false true false x y f g p q = absurd cc
exclusive-changes false false false false true x y f g p q = absurd cc
exclusive-changes false false false false false x y f g p q = absurd cc

pub covers : (n : List ℕ) (e : Expression) → CoverChanges n e (sense n e)
covers n (named m) values i o p q = named-changes (bytes_eq m n) (values m) i o p q
covers n (fixed b) values i o p q = fixed-stays b i o p q
covers n (inverse e) values i o p q =
    has-turned (sense n e) i o
    ∙ covers n e values i (not o) (not-swap (value_of (changed values n (not i)) e) (not o) p) (not-swap (value_of (changed values n i) e) o q)
covers n (both e f) values i o p q =
    has-together (sense n e) (sense n f) i o
    ∙ both-changes o (value_of (changed values n (not i)) e) (value_of (changed values n (not i)) f) (value_of (changed values n i) e) (value_of (changed values n i) f)
    (has (sense n e) i o) (has (sense n f) i o) (covers n e values i o) (covers n f values i o) p q
covers n (either e f) values i o p q =
    has-together (sense n e) (sense n f) i o
    ∙ either-changes o (value_of (changed values n (not i)) e) (value_of (changed values n (not i)) f) (value_of (changed values n i) e) (value_of (changed values n i) f)
    (has (sense n e) i o) (has (sense n f) i o) (covers n e values i o) (covers n f values i o) p q
covers n (exclusive e f) values i o p q =
    let way = exclusive-changes o (value_of (changed values n (not i)) e) (value_of (changed values n (not i)) f) (value_of (changed values n i) e) (value_of (changed values n i) f)
    (has (sense n e) i) (has (sense n f) i) (covers n e values i) (covers n f values i) p q in
    all-has (together (sense n e) (sense n f)) i way.0 o (has-together (sense n e) (sense n f) i way.0 ∙ way.1)
