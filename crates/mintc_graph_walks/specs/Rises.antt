-- what arcs that are relaxed leave, and a pass over all of them
use Rattle.std.specs.Prelude.{◌≡◌, ◌≢◌, ℕ, zero, suc, ℤ, ◌+◌, ◌-◌, ◌*◌, ◌^◌, ◌+ℤ◌, ◌≤ℤ◌, ◌<ℤ◌, ◌<◌, List, length}
use Rattle.std.specs.Prelude.{slice_index, Option, IfSome, IfNone}
use Rattle.mintc_graph_walks.specs.declared.network.Arc.{Arc}
use Rattle.mintc_graph_walks.specs.declared.network.TheConstants.{NONE}
use Rattle.mintc_graph_walks.specs.declared.rise.Direction.{Direction}
use Rattle.mintc_graph_walks.specs.declared.rise.Direction.TheVariants.{Upwards, Downwards}
use Rattle.mintc_graph_walks.specs.Bounds.{AreBounded}
use Rattle.mintc_graph_walks.specs.Walks.{arc_at, value_at, brought, IsStart, IsReached}

-- a walk of k arcs from a start leads to v and has the value x, the start's counted
abbrev pub Walk : List Arc → List ℤ → ℕ → ℕ → ℤ → Type 0
Walk arcs starts zero v x = IsStart starts v × (value_at starts v ≡ x)
Walk arcs starts (suc k) v x = (e : ℕ) × (y : ℤ) × (e < length arcs) × Walk arcs starts k (arc_at arcs e).from y ×
    ((arc_at arcs e).to ≡ v) × (y +ℤ (arc_at arcs e).weight ≡ x)

-- Arc a raised v last: v's value is at most what a brings now, and where it is as much, v is younger than a's
-- beginning.
pub record IsTended (values : List ℤ) (age : ℕ → ℕ) (v : ℕ) (a : Arc) : Type 0 where
  pub ends : a.to ≡ v
  pub inside : a.from < length values
  pub reached : IsReached values a.from
  pub brings : value_at values v ≤ℤ brought values a
  pub younger : value_at values v ≡ brought values a → age a.from < age v

-- What holds after each raise, at these ages of the nodes: a node that was never raised has its start's value, any
-- other is tended by the arc that raised it last, and each reached node has the value of some walk.
pub record AreTended (arcs : List Arc) (starts values : List ℤ) (before : List ℕ) (age : ℕ → ℕ) : Type 0 where
  pub unraised : (v : ℕ) → v < length values → slice_index before v ≡ NONE → value_at values v ≡ value_at starts v
  pub numbered : (v : ℕ) → v < length values → slice_index before v ≢ NONE → slice_index before v < length arcs
  pub tended : (v : ℕ) → v < length values → slice_index before v ≢ NONE →
      IsTended values age v (arc_at arcs (slice_index before v))
  pub walked : (v : ℕ) → v < length values → IsReached values v → (k : ℕ) × Walk arcs starts k v (value_at values v)

-- it holds at some ages, which no code keeps
abbrev pub SomeAge : List Arc → List ℤ → List ℤ → List ℕ → Type 0
SomeAge arcs starts values before = (age : ℕ → ℕ) × AreTended arcs starts values before age

-- what relaxing n arcs leaves, whichever they are
pub record HasRelaxed (arcs : List Arc) (n : ℕ) (old : List ℤ) (old_before : List ℕ) (new : List ℤ)
    (before : List ℕ) : Type 0 where
  pub tended : (starts : List ℤ) → length starts ≡ length old →
      SomeAge arcs starts old old_before → SomeAge arcs starts new before
  pub bounded : (b : ℕ) → AreBounded b old → AreBounded (b + n * 2 ^ 80) new
  pub grows : (v : ℕ) → value_at old v ≤ℤ value_at new v

-- the number of the arc that a pass over n arcs takes after k others
abbrev pub turn : Direction → ℕ → ℕ → ℕ
turn Upwards n k = k
turn Downwards n k = n - (k + 1)

-- what relaxing i arcs leaves, each of them `order k` for some k below i, and the node that was raised last
pub record HasTaken (arcs : List Arc) (order : ℕ → ℕ) (i : ℕ) (old : List ℤ) (old_before : List ℕ) (new : List ℤ)
    (before : List ℕ) (raised : Option ℕ) : Type 0 where
  pub relaxed : HasRelaxed arcs i old old_before new before
  -- each arc's end has at least what the arc brought before
  pub carried : (k : ℕ) → k < i → IsReached old (arc_at arcs (order k)).from →
      IsReached new (arc_at arcs (order k)).to ×
      (brought old (arc_at arcs (order k)) ≤ℤ value_at new (arc_at arcs (order k)).to)
  pub risen : IfSome raised (λ v. (v < length old) × (value_at old v <ℤ value_at new v))
  pub still : IfNone raised (new ≡ old)

-- what a pass over all arcs leaves, whatever the order in which it takes them
abbrev pub HasPassed : List Arc → List ℤ → List ℕ → List ℤ → List ℕ → Option ℕ → Type 0
HasPassed arcs = HasTaken arcs (λ e. e) (length arcs)
