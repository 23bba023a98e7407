-- The links of each corner in turn are those of all corners side by side.
use Rattle.std.proofs.Common.{◌≡◌, ℕ, zero, suc, ◌<◌, ◌+◌, ◌*◌, ℤ, List, [], ◌∷◌, length, get_or, map, arith}
use Rattle.std.specs.List.{All, Contains}
use Rattle.std.proofs.lemmas.List.Elements.{All-append, All-contains_itself, All-map, All-nil, Contains-append_left, Contains-append_right}
use Rattle.mintc_timing.specs.declared.link.Link.{Link}
use Rattle.mintc_timing.specs.Design.{Timing, element_count, phase_count}
use Rattle.mintc_timing.specs.Links.{links_of}
use Rattle.mintc_timing.proofs.SharedByKind.{All-links, EachKind-from_all, stands}
use Rattle.mintc_timing.proofs.SharedMembers.{Contains-map}
use Rattle.mintc_corners.specs.Lifted.{lifted_link, widest}
use Rattle.mintc_corners.specs.CornerOptimum.{corner_of}
use Rattle.mintc_corners.specs.Joined.{joined, joined_links}
use Rattle.mintc_corners.specs.Joint.{AreCorners, joint_links_of, side_by_side}
use Rattle.mintc_corners.specs.Laws.{AreBeside, AreSystems}
use Rattle.mintc_corners.proofs.LiftLaws.{all_of_each, elements_before, one_of_all}

module _ (wide : ℕ → ℤ) (clock : ℕ) where
  abbrev own : ℕ → Timing → List Link
  own before t = map (lifted_link wide clock before) (links_of t)

  -- what holds of the links of each corner, numbered among all, holds of those of each in turn
  in_turn : (P : Link → Type 0) (none : Timing) (before : ℕ) (ts : List Timing) →
      ((c at : ℕ) → c < length ts → at ≡ before + elements_before ts c → All (λ k. P (lifted_link wide clock at k)) (links_of (get_or ts c none))) → All P (joined wide clock before ts)
  in_turn P none before [] each = All-nil P
  in_turn P none before (t ∷ ts) each = All-append P (own before t) (joined wide clock (before + element_count t.flat) ts)
      (All-map P (lifted_link wide clock before) (links_of t) (each 0 before (omega arith) (omega arith)))
      (in_turn P none (before + element_count t.flat) ts (λ c at below is. each (suc c) at (omega arith) (omega arith)))

  -- and each of those stands there
  stands_there : (none : Timing) (before : ℕ) (ts : List Timing) (c at : ℕ) → c < length ts → at ≡ before + elements_before ts c → (k : Link) → Contains (links_of (get_or ts c none)) k →
      Contains (joined wide clock before ts) (lifted_link wide clock at k)
  stands_there none before [] c at below is k h = absurd (omega arith)
  stands_there none before (t ∷ ts) zero at below is k h =
      let same : at ≡ before = omega arith in
      rw same (Contains-append_left (own before t) (joined wide clock (before + element_count t.flat) ts) (lifted_link wide clock before k) (Contains-map (lifted_link wide clock before) (links_of t) k h))
  stands_there none before (t ∷ ts) (suc c) at below is k h =
      Contains-append_right (own before t) (joined wide clock (before + element_count t.flat) ts) (lifted_link wide clock at k)
      (stands_there none (before + element_count t.flat) ts c at (omega arith) (omega arith) k h)

module _ (t : Timing) (ts : List Timing) (are : AreCorners (t ∷ ts)) (systems : AreSystems (t ∷ ts)) (besides : AreBeside t ts) where
  abbrev clock : ℕ
  clock = 2 * phase_count t.flat

  abbrev joint_link : ℕ → Link → Link
  joint_link at = lifted_link (widest (t ∷ ts)) clock at

  -- each joint link stands in the one list and in the other
  pub joined_listed : All (Contains (joint_links_of t ts)) (joined_links (t ∷ ts))
  joined_listed = in_turn (widest (t ∷ ts)) clock (Contains (joint_links_of t ts)) t 0 (t ∷ ts)
      (λ c at below is.
      let same : at ≡ elements_before (t ∷ ts) c = omega arith in
      rw same (All-links (corner_of t ts c) (λ k. Contains (joint_links_of t ts) (joint_link (elements_before (t ∷ ts) c) k))
      (one_of_all t ts are systems besides c below (Contains (joint_links_of t ts)) (stands (side_by_side t ts)))))

  pub links_joined : All (Contains (joined_links (t ∷ ts))) (joint_links_of t ts)
  links_joined = All-links (side_by_side t ts) (Contains (joined_links (t ∷ ts)))
      (all_of_each t ts are systems besides (Contains (joined_links (t ∷ ts)))
      (λ c below. EachKind-from_all (corner_of t ts c) (λ k. Contains (joined_links (t ∷ ts)) (joint_link (elements_before (t ∷ ts) c) k))
      (λ n d h. stands_there (widest (t ∷ ts)) clock t 0 (t ∷ ts) c (elements_before (t ∷ ts) c) below (omega arith) (get_or (links_of (corner_of t ts c)) n d)
      (All-contains_itself (links_of (corner_of t ts c)) n d h))))
