-- What a ring of links is and what it shows rest on no link's kind.
use Rattle.std.proofs.Common.{◌≡◌, ◌<◌, ℕ, ℤ, pos, ◌+ℤ◌, List, [], ◌∷◌, length, get_or, map, arith, refl, ap, sym, ◌∙◌, subst, ◌↔◌}
use Rattle.std.proofs.lemmas.List.{length-map, get_or-map}
use Rattle.mintc_timing.specs.declared.link.Link.{Link}
use Rattle.mintc_graph.specs.Rings.{IsClosed, Joins, total}
use Rattle.mintc_timing.specs.Links.{IsStuck, IsTight, link_at, no_link}
use Rattle.mintc_optimise.specs.Beginning.{AskTheSame, BeginsFirst}
use Rattle.mintc_optimise.proofs.SharedCertificateLaws.{IsRound}
use Rattle.mintc_safe.specs.SafeOptimum.{bare}

total-bare : (f : Link → ℤ) → ((k : Link) → f (bare k) ≡ f k) → (ks : List Link) → total f (map bare ks) ≡ total f ks
total-bare f same [] = refl
total-bare f same (k ∷ ks) = ap (λ (x : ℤ). x +ℤ total f (map bare ks)) (same k) ∙ ap (λ (x : ℤ). f k +ℤ x) (total-bare f same ks)

Joins-bare : (a b : ℕ) (ks : List Link) → Joins (λ (k : Link). k.from) (λ (k : Link). k.to) a (map bare ks) b ↔ Joins (λ (k : Link). k.from) (λ (k : Link). k.to) a ks b
Joins-bare a b [] = ((λ h. h), (λ h. h))
Joins-bare a b (k ∷ ks) = let rest = Joins-bare k.to b ks in ((λ h. (h.0, rest.0 h.1)), (λ h. (h.0, rest.1 h.1)))

-- The links lead round.
abbrev AreClosed : List Link → Type 0
AreClosed ks = IsClosed (λ (k : Link). k.from) (λ (k : Link). k.to) ks

closed-bare : (ks : List Link) → AreClosed (map bare ks) ↔ AreClosed ks
closed-bare [] = ((λ h. h), (λ h. h))
closed-bare (k ∷ ks) = Joins-bare k.to k.from ks

-- Of two lists that differ in kinds alone, what holds of the one holds of the other.
module _ (ks ls : List Link) (same : map bare ks ≡ map bare ls) where
  same_total : (f : Link → ℤ) → ((k : Link) → f (bare k) ≡ f k) → total f ks ≡ total f ls
  same_total f is = sym (total-bare f is ks) ∙ ap (λ (x : List Link). total f x) same ∙ total-bare f is ls

  pub same_tight : (num den : ℤ) → IsTight ls num den → IsTight ks num den
  same_tight num den h =
      let delay = same_total (λ k. k.delay) (λ k. refl) in
      let turns = same_total (λ k. pos k.cycles) (λ k. refl) in
      record { turns = rw turns h.turns; tight = rw (delay, turns) h.tight }

  pub same_stuck : IsStuck ls → IsStuck ks
  same_stuck h = record { turns = same_total (λ k. pos k.cycles) (λ k. refl) ∙ h.turns; stuck = rw (same_total (λ k. k.delay) (λ k. refl)) h.stuck }

  same_length : length ks ≡ length ls
  same_length = sym (length-map ks bare) ∙ ap (λ (x : List Link). length x) same ∙ length-map ls bare

  -- the nodes that the links enter
  to_at : (i : ℕ) (d : Link) → i < length ks → (get_or ks i d).to ≡ (get_or ls i d).to
  to_at i d h =
      let count = same_length in
      ap (λ (k : Link). k.to) (sym (get_or-map bare ks i d d h)) ∙ ap (λ (x : List Link). (get_or x i d).to) same ∙ ap (λ (k : Link). k.to) (get_or-map bare ls i d d (omega arith))

  pub same_round : IsRound ls → IsRound ks
  same_round h =
      let count = same_length in
      record {
        closed = (closed-bare ks).0 (subst AreClosed (sym same) ((closed-bare ls).1 h.closed));
        once = λ i j d less inside e. h.once i j d less (omega arith) (sym (to_at i d (omega arith)) ∙ e ∙ to_at j d inside);
        some = omega arith;
        most = omega arith;
      }

  bare_at : (i : ℕ) (d e : Link) → i < length ks → bare (get_or ks i d) ≡ bare (get_or ls i e)
  bare_at i d e h =
      let count = same_length in
      sym (get_or-map bare ks i d d h) ∙ ap (λ (x : List Link). get_or x i d) same ∙ get_or-map bare ls i e d (omega arith)

  same_asked : (k x y : Link) → bare x ≡ bare y → AskTheSame k x → AskTheSame k y
  same_asked k x y is h =
      (h.0 ∙ ap (λ (z : Link). z.from) is, h.1 ∙ ap (λ (z : Link). z.to) is, h.2 ∙ ap (λ (z : Link). z.delay) is, h.3 ∙ ap (λ (z : Link). z.cycles) is)

  pub same_beginning : (links : List Link) → BeginsFirst links ls → BeginsFirst links ks
  same_beginning links h =
      let first = h.1 in
      let count = same_length in
      let inside : 0 < length ks = omega (arith, count, first.inside) in (
        h.0,
        record {
          inside = inside;
          listed = first.listed;
          same = same_asked (link_at links h.0) (link_at ls 0) (link_at ks 0) (sym (bare_at 0 no_link no_link inside)) first.same;
          none_before = λ e less i d there asked. first.none_before e less i d (omega (arith, count, there)) (same_asked (link_at links e) (get_or ks i d) (get_or ls i d) (bare_at i d d there) asked);
        },
      )
