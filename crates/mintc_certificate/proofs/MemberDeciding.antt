-- Whether a line is one of a certificate's chain.
use Rattle.std.proofs.Common.{◌≡◌, ◌≢◌, ℕ, ◌≤◌, List, [], ◌∷◌, length, refl, ◌⊎◌, inl, inr, All}
use Rattle.std.proofs.lemmas.List.Elements.{All-nil, All-cons, All-head, All-tail}
use Rattle.mintc_text.specs.declared.limits.TheConstants.{MOST_COUNT}
use Rattle.mintc_timing_text.specs.Fields.{IsCount, Spells}
use Rattle.mintc_timing_text.proofs.SharedDeciding.{Decided, same_decided, both_decided, most_decided, Searched, searched_as, searched_both, searched_either, searched_numbers, searched_texts, AreUpTo}
use Rattle.mintc_timing_text.proofs.SharedEachText.{spelled_by}
use Rattle.mintc_certificate.specs.declared.members.Member.{Member}
use Rattle.mintc_certificate.specs.declared.members.Member.TheVariants as member
use Rattle.mintc_certificate.specs.declared.version.Version.{Version}
use Rattle.mintc_certificate.specs.declared.version.Version.TheVariants.{First, Second}
use Rattle.mintc_certificate.specs.CertificateText.{IsCounted, IsMemberOf, IsMemberLine, member_words}

-- what is made of a value within bounds
abbrev IsMade : {X : Type 0} → (X → Type 0) → (X → Member) → Member → Type 0
IsMade {X} B f m = (x : X) × B x × (f x ≡ m)

searched_made : {X : Type 0} (B : X → Type 0) (f : X → Member) → Searched B → Searched (IsMade B f)
searched_made B f search = searched_as B (IsMade B f) f (λ x h. (x, h, refl)) (λ m h. h) search

abbrev IsPath : List ℕ → Type 0
IsPath path = (length path ≤ MOST_COUNT) × AreUpTo MOST_COUNT path

abbrev IsPair : ℕ × ℕ → Type 0
IsPair p = IsCount p.0 × IsCount p.1

abbrev IsReach : (ℕ × ℕ) × List ℕ → Type 0
IsReach r = IsPair r.0 × IsPath r.1

abbrev reach : (ℕ × ℕ) × List ℕ → Member
reach r = member.Reach r.0.0 r.0.1 r.1

abbrev apart : ℕ × ℕ → Member
apart p = member.Apart p.0 p.1

abbrev One : (ℕ → Member) → Member → Type 0
One f = IsMade IsCount f

abbrev IsSome : Member → Type 0
IsSome m = One (λ n. member.Start n) m ⊎ (One (λ n. member.Cycle n) m ⊎ (One (λ n. member.Order n) m ⊎ (One (λ n. member.Span n) m ⊎ (One (λ n. member.Width n) m
    ⊎ (One (λ n. member.Opening n) m ⊎ (One (λ n. member.Opened n) m ⊎ (One (λ n. member.Setup n) m ⊎ (One (λ n. member.Bound n) m
    ⊎ (IsMade IsPair apart m ⊎ IsMade IsReach reach m)))))))))

counts : Searched IsCount
counts = searched_numbers MOST_COUNT

one : (f : ℕ → Member) → Searched (One f)
one f = searched_made IsCount f counts

searched_some : Searched IsSome
searched_some =
    searched_either (One (λ n. member.Start n)) _ (one (λ n. member.Start n))
    (searched_either (One (λ n. member.Cycle n)) _ (one (λ n. member.Cycle n))
    (searched_either (One (λ n. member.Order n)) _ (one (λ n. member.Order n))
    (searched_either (One (λ n. member.Span n)) _ (one (λ n. member.Span n))
    (searched_either (One (λ n. member.Width n)) _ (one (λ n. member.Width n))
    (searched_either (One (λ n. member.Opening n)) _ (one (λ n. member.Opening n))
    (searched_either (One (λ n. member.Opened n)) _ (one (λ n. member.Opened n))
    (searched_either (One (λ n. member.Setup n)) _ (one (λ n. member.Setup n))
    (searched_either (One (λ n. member.Bound n)) _ (one (λ n. member.Bound n))
    (searched_either (IsMade IsPair apart) (IsMade IsReach reach) (searched_made IsPair apart (searched_both IsCount IsCount counts counts))
    (searched_made IsReach reach (searched_both IsPair IsPath (searched_both IsCount IsCount counts counts) (searched_texts MOST_COUNT MOST_COUNT))))))))))))

up_to : (path : List ℕ) → All IsCount path → AreUpTo MOST_COUNT path
up_to [] h = tt
up_to (x ∷ path) h = (All-head IsCount x path h, up_to path (All-tail IsCount x path h))

is_some : (m : Member) → IsCounted m → IsSome m
is_some (member.Start n) h = inl (n, h, refl)
is_some (member.Cycle n) h = inr (inl (n, h, refl))
is_some (member.Order n) h = inr (inr (inl (n, h, refl)))
is_some (member.Span n) h = inr (inr (inr (inl (n, h, refl))))
is_some (member.Width n) h = inr (inr (inr (inr (inl (n, h, refl)))))
is_some (member.Opening n) h = inr (inr (inr (inr (inr (inl (n, h, refl))))))
is_some (member.Opened n) h = inr (inr (inr (inr (inr (inr (inl (n, h, refl)))))))
is_some (member.Setup n) h = inr (inr (inr (inr (inr (inr (inr (inl (n, h, refl))))))))
is_some (member.Bound n) h = inr (inr (inr (inr (inr (inr (inr (inr (inl (n, h, refl)))))))))
is_some (member.Apart i j) h = inr (inr (inr (inr (inr (inr (inr (inr (inr (inl ((i, j), (h.0, h.1), refl))))))))))
is_some (member.Reach j l path) h = inr (inr (inr (inr (inr (inr (inr (inr (inr (inr (((j, l), path), ((h.0, h.1), (h.2, up_to path h.4)), refl))))))))))

count_is_decided : (n : ℕ) → Decided (IsCount n)
count_is_decided n = most_decided n MOST_COUNT

each_decided : (path : List ℕ) → Decided (All IsCount path)
each_decided [] = inl (All-nil IsCount)
each_decided (x ∷ path) = same_decided (λ h. All-cons IsCount x path h.0 h.1) (λ h. (All-head IsCount x path h, All-tail IsCount x path h))
    (both_decided (count_is_decided x) (each_decided path))

some_decided : (path : List ℕ) → Decided (path ≢ [])
some_decided [] = inr (λ some. some refl)
some_decided (x ∷ path) = inl (λ same. cc same)

counted_decided : (m : Member) → Decided (IsCounted m)
counted_decided (member.Start n) = count_is_decided n
counted_decided (member.Cycle n) = count_is_decided n
counted_decided (member.Order n) = count_is_decided n
counted_decided (member.Span n) = count_is_decided n
counted_decided (member.Width n) = count_is_decided n
counted_decided (member.Opening n) = count_is_decided n
counted_decided (member.Opened n) = count_is_decided n
counted_decided (member.Setup n) = count_is_decided n
counted_decided (member.Bound n) = count_is_decided n
counted_decided (member.Apart i j) = both_decided (count_is_decided i) (count_is_decided j)
counted_decided (member.Reach j l path) = same_decided (λ h. (h.0, h.1.0, h.1.1.0, h.1.1.1.0, h.1.1.1.1)) (λ h. (h.0, (h.1, (h.2, (h.3, h.4)))))
    (both_decided (count_is_decided j) (both_decided (count_is_decided l) (both_decided (count_is_decided (length path)) (both_decided (some_decided path) (each_decided path)))))

of_decided : (v : Version) (m : Member) → Decided (IsMemberOf v m)
of_decided First (member.Opened l) = inr (λ h. h)
of_decided First (member.Start n) = inl tt
of_decided First (member.Cycle n) = inl tt
of_decided First (member.Order n) = inl tt
of_decided First (member.Span n) = inl tt
of_decided First (member.Width n) = inl tt
of_decided First (member.Opening n) = inl tt
of_decided First (member.Setup n) = inl tt
of_decided First (member.Bound n) = inl tt
of_decided First (member.Apart i j) = inl tt
of_decided First (member.Reach j l path) = inl tt
of_decided Second m = inl tt

pub member_decided : (v : Version) (line : List ℕ) → Decided ((m : Member) × Spells (IsMemberLine v) m line)
member_decided v = spelled_by (IsMemberLine v) IsSome (λ m. IsCounted m × IsMemberOf v m) member_words searched_some
    (λ m. both_decided (counted_decided m) (of_decided v m))
    (λ m ws h. (is_some m h.counted, (h.counted, h.has), h.spelled))
    (λ m b r. record { counted = r.0; has = r.1; spelled = refl })
