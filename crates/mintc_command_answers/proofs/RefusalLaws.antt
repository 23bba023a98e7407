-- A first refusal excludes other answers, and is one.
use Rattle.std.proofs.Common.{◌≡◌, ◌≤◌, ◌*◌, ℕ, suc, List, [], ◌∷◌, length, Some, None, false, ltb, refl, ap, ◌∙◌, sym, subst, inl, inr, ◌⊎◌, arith}
use Rattle.std.proofs.lemmas.Bool.Decides.{nat_tests}
use Rattle.std.proofs.lemmas.List.Elements.{All-head, All-tail}
use Rattle.std.proofs.lemmas.Slice.Zip.{AllZip-long}
use Rattle.mintc_text.specs.declared.limits.Most.{Most}
use Rattle.mintc_text.specs.declared.refusals.Refusal.{Refusal}
use Rattle.mintc_text.specs.declared.refusals.Refusal.TheVariants as refusal
use Rattle.mintc_text.specs.declared.refusals.Kind.TheVariants as kind
use Rattle.mintc_text.specs.declared.refusals.Role.{Role}
use Rattle.mintc_text.specs.declared.refusals.Role.TheVariants as role
use Rattle.mintc_timing.specs.declared.clocking.Schedule.{Schedule}
use Rattle.mintc_timing.specs.Design.{Design, Timing, element_count, phase_count}
use Rattle.mintc_timing.specs.Limits.{IsDesign, IsWithinLimits, limit_of}
use Rattle.mintc_timing_text.specs.TableText.{IsTableText, IsTableRefusal}
use Rattle.mintc_timing_text.specs.TextLaws.{HaveOneSchedule, HaveNoScheduleFault, HaveOneScheduleFault, HaveOneDesign, HaveNoTableFault, HaveOneTableFault}
use Rattle.mintc_build.specs.Designs.{IsDesignRefusal}
use Rattle.mintc_build.specs.FilesDesign.{described_by, library_by}
use Rattle.mintc_build.specs.Laws.{AcceptedAreNotRefused, ArePlain, DesignRefusalsAreDetermined, IsLoopRefusal}
use Rattle.mintc_certificate.specs.TextLaws.{HaveNoCertificateFault, HaveOneCertificateFault}
use Rattle.mintc_command_answers.specs.Answers.{IsDefined, IsFirstRefusal, IsContentAnswer, IsContentRefusal, IsRefusalOn, of_design, of_file, too_long, of_contents}
use Rattle.mintc_command_answers.specs.Contents.{content_roles, contents_of}
use Rattle.mintc_command_answers.specs.Corners.{AreGiven, IsFirstRefused, of_corner, of_elements, corners_of, elements_together}
use Rattle.mintc_command_answers.specs.Jobs.{IsFileRefused, IsJobAnswer, IsScheduleOf, IsScheduleRefused, out_of_form, other_phases}
use Rattle.mintc_command_answers.specs.Laws.{RefusalsExcludeAnswers, RefusalsAreDetermined}
use Rattle.mintc_command_answers.specs.Sources.{AreShort, Describes, Gives, HasNoDesign, IsLengthRefusal, IsSourceRefused, no_design, no_system, file_at, own_file}
use Rattle.mintc_command_answers.specs.declared.command.Command.{Command}
use Rattle.mintc_command_answers.specs.declared.command.Command.TheVariants.{OfDesign, Sample, Corners}
use Rattle.mintc_command_answers.specs.declared.command.Job.{Job}
use Rattle.mintc_command_answers.specs.declared.command.Job.TheVariants.{Check, Optimise, Verify, Report, Safe, Slack}
use Rattle.mintc_command_answers.specs.declared.command.Source.{Source}
use Rattle.mintc_command_answers.specs.declared.command.Source.TheVariants.{Table, Files, Liberty}
use Rattle.mintc_command_answers.specs.declared.status.Status.{Status}
use Rattle.mintc_command_answers.specs.declared.status.Status.TheVariants.{Done, Found, Refused, Usage, ReadFault, WriteFault, OutOfMemory}

-- In a run with these limits.
module _ (most : Most) where
  -- the laws of texts and of designs
  pub record AreTextLaws : Type 0 where
    pub one_schedule : HaveOneSchedule
    pub no_schedule_fault : HaveNoScheduleFault
    pub one_schedule_fault : HaveOneScheduleFault
    pub one_design : HaveOneDesign
    pub no_table_fault : HaveNoTableFault
    pub one_table_fault : HaveOneTableFault
    pub no_certificate_fault : HaveNoCertificateFault most.members
    pub one_certificate_fault : HaveOneCertificateFault most.members
    pub accepted : AcceptedAreNotRefused
    pub files : ArePlain described_by
    pub liberty : ArePlain library_by

  -- Within the limits none is passed.
  no_limit : (design : Design) (refused : Refusal) → IsDesign design → IsWithinLimits most design → limit_of most design ≡ Some refused → ⊥
  no_limit design refused limits within h =
      let inner : ltb most.inner (length design.inner) ≡ false = let low = within.inner in grind (arith, nat_tests, low) in
      let phases : ltb 8 (length design.phases) ≡ false = let low = limits.phases.1 in grind (arith, nat_tests, low) in
      let elements : ltb most.elements (length design.elements) ≡ false = let low = within.elements in grind (arith, nat_tests, low) in
      let arcs : ltb most.arcs (length design.arcs) ≡ false = let low = within.arcs in grind (arith, nat_tests, low) in
      let bounds : ltb 64 (length design.bounds) ≡ false = let low = limits.bounds in grind (arith, nat_tests, low) in
      let none : limit_of most design ≡ None = rw (inner, phases, elements, arcs, bounds) refl in
      let both : None ≡ Some refused = sym none ∙ h in
      cc

  -- Files within their length aren't refused for it, and the first that isn't is one.
  no_length : (roles : List Role) (files : List (List ℕ)) (refused : Refusal) → AreShort most files → IsLengthRefusal most roles files refused → ⊥
  no_length [] files refused short h = absurd h
  no_length (text ∷ roles) [] refused short h = absurd h
  no_length (text ∷ roles) (bytes ∷ files) refused short (inl h) =
      let long = h.0 in
      let here = All-head (λ (b : List ℕ). length b ≤ most.bytes) bytes files short in
      omega (arith, long, here)
  no_length (text ∷ roles) (bytes ∷ files) refused short (inr h) = no_length roles files refused (All-tail (λ (b : List ℕ). length b ≤ most.bytes) bytes files short) h.1

  one_length : (roles : List Role) (files : List (List ℕ)) (refused other : Refusal) → IsLengthRefusal most roles files refused → IsLengthRefusal most roles files other → refused ≡ other
  one_length [] files refused other a b = absurd a
  one_length (text ∷ roles) [] refused other a b = absurd a
  one_length (text ∷ roles) (bytes ∷ files) refused other (inl a) (inl b) = a.1 ∙ sym b.1
  one_length (text ∷ roles) (bytes ∷ files) refused other (inl a) (inr b) = let long = a.0 in let short = b.0 in absurd (omega (arith, long, short))
  one_length (text ∷ roles) (bytes ∷ files) refused other (inr a) (inl b) = let long = b.0 in let short = a.0 in absurd (omega (arith, long, short))
  one_length (text ∷ roles) (bytes ∷ files) refused other (inr a) (inr b) = one_length roles files refused other a.1 b.1

  -- The files of a source stand for one design. Where it is within the limits they have no refusal, and they have one at most.
  pub one_design : AreTextLaws → (source : Source) (files : List (List ℕ)) (design other : Design) → Describes most source files design → Describes most source files other → design ≡ other
  one_design law Table files design other a b = law.one_design (file_at files 0) design other a b
  one_design law Files files design other a b = law.files.one_design most (file_at files 0) (file_at files 1) (file_at files 2) (file_at files 3) design other a b
  one_design law Liberty files design other a b = law.liberty.one_design most (file_at files 0) (file_at files 1) (file_at files 2) (file_at files 3) design other a b

  no_table : AreTextLaws → (table : List ℕ) (design : Design) (refused : Refusal) → IsTableText table design → IsDesign design → IsWithinLimits most design → IsTableRefusal most table refused → ⊥
  no_table law table design refused text limits within (inl (n, named, fault)) = law.no_table_fault table design n text fault
  no_table law table design refused text limits within (inr (d, other, over)) =
      let same : d ≡ design = law.one_design table d design other text in
      no_limit design refused limits within (subst (λ (x : Design). limit_of most x ≡ Some refused) same over)

  no_refusal : AreTextLaws → (source : Source) (files : List (List ℕ)) (design : Design) (refused : Refusal) → Describes most source files design → IsDesign design → IsWithinLimits most design → HasNoDesign most source files refused → ⊥
  no_refusal law Table files design refused described limits within h = no_table law (file_at files 0) design refused described limits within h
  no_refusal law Files files design refused described limits within h =
      law.files.no_refusal most (file_at files 0) (file_at files 1) (file_at files 2) (file_at files 3) design refused described h
  no_refusal law Liberty files design refused described limits within h =
      law.liberty.no_refusal most (file_at files 0) (file_at files 1) (file_at files 2) (file_at files 3) design refused described h

  one_limit : (design : Design) (refused other : Refusal) → limit_of most design ≡ Some refused → limit_of most design ≡ Some other → refused ≡ other
  one_limit design refused other a b = let e : Some refused ≡ Some other = sym a ∙ b in cc

  one_table : AreTextLaws → (table : List ℕ) (refused other : Refusal) → IsTableRefusal most table refused → IsTableRefusal most table other → refused ≡ other
  one_table law table refused other (inl (n, a, fault)) (inl (m, b, other_fault)) =
      a ∙ ap (λ (k : ℕ). refusal.Syntax role.Table k) (law.one_table_fault table n m fault other_fault) ∙ sym b
  one_table law table refused other (inl (n, a, fault)) (inr (d, text, over)) = absurd (law.no_table_fault table d n text fault)
  one_table law table refused other (inr (d, text, over)) (inl (m, b, fault)) = absurd (law.no_table_fault table d m text fault)
  one_table law table refused other (inr (d, text, over)) (inr (e, other_text, other_over)) =
      let same : e ≡ d = law.one_design table e d other_text text in
      one_limit d refused other over (subst (λ (x : Design). limit_of most x ≡ Some other) same other_over)

  one_refusal : AreTextLaws → (source : Source) (files : List (List ℕ)) (refused other : Refusal) → HasNoDesign most source files refused → HasNoDesign most source files other → refused ≡ other
  one_refusal law Table files refused other a b = one_table law (file_at files 0) refused other a b
  one_refusal law Files files refused other a b =
      law.files.one_refusal most (file_at files 0) (file_at files 1) (file_at files 2) (file_at files 3) refused other a b
  one_refusal law Liberty files refused other a b =
      law.liberty.one_refusal most (file_at files 0) (file_at files 1) (file_at files 2) (file_at files 3) refused other a b

  -- A schedule with the design's phases isn't refused.
  no_schedule : AreTextLaws → (schedule : List ℕ) (phases : ℕ) (s : Schedule) (refused : Refusal) → IsScheduleOf schedule phases s → IsScheduleRefused schedule phases refused → ⊥
  no_schedule law schedule phases s refused is (out_of_form n named fault) = law.no_schedule_fault schedule s n is.is_text fault
  no_schedule law schedule phases s refused is (other_phases other text apart named) =
      let same : s ≡ other = law.one_schedule schedule s other is.is_text text in
      apart (sym is.count ∙ ap (λ (x : Schedule). length x.starts) same)

  -- Files that give a timing aren't refused, and all that they give is of one design.
  no_source : AreTextLaws → (source : Source) (files : List (List ℕ)) (t : Timing) (refused : Refusal) → Gives most source files t → IsSourceRefused most source files refused → ⊥
  no_source law source files t refused is (no_design h) = no_refusal law source files t.flat refused is.design is.accepted.limits is.accepted.within h
  no_source law source files t refused is (no_system d described limits within h) =
      let same : d ≡ t.flat = one_design law source files d t.flat described is.design in
      law.accepted most t.flat refused is.accepted (subst (λ (x : Design). IsDesignRefusal most x refused) same h)

  one_flat : AreTextLaws → (source : Source) (files : List (List ℕ)) (t u : Timing) → Gives most source files t → Gives most source files u → t.flat ≡ u.flat
  one_flat law source files t u a b = one_design law source files t.flat u.flat a.design b.design

  -- A file that is answered isn't refused.
  no_file : AreTextLaws → (job : Job) (t u : Timing) (file : List ℕ) (refused : Refusal) (status : Status) (text : List ℕ) → u.flat ≡ t.flat →
      IsJobAnswer most job t file status text → IsFileRefused most job u.flat file refused → ⊥
  no_file law Check t u file refused status text same (s, is, h) g =
      no_schedule law file (phase_count t.flat) s refused is (subst (λ (d : Design). IsScheduleRefused file (phase_count d) refused) same g)
  no_file law Optimise t u file refused status text same h g = absurd g
  no_file law Verify t u file refused status text same (c, is, h) (n, named, fault) = law.no_certificate_fault file c n is fault
  no_file law Report t u file refused status text same h g = absurd g
  no_file law Safe t u file refused status text same h g = absurd g
  no_file law Slack t u file refused status text same h g =
      let elements : length u.flat.elements ≡ length t.flat.elements = ap (λ (d : Design). length d.elements) same in
      let few = h.0 in
      let many = g.0 in
      omega (arith, few, many, elements)

  -- Corners that give timings have none that is refused; of others one is the first; and they have as many elements together
  -- whatever timings they give.
  no_corner : AreTextLaws → (corners : List (List (List ℕ))) (c corner : ℕ) (own : Refusal) (ts : List Timing) → AreGiven most corners ts → IsFirstRefused most corners c corner own → ⊥
  no_corner law [] c corner own ts given h = absurd h
  no_corner law (files ∷ corners) c corner own [] given h = absurd given
  no_corner law (files ∷ corners) c corner own (t ∷ ts) given (inl h) = no_source law Files files t own given.0 h.1
  no_corner law (files ∷ corners) c corner own (t ∷ ts) given (inr (u, gives, h)) = no_corner law corners (suc c) corner own ts given.1 h

  one_corner : AreTextLaws → (corners : List (List (List ℕ))) (c corner other : ℕ) (own others : Refusal) → IsFirstRefused most corners c corner own → IsFirstRefused most corners c other others →
      corner ≡ other
  one_corner law [] c corner other own others h g = absurd h
  one_corner law (files ∷ corners) c corner other own others (inl h) (inl g) = h.0 ∙ sym g.0
  one_corner law (files ∷ corners) c corner other own others (inl h) (inr (t, gives, g)) = absurd (no_source law Files files t own gives h.1)
  one_corner law (files ∷ corners) c corner other own others (inr (t, gives, h)) (inl g) = absurd (no_source law Files files t others gives g.1)
  one_corner law (files ∷ corners) c corner other own others (inr (t, gives, h)) (inr (u, gives_too, g)) = one_corner law corners (suc c) corner other own others h g

  one_number : AreTextLaws → (corners : List (List (List ℕ))) (ts us : List Timing) → AreGiven most corners ts → AreGiven most corners us → elements_together ts ≡ elements_together us
  one_number law [] [] [] a b = refl
  one_number law [] [] (u ∷ us) a b = absurd b
  one_number law [] (t ∷ ts) us a b = absurd a
  one_number law (files ∷ corners) [] us a b = absurd a
  one_number law (files ∷ corners) (t ∷ ts) [] a b = absurd b
  one_number law (files ∷ corners) (t ∷ ts) (u ∷ us) a b =
      let counts : length ts ≡ length us = AllZip-long (Gives most Files) corners ts a.1 ∙ sym (AllZip-long (Gives most Files) corners us b.1) in
      let elements : element_count t.flat ≡ element_count u.flat = ap (λ (d : Design). length d.elements) (one_design law Files files t.flat u.flat a.0.design b.0.design) in
      ap (λ (n : ℕ). suc n * element_count t.flat) counts ∙ ap (λ (n : ℕ). suc (length us) * n) elements

  no_content : AreTextLaws → (command : Command) (files : List (List ℕ)) (refused : Refusal) (status : Status) (text : List ℕ) →
      IsContentAnswer most command files status text → IsContentRefusal most command files refused → ⊥
  no_content law (OfDesign job source) files refused status text (t, gives, h) (of_design g) = no_source law source files t refused gives g
  no_content law (OfDesign job source) files refused status text (t, gives, h) (of_file u gives_too g) =
      no_file law job t u (own_file source files) refused status text (one_flat law source files u t gives_too gives) h g
  no_content law (Sample number) files refused status text (t, gives, h) g = no_source law Files files t refused gives g
  no_content law (Corners count) files refused status text (ts, given, few, h) (of_corner corner own first named) = no_corner law (corners_of files) 1 corner own ts given first
  no_content law (Corners count) files refused status text (ts, given, few, h) (of_elements us given_too many) =
      let same = one_number law (corners_of files) us ts given_too given in
      let over = many.0 in
      omega (arith, few, over, same)

  exclude : AreTextLaws → (command : Command) (files : List (List ℕ)) (refused : Refusal) (status : Status) (text : List ℕ) → IsRefusalOn most command files refused →
      AreShort most files → IsContentAnswer most command files status text → ⊥
  exclude law command files refused status text (too_long h) short answer = no_length (content_roles command) files refused short h
  exclude law command files refused status text (of_contents short_too h) short answer = no_content law command files refused status text answer h

  excluded : AreTextLaws → (command : Command) (files : List (List ℕ)) (refused : Refusal) (status : Status) (text : List ℕ) → IsFirstRefusal most command files refused → IsDefined most command files status text → status ≡ Refused
  excluded law command files refused Refused text first h = refl
  excluded law command files refused Done text first h = absurd (exclude law command (contents_of command files) refused Done text first h.0 h.1)
  excluded law command files refused Found text first h = absurd (exclude law command (contents_of command files) refused Found text first h.0 h.1)
  excluded law command files refused Usage text first h = absurd (exclude law command (contents_of command files) refused Usage text first h.0 h.1)
  excluded law command files refused ReadFault text first h = absurd (exclude law command (contents_of command files) refused ReadFault text first h.0 h.1)
  excluded law command files refused WriteFault text first h = absurd (exclude law command (contents_of command files) refused WriteFault text first h.0 h.1)
  excluded law command files refused OutOfMemory text first h = absurd (exclude law command (contents_of command files) refused OutOfMemory text first h.0 h.1)

  one_schedule_refusal : AreTextLaws → (schedule : List ℕ) (phases : ℕ) (refused other : Refusal) → IsScheduleRefused schedule phases refused →
      IsScheduleRefused schedule phases other → refused ≡ other
  one_schedule_refusal law schedule phases refused other (out_of_form n a fault) (out_of_form m b other_fault) =
      a ∙ ap (λ (k : ℕ). refusal.Syntax role.Schedule k) (law.one_schedule_fault schedule n m fault other_fault) ∙ sym b
  one_schedule_refusal law schedule phases refused other (out_of_form n a fault) (other_phases s text apart b) = absurd (law.no_schedule_fault schedule s n text fault)
  one_schedule_refusal law schedule phases refused other (other_phases s text apart a) (out_of_form m b fault) = absurd (law.no_schedule_fault schedule s m text fault)
  one_schedule_refusal law schedule phases refused other (other_phases s text apart a) (other_phases u other_text other_apart b) =
      a ∙ ap (λ (x : Schedule). refusal.PhaseMismatch phases (length x.starts)) (law.one_schedule schedule s u text other_text) ∙ sym b

  one_source_refusal : AreTextLaws → DesignRefusalsAreDetermined → (source : Source) (files : List (List ℕ)) (refused other : Refusal) → IsSourceRefused most source files refused →
      IsSourceRefused most source files other → (refused ≡ other) ⊎ (IsLoopRefusal refused × IsLoopRefusal other)
  one_source_refusal law one source files refused other (no_design a) (no_design b) = inl (one_refusal law source files refused other a b)
  one_source_refusal law one source files refused other (no_design a) (no_system d described limits within h) = absurd (no_refusal law source files d refused described limits within a)
  one_source_refusal law one source files refused other (no_system d described limits within h) (no_design b) = absurd (no_refusal law source files d other described limits within b)
  one_source_refusal law one source files refused other (no_system d described limits within h) (no_system e other_described other_limits other_within g) =
      let same : e ≡ d = one_design law source files e d other_described described in
      one most d refused other h (subst (λ (x : Design). IsDesignRefusal most x other) same g)

  one_file : AreTextLaws → (job : Job) (t u : Timing) (file : List ℕ) (refused other : Refusal) → u.flat ≡ t.flat → IsFileRefused most job t.flat file refused →
      IsFileRefused most job u.flat file other → refused ≡ other
  one_file law Check t u file refused other same a b =
      one_schedule_refusal law file (phase_count t.flat) refused other a (subst (λ (d : Design). IsScheduleRefused file (phase_count d) other) same b)
  one_file law Optimise t u file refused other same a b = absurd a
  one_file law Verify t u file refused other same (n, a, fault) (m, b, other_fault) =
      a ∙ ap (λ (k : ℕ). refusal.Syntax role.Certificate k) (law.one_certificate_fault file n m fault other_fault) ∙ sym b
  one_file law Report t u file refused other same a b = absurd a
  one_file law Safe t u file refused other same a b = absurd a
  one_file law Slack t u file refused other same a b = a.1 ∙ ap (λ (d : Design). refusal.Limit kind.Elements (length d.elements)) (sym same) ∙ sym b.1

  one_content : AreTextLaws → DesignRefusalsAreDetermined → (command : Command) (files : List (List ℕ)) (refused other : Refusal) → IsContentRefusal most command files refused →
      IsContentRefusal most command files other → (refused ≡ other) ⊎ (IsLoopRefusal refused × IsLoopRefusal other)
  one_content law one (OfDesign job source) files refused other (of_design a) (of_design b) = one_source_refusal law one source files refused other a b
  one_content law one (OfDesign job source) files refused other (of_design a) (of_file t gives b) = absurd (no_source law source files t refused gives a)
  one_content law one (OfDesign job source) files refused other (of_file t gives a) (of_design b) = absurd (no_source law source files t other gives b)
  one_content law one (OfDesign job source) files refused other (of_file t gives a) (of_file u gives_too b) =
      inl (one_file law job t u (own_file source files) refused other (one_flat law source files u t gives_too gives) a b)
  one_content law one (Sample number) files refused other a b = one_source_refusal law one Files files refused other a b
  one_content law one (Corners count) files refused other (of_corner corner own first a) (of_corner another others first_too b) =
      inl (a ∙ ap refusal.Corner (one_corner law (corners_of files) 1 corner another own others first first_too) ∙ sym b)
  one_content law one (Corners count) files refused other (of_corner corner own first a) (of_elements ts given b) =
      absurd (no_corner law (corners_of files) 1 corner own ts given first)
  one_content law one (Corners count) files refused other (of_elements ts given a) (of_corner corner own first b) =
      absurd (no_corner law (corners_of files) 1 corner own ts given first)
  one_content law one (Corners count) files refused other (of_elements ts given a) (of_elements us given_too b) =
      inl (a.1 ∙ ap (λ (n : ℕ). refusal.Limit kind.Elements n) (one_number law (corners_of files) ts us given given_too) ∙ sym b.1)

  determined_on : AreTextLaws → DesignRefusalsAreDetermined → (command : Command) (files : List (List ℕ)) (refused other : Refusal) → IsRefusalOn most command files refused →
      IsRefusalOn most command files other → (refused ≡ other) ⊎ (IsLoopRefusal refused × IsLoopRefusal other)
  determined_on law one command files refused other (too_long a) (too_long b) = inl (one_length (content_roles command) files refused other a b)
  determined_on law one command files refused other (too_long a) (of_contents short b) = absurd (no_length (content_roles command) files refused short a)
  determined_on law one command files refused other (of_contents short a) (too_long b) = absurd (no_length (content_roles command) files other short b)
  determined_on law one command files refused other (of_contents short a) (of_contents short_too b) = one_content law one command files refused other a b

  determined : AreTextLaws → DesignRefusalsAreDetermined → (command : Command) (files : List (List ℕ)) (refused other : Refusal) → IsFirstRefusal most command files refused → IsFirstRefusal most command files other →
      (refused ≡ other) ⊎ (IsLoopRefusal refused × IsLoopRefusal other)
  determined law one command files refused other a b = determined_on law one command (contents_of command files) refused other a b

-- In each run.
pub exclude_lem : ((most : Most) → AreTextLaws most) → RefusalsExcludeAnswers
exclude_lem law most command files refused status text first h = excluded most (law most) command files refused status text first h

pub determined_lem : ((most : Most) → AreTextLaws most) → DesignRefusalsAreDetermined → RefusalsAreDetermined
determined_lem law one most command files refused other a b = determined most (law most) one command files refused other a b
