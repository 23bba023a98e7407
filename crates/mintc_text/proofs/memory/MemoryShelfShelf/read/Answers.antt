use Rattle.std.proofs.Common.{◌≡◌, ℕ, ◌≤◌, List, Contains, subst, ap, ◌∙◌, arith}
use Rattle.mintc_text.specs.declared.memory.MemoryShelf.TheInside.{Inside}
use Rattle.mintc_text.specs.Memory.{ShelfState, IsSoundFrom}
use Rattle.mintc_text.proofs.memory.MemoryShelfShelf.read.Goals as goal
use Rattle.mintc_text.proofs.memory.MemoryShelfShelf.read.Goals.{in_default-via-in-Some+else-not-fails, in_default-via-in_default}

-- later calls of a shelf are sound too
sound_on : (old new : List ℕ) (calls later : ℕ) → new ≡ old → calls ≤ later → IsSoundFrom old calls → IsSoundFrom new later
sound_on old new calls later same more sound n above member = sound n (omega arith) (subst (λ (v : List ℕ). Contains v n) same member)

pub returns-in-Some-clause-sound : goal.returns-in-Some-clause-sound
returns-in-Some-clause-sound c = λ sound holds.
    let failing = ap (λ (s : ShelfState). s.failing) c.self.view_is in
    let calls = ap (λ (s : ShelfState). s.calls) c.self.view_is in
    sound_on _ _ _ _ failing (omega (arith, calls, c.saturating_add-self-inside.ensures)) sound

pub returns-in_default-clause-sound : goal.returns-in_default-clause-sound
returns-in_default-clause-sound c = λ sound holds.
    let failing = ap (λ (s : ShelfState). s.failing) c.self.view_is in
    let calls = ap (λ (s : ShelfState). s.calls) c.self.view_is in
    elim c.in_default.branch [
      | in_default-via-in-Some+else-not-fails w ↦
          let counted = ap (λ (s : Inside). s.calls) w.self-inside-is in
          sound_on _ _ _ _ (ap (λ (s : Inside). s.failing) w.self-inside-is ∙ failing) (omega (arith, calls, counted, c.saturating_add-self-inside.ensures)) sound
      | in_default-via-in_default w ↦
          let counted = ap (λ (s : Inside). s.calls) w.self-inside-is in
          sound_on _ _ _ _ (ap (λ (s : Inside). s.failing) w.self-inside-is ∙ failing) (omega (arith, calls, counted, c.saturating_add-self-inside.ensures)) sound
    ]
