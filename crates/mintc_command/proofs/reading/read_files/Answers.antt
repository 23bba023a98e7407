use Rattle.std.proofs.Common.{◌≡◌, Err, ap, ◌∙◌}
use Rattle.mintc_text.specs.declared.limits.Most.{Most}
use Rattle.mintc_text.specs.declared.outside.ShelfError.TheVariants.{Failed}
use Rattle.mintc_command.proofs.SharedCalls.{MakesAtMost-one}
use Rattle.mintc_command.proofs.SharedReadingLaws.{IsReading-more}
use Rattle.mintc_command.proofs.ReadingLaws.{bytes_of-more, calls_so_far, Holds-at}
use Rattle.mintc_command.proofs.reading.read_files.Goals as goal

pub returns-in_default-clause-reads : goal.returns-in_default-clause-reads
returns-in_default-clause-reads g c = calls_so_far c.args.names.now c.loop-name.name-index _ _ _ c.loop-name-test.true c.loop-name.invariant.0.calls c.read.ensures.counted

pub returns-in-Err-clause-sound : goal.returns-in-Err-clause-sound
returns-in-Err-clause-sound g c = λ sound all e.
    let failed : c.in-Err.error ≡ Failed = cc in
    c.read.ensures.answers (c.loop-name.invariant.1 sound all)
    (Holds-at _ _ c.args.names.now c.loop-name.name-index c.name-item.result _ c.loop-name.invariant.0.same c.loop-name-test.true c.name-item.is c.as_str.ensures.value all)
    (c.in-Err.is ∙ ap Err failed)

pub returns-in-Err-clause-reads : goal.returns-in-Err-clause-reads
returns-in-Err-clause-reads g c = calls_so_far c.args.names.now c.loop-name.name-index _ _ _ c.loop-name-test.true c.loop-name.invariant.0.calls c.read.ensures.counted

pub loop-name-preserved : goal.loop-name-preserved
loop-name-preserved g c =
    let most = ap (λ (m : Most). m.bytes) c.most-most.ensures.value in
    let front = rw most at c.in-Ok.ensures.bytes in (
      rw (bytes_of-more c.args.names.now c.loop-name.name-index c.name-item.result c.loop-name-test.true c.name-item.is, c.in-Ok-push.ensures.items, c.new.ensures, ← c.as_str.ensures.value)
          (IsReading-more _ _ _ _ _ _ _ _ _ _ _ _ _ _ c.loop-name.invariant.0 front c.read.ensures.same c.read.ensures.later (MakesAtMost-one _ _ c.read.ensures.counted)),
      λ sound all. c.read.ensures.sound (c.loop-name.invariant.1 sound all)
          (Holds-at _ _ c.args.names.now c.loop-name.name-index c.name-item.result _ c.loop-name.invariant.0.same c.loop-name-test.true c.name-item.is c.as_str.ensures.value all),
    )
