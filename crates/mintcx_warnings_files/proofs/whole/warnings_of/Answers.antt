use Rattle.mintcx_warnings_files.proofs.whole.warnings_of.Goals as goal

pub returns : goal.returns
returns c =
    let told = c.in_ok-told.ensures in
    record {
      parts = c.in_ok-parts.parts;
      are_parts = c.in_ok-parts.ensures.parts;
      same = told.same;
      late = told.late;
      entered = told.entered;
      unlisted = told.unlisted;
      is_same = told.is_same;
      is_late = told.is_late;
      is_entered = told.is_entered;
      is_unlisted = told.is_unlisted;
      whole = told.whole;
    }
