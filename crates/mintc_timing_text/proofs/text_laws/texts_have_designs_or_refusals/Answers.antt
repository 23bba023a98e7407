use Rattle.mintc_timing_text.proofs.TableEach.{have_design_or_refusal}
use Rattle.mintc_timing_text.proofs.text_laws.texts_have_designs_or_refusals.Goals as goal

pub returns : goal.returns
returns c = have_design_or_refusal
