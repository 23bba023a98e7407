use Rattle.mintc_timing_text.proofs.ScheduleLines.{are_their_lines}
use Rattle.mintc_timing_text.proofs.text_laws.schedule_texts_are_their_lines.Goals as goal

pub returns : goal.returns
returns c = are_their_lines
