use Rattle.mintc_timing_text.proofs.ScheduleEach.{have_schedule_or_fault}
use Rattle.mintc_timing_text.proofs.text_laws.texts_have_schedules_or_faults.Goals as goal

pub returns : goal.returns
returns c = have_schedule_or_fault
