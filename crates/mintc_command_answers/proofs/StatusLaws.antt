-- A defined answer has the status of an answer: by what is asked.
use Rattle.std.proofs.Common.{ℕ, List, sym, subst}
use Rattle.mintc_text.specs.declared.limits.Most.{Most}
use Rattle.mintc_timing.specs.declared.clocking.Schedule.{Schedule}
use Rattle.mintc_timing.specs.Design.{Timing}
use Rattle.mintc_certificate.specs.declared.certificate.Certificate.{Certificate}
use Rattle.mintc_certificate.specs.declared.certificate.Certificate.TheVariants as certificate
use Rattle.mintc_checker.specs.declared.verdict.Verdict.{Verdict}
use Rattle.mintc_checker.specs.declared.verdict.Verdict.TheVariants as verdict
use Rattle.mintc_safe.specs.declared.certificate.SafeCertificate.{SafeCertificate}
use Rattle.mintc_safe.specs.declared.certificate.SafeCertificate.TheVariants as kept
use Rattle.mintc_slack.specs.declared.finding.Slacks.{Slacks}
use Rattle.mintc_slack.specs.declared.finding.Slacks.TheVariants as slacks
use Rattle.mintc_corners.specs.declared.certificate.CornerCertificate.{CornerCertificate}
use Rattle.mintc_corners.specs.declared.certificate.CornerCertificate.TheVariants as joint
use Rattle.mintc_command_answers.specs.Answers.{IsContentAnswer, IsOfCommand}
use Rattle.mintc_command_answers.specs.Contents.{contents_of}
use Rattle.mintc_command_answers.specs.Corners.{corner_status}
use Rattle.mintc_command_answers.specs.Jobs.{IsJobAnswer, IsJudgement, certificate_status, verdict_status, safe_status, slack_status}
use Rattle.mintc_command_answers.specs.Laws.{AnswersAreOfCommands}
use Rattle.mintc_command_answers.specs.declared.command.Command.{Command}
use Rattle.mintc_command_answers.specs.declared.command.Command.TheVariants.{OfDesign, Sample, Corners}
use Rattle.mintc_command_answers.specs.declared.command.Job.{Job}
use Rattle.mintc_command_answers.specs.declared.command.Job.TheVariants.{Check, Optimise, Verify, Report, Safe, Slack}
use Rattle.mintc_command_answers.specs.declared.status.Status.{Status}
use Rattle.mintc_command_answers.specs.declared.status.Status.TheVariants.{Done, Found, Refused, Usage, ReadFault, WriteFault, OutOfMemory}

certificate_of : (c : Certificate) → IsOfCommand (certificate_status c)
certificate_of (certificate.Least schedule departures chain) = tt
certificate_of (certificate.Never chain) = tt

verdict_of : (v : Verdict) → IsOfCommand (verdict_status v)
verdict_of verdict.Valid = tt
verdict_of (verdict.Invalid n) = tt

safe_of : (c : SafeCertificate) → IsOfCommand (safe_status c)
safe_of (kept.Least schedule departures chain) = tt
safe_of (kept.Never chain) = tt

slack_of : (x : Slacks) → IsOfCommand (slack_status x)
slack_of (slacks.Least cycle extra) = tt
slack_of slacks.Never = tt

joint_of : (c : CornerCertificate) → IsOfCommand (corner_status c)
joint_of (joint.Least schedule departures chain) = tt
joint_of (joint.Never chain) = tt

judgement_of : (t : Timing) (s : Schedule) (status : Status) (text : List ℕ) → IsJudgement t s status text → IsOfCommand status
judgement_of t s Done text h = tt
judgement_of t s Found text h = tt
judgement_of t s Refused text h = tt
judgement_of t s Usage text h = absurd h
judgement_of t s ReadFault text h = absurd h
judgement_of t s WriteFault text h = absurd h
judgement_of t s OutOfMemory text h = absurd h

job_of : (most : Most) (job : Job) (t : Timing) (file : List ℕ) (status : Status) (text : List ℕ) → IsJobAnswer most job t file status text → IsOfCommand status
job_of most Check t file status text (s, is, h) = judgement_of t s status text h
job_of most Optimise t file status text (c, is, e, w) = subst IsOfCommand (sym e) (certificate_of c)
job_of most Verify t file status text (c, is, h) = subst IsOfCommand (sym h.2) (verdict_of h.0)
job_of most Report t file status text (c, is, e, w) = subst IsOfCommand (sym e) (certificate_of c)
job_of most Safe t file status text (c, is, e, w) = subst IsOfCommand (sym e) (safe_of c)
job_of most Slack t file status text (few, (x, is, e, w)) = subst IsOfCommand (sym e) (slack_of x)

content_of : (most : Most) (command : Command) (texts : List (List ℕ)) (status : Status) (text : List ℕ) → IsContentAnswer most command texts status text → IsOfCommand status
content_of most (OfDesign job source) texts status text (t, given, h) = job_of most job t _ status text h
content_of most (Sample number) texts status text (t, given, h) = subst IsOfCommand (sym h.2) (certificate_of h.0)
content_of most (Corners count) texts status text (ts, given, few, h) = subst IsOfCommand (sym h.2) (joint_of h.0)

pub of_commands_lem : AnswersAreOfCommands
of_commands_lem most command files Done text h = tt
of_commands_lem most command files Found text h = tt
of_commands_lem most command files Refused text h = tt
of_commands_lem most command files Usage text h = content_of most command (contents_of command files) Usage text h.1
of_commands_lem most command files ReadFault text h = content_of most command (contents_of command files) ReadFault text h.1
of_commands_lem most command files WriteFault text h = content_of most command (contents_of command files) WriteFault text h.1
of_commands_lem most command files OutOfMemory text h = content_of most command (contents_of command files) OutOfMemory text h.1
