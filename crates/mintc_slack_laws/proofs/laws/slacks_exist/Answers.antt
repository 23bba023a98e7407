use Rattle.mintc_slack_laws.proofs.SlackLaws.{slacks_exist_lem}
use Rattle.mintc_slack_laws.proofs.laws.slacks_exist.Goals as goal

pub returns : goal.returns
returns c = slacks_exist_lem c.room_is_slack.ensures
