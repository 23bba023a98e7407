mod SlackLaws
