mod GateLaws
mod MomentLaws
mod RowLaws
mod StageLaws
mod ThroughLaws
mod TurnedLaws
mod TurningLaws
