mod Rounds
mod Apart
mod LateLaws
mod EarlyLaws
mod ExistenceLaws
