mod WidestLaws
mod PartsLaws
mod BesideLaws
mod JointLaws
mod LiftLaws
mod TransferLaws
mod JoinedLaws
pub mod SharedPlaceLaws
mod ValuesLaws
mod GreatestLaws
mod StandingLaws
mod LoopLaws
pub mod SharedMemberLaws
mod TextLaws
pub mod SharedScheduleLaws
pub mod SharedMadeLaws
mod TurnLaws
mod WorkedCorners
