mod ClockLaws
mod FirstLaws
mod ListedLaws
mod MomentLaws
mod ObstacleLaws
mod PortLaws
mod TimeLaws
mod WrittenLaws
