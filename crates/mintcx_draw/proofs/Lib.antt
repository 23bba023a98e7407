mod ChainLaws
mod LaneLaws
mod NoteLaws
mod ScaleLaws
mod WideLaws
