mod BeginLaws
mod ChainLaws
mod FlagLaws
mod HopLaws
mod PlaceLaws
mod TimeLaws
mod WrittenLaws
