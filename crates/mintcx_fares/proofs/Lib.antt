mod PlaceLaws
mod FareLaws
mod SourceLaws
mod PairLaws
mod WideLaws
mod DrawnLaws
