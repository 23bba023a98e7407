mod PresortLaws
mod LibraryLaws
mod NextLaws
mod PlaceLaws
mod SortLaws
mod UsableLaws
mod EitherLaws
