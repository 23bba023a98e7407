mod WrittenLaws
mod EscapeLaws
mod PlaceLaws
