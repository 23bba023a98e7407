mod MessageLaws
mod WrittenLaws
