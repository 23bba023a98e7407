mod EntryLaws
mod FitLaws
