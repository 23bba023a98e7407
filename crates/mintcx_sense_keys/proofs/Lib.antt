mod PlainLaws
mod PairLaws
mod LoopLaws
mod EntryLaws
mod StopLaws
mod DeterminedLaws
mod KeylessLaws
mod NoKeysLaws
