mod TextLaws
mod TogetherLaws
mod CellLaws
