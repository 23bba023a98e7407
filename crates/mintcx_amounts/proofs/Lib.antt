mod AmountLaws
mod DecimalLaws
mod FrequencyLaws
mod UnitLaws
