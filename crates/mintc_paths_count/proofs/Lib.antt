-- Lemmas by topic.
mod Setting
mod Leading
mod Noting
mod Counting
mod Listing
mod Bounding
