mod FeedLaws
mod HeadLaws
mod ListedLaws
mod ShownLaws
mod StepLaws
mod TurnLaws
