mod Fronts
mod TopicLaws
