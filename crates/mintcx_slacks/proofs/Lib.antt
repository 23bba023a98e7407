pub mod SharedPlaceLaws
mod RestLaws
mod Steps
