mod ReadingLaws
mod ReplyLaws
mod TakingLaws
mod RefusalLaws
mod DeliveryLaws
mod WarnedLaws
mod ApartLaws
