-- What contracts of public calls and laws say:
pub mod Folders
pub mod Replies
pub mod Deliveries
pub mod Taken
pub mod Libraries
pub mod Apart
pub mod Warned
