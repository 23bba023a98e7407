mod Greatest
mod Joining
mod Reading
mod Selecting
mod Turning
