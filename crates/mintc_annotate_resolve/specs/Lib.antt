-- What contracts of public calls and laws say:
pub mod Pins
pub mod Names
pub mod Ports
pub mod Resolution
pub mod Targets
pub mod Instances
pub mod Lookups
pub mod Places
