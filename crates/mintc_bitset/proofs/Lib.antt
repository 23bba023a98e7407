mod Setting
mod Shifting
mod Stamping
