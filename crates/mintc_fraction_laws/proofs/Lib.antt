pub mod SharedReducing
