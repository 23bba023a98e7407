mod LeavingLaws
mod StorageLaws
mod TallyLaws
