mod Rows
mod Frozen
mod Refused
mod LockEdits
