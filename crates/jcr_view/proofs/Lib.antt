mod Again
mod AgainKeeps
mod AgainLeads
mod Asked
mod Based
mod CommandsKeep
mod Drawn
mod Enough
mod Fresh
mod Known
mod Moved
mod Needed
mod OnePass
pub mod Rounds
pub mod RoundsEnd
mod Shown
pub mod Wanted
mod WholeLacks
