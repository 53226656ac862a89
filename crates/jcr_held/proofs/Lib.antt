mod Answering
mod Behind
mod Dangling
mod Dues
mod Holding
mod OnTheWay
mod Referring
pub mod Unread
mod Unwritten
