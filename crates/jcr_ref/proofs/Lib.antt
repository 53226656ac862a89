mod Rows
mod UuidText
mod PathNamed
mod Index
mod Pushed
mod FirstNodes
