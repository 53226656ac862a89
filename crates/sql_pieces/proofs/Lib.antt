pub mod OneSaid
