pub mod Accepting
pub mod Alone
pub mod Beginning
pub mod Called
pub mod Draws
pub mod Unmoved
