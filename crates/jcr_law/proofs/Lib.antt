pub mod Answered
pub mod Proper
