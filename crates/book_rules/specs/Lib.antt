pub mod Outcomes
pub mod Offered
pub mod Places
pub mod Steps
