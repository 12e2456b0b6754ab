pub mod Spelled
pub mod Words
pub mod SpellCalls
pub mod SpellAnswers
