pub mod FieldAnswers
pub mod Page
pub mod Fields
