pub mod OutBook
pub mod OutClass
pub mod OutExtend
pub mod OutHead
pub mod OutPage
pub mod Answers
