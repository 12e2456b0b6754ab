pub mod LawsLength
pub mod LawsForm
pub mod LawsRead
pub mod LawsReadFrom
pub mod LawsWrite
pub mod LawsPrefix
pub mod LawsPadded
