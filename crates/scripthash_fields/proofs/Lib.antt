pub mod LawsPage
pub mod LawsFields
pub mod LawsWhole
