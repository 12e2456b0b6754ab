pub mod LawsWords
pub mod LawsLow
pub mod LawsLeads
pub mod LawsPage
pub mod LawsSlab
pub mod LawsExtend
pub mod LawsInPlace
pub mod LawsPast
