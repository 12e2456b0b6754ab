pub mod LawsTotals
pub mod LawsWrites
pub mod LawsReadsSlab
pub mod LawsReadsPage
pub mod LawsReadsMore
