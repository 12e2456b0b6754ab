pub mod LawsFlat
pub mod LawsSteps
pub mod LawsPut
pub mod LawsRead
pub mod LawsRun
pub mod LawsFresh
