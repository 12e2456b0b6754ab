pub mod LawsShape
pub mod LawsLists
pub mod LawsSteps
pub mod LawsTake
pub mod LawsFreed
pub mod LawsDesks
pub mod LawsPeek
