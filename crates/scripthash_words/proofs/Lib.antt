pub mod LawsForm
pub mod LawsStarts
pub mod LawsValues
pub mod LawsScans
pub mod LawsFilling
pub mod LawsOnes
