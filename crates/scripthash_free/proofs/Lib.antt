pub mod LawsBlock
pub mod LawsFree
pub mod LawsGap
pub mod LawsFreeList
