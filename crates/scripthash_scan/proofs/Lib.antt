pub mod LawsTotals
pub mod LawsWeigh
pub mod LawsLongest
pub mod LawsFill
