pub mod LawsPlace
pub mod LawsKey
