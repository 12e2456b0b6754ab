pub mod LawsAppend
