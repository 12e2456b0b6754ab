pub mod LawsScan
pub mod LawsStream
pub mod LawsScanEnd
pub mod LawsDecode
pub mod LawsEncode
pub mod LawsLent
pub mod LawsPadded
pub mod LawsFill
