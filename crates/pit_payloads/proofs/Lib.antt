pub mod PayloadCases
pub mod Empty
pub mod PayloadTaken
pub mod Once
