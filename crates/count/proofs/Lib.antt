pub mod Ends
pub mod ReportStruct
pub mod OwnSets
pub mod Walking
pub mod Once
