pub mod AfterEntry
pub mod LogRoundTrip
pub mod Reading
pub mod ReadingOn
pub mod Once
pub mod EntriesPassed
