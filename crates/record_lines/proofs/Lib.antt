pub mod RecordsBack
pub mod BodyNumbers
pub mod RecordLoop
pub mod Streams
