pub mod EachSender
pub mod Works
