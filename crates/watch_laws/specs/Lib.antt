pub mod EachSender
pub mod Worked
