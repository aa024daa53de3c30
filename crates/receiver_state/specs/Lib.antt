pub mod View
pub mod Inside
