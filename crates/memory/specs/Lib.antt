pub mod Words
pub mod InsideParts
