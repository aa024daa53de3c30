pub mod Inside
pub mod Stop
pub mod Stretch
pub mod Told
pub mod InsideTold
