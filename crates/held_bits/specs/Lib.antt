pub mod InsideBits
