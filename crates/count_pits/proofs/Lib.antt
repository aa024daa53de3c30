pub mod StructLines
