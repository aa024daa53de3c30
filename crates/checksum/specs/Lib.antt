pub mod InsideStrides
