pub mod TurnsStay
