pub mod Adds
pub mod Enters
pub mod StretchAnswers
pub mod MidStretch
pub mod Once
pub mod Faults
