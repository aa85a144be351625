-- What the contracts of walked functions share.
pub mod Tabled
