-- What the checks of an operation come to.
--     Admission    all checks, in their order
--     Shared       the checks that several kinds share
pub mod Admission
pub mod Shared
