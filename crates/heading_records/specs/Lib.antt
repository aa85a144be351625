-- Headings that are lent as records, read as plain numbers.
--     Reading      what is read of them, and what the headings beyond it do to a verdict
pub mod Reading
