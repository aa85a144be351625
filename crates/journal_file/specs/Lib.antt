-- What the program relies on.
--     Window       how many bytes of the file it looks at together
pub mod Window
