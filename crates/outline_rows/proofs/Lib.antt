-- What is related from a row on (`Rows`), one more line noted (`States`), what each return of the two functions tells
-- (`Steps`), and all lines from face row 0 on (`Outlines`).
pub mod Rows
pub mod States
pub mod Steps
pub mod Outlines
