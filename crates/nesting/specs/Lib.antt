-- Request (viii) as definitions: the contents of a sheet (`Contents`), and what is claimed of them (`Claims`).
pub mod Contents
pub mod Claims
