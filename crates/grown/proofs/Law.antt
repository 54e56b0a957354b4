-- The link law kept on ALL tables in form whose links obey it (`Carried`, `Tables`); what maps read after each kind.
pub mod Lawful
pub mod Halves
pub mod Change
pub mod Split
pub mod Whole
pub mod Heal
pub mod Add
pub mod Remove
pub mod Carried
pub mod Tables
