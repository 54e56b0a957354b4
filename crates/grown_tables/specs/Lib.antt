-- `Tables`: tables that tickets left, from the empty map on. `Claims`: how they come about, and that they are in form.
pub mod Tables
pub mod Claims
