-- `IsolatedReasons`, `Added`: what kind 4 answers. `Removed`: what kind 5 answers.
pub mod IsolatedReasons
pub mod Added
pub mod Removed
