-- `ChangeReasons`: the first reason of kind 6, test by test. `Changed`: what kind 6 answers.
pub mod ChangeReasons
pub mod Changed
