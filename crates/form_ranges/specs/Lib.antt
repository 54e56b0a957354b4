-- `Ranges`: what is known of tables after each part of condition 2.
pub mod Ranges
