-- `Grown`: the claims, from the empty map on.
pub mod Grown
