-- `Listing`: what the walks over rings require.
pub mod Listing
