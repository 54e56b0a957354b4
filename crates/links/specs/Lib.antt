-- `Linking`: departures by position, and links changed in the numbers.
pub mod Linking
