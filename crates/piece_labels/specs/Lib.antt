-- `Labels`: rows that lead to the lowest of their piece.
pub mod Labels
