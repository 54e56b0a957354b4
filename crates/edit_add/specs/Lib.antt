-- `Along`: kinds 11 and 12 along a curve.
pub mod Along
