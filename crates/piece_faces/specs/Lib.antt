-- `Bits`: a relation between piece rows and face rows as a matrix of bits.
pub mod Bits
