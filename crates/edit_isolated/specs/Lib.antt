-- `Isolated`: the reasons of kind 4 by rows, and kind 4 along a curve, from 7 on.
pub mod Isolated
