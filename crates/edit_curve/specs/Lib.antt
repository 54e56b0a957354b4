-- `Change`: the reasons of kind 6 by rows, and kind 6 along a curve, from 7 on.
pub mod Change
