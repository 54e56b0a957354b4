-- `Passing`: what an edge's curve passes over as it becomes another.
pub mod Passing
