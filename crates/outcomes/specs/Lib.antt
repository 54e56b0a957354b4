-- `Outcomes`: what an edit of tables in form leaves and answers. `Variants`: New and Mod of one kind.
pub mod Outcomes
pub mod Variants
