-- `Before`: one ticket by the rule before surplus points were dropped. `Claims`: what refusals say of the drawing, and
-- what is left of a curve.
pub mod Before
pub mod Claims
