-- `Lines`: a ticket on a line, the bytes of lines one after the other, and the ticket program. `Texts`: answers and
-- rows as text. `Desks`: the desk as the code has it. `Wrote`: what is written to an output. `Printed`: what is printed for the bytes of lines.
pub mod Lines
pub mod Desks
pub mod Texts
pub mod Wrote
pub mod Printed
