-- `Reverses`: the row of a reverse. `Lists`: a list with one row less. `Joints`: the joint and the two directed edges.
-- `Courses`: their curves as numbers. `Redirected`: links redirected in a table and in the map. `Written`: the healed
-- row in its place. `Told`: the first reason from its parts. `Healed`: what is lent after a heal.
pub mod Reverses
pub mod Lists
pub mod Joints
pub mod Courses
pub mod Redirected
pub mod Written
pub mod Told
pub mod Healed
