-- `Reverse`: the reverse of an edge as a word. `Lists`: lists with one element more. `Filled`: a table is its rows'
-- numbers and zeros. `Pushed`: a new last edge row. `NodeFaces`: a node's face stored. `Drawn`: an edge drawn. `Ends`:
-- edge ends by rows. `Undrawn`: an edge undrawn. `Formed`: tables in form hold a map. `FirstReasons`: the first reason
-- of two lists.
pub mod Reverse
pub mod Lists
pub mod Filled
pub mod Pushed
pub mod NodeFaces
pub mod Drawn
pub mod Ends
pub mod Undrawn
pub mod Formed
pub mod FirstReasons
