-- `Turning`: what the functions answer, in positions and in the map's terms.
pub mod Turning
