pub mod Bands
mod Contents
mod Exits
mod Loops
mod Reading
mod Writing
