mod Numbers
mod Spaces
mod Reading
mod Ahead
mod Faults
mod Known
mod Taken
mod Late
mod Printing
mod Puts
pub mod Caused
