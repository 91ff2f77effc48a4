pub mod OneSeat
pub mod Heights
pub mod Seating
pub mod Moves
pub mod Makes
pub mod Least
