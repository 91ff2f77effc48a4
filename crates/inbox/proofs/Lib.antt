pub mod OneSeat
pub mod Lists
pub mod Laws
pub mod PassEnds
pub mod Moves
pub mod Fitting
