pub mod Turns
pub mod Rounds
pub mod OwnEvents
pub mod Clients
pub mod Waiting
pub mod Arrivals
