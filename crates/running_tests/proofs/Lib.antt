mod Seats
mod Taken
