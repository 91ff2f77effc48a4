mod Clients
mod Cutting
mod Putting
