pub mod Exchanges
pub mod Choosing
pub mod Answering
pub mod Hearing
pub mod Serving
