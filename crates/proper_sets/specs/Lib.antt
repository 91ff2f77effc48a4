pub mod Propriety
pub mod ProperViews
pub mod Numbers
pub mod Puts
pub mod Laws
