pub mod Trees
pub mod Laws
pub mod Keys
