pub mod Numbers
pub mod ShownTexts
pub mod Transactions
