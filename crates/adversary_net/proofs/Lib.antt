mod Asking
mod Beginning
mod Headline
pub mod LiarSignatures
mod Members
mod OneStep
mod Running
mod SentPlaces
mod Staying
mod AppAnswers
mod UsedLeaves
