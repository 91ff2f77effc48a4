pub mod AppStates
pub mod ProgramWords
