mod Numbers
mod BytesReading
mod BatchReading
mod PlanReading
mod Options
mod Splits
mod Visible
mod HexReading
mod FieldReading
mod BatchLaws
mod CommandReading
mod CommandAgain
mod LineReading
mod LineLimits
mod Runs
mod Endings
pub mod Sizes
