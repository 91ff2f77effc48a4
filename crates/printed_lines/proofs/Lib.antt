mod BatchLines
mod HeightRanges
mod BlockLines
mod FaultLines
