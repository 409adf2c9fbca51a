pub mod Buffer
pub mod TwoRuns
