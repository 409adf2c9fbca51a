pub mod TwoWords
