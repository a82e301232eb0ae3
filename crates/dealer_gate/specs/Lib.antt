pub mod Dealers
