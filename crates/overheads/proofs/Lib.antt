pub mod Overhead
