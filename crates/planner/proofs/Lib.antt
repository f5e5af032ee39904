pub mod NoBoard
