pub mod ToEnd
