pub mod Given
pub mod TailRows
