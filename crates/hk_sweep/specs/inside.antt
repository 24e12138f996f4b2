pub mod Fallen
pub mod Frames
pub mod Rising
pub mod Written
