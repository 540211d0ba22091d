pub mod Blocks
pub mod Hashing
pub mod Counting
pub mod Opening
pub mod StepLaws
pub mod ProductLaws
pub mod MultipleLaws
pub mod Bytes
