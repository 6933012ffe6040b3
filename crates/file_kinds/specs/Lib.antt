pub mod Files
pub mod LongFiles
