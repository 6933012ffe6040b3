pub mod Matched
pub mod AlikeBoth
pub mod ComparedCalls
pub mod PlaysAlike
pub mod PathsAlike
