pub mod Faults
pub mod Contents
pub mod Taken
pub mod Asked
pub mod Reads
pub mod FilesInMemory
pub mod SinkInMemory
