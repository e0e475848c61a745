pub mod NoMemory
