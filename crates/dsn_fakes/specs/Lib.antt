pub mod MemoryDisk
