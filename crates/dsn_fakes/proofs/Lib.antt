mod MemoryCalls
mod MemoryDiskExamples
mod OneCallMore
