pub mod CopiedDisk
pub mod Listing
pub mod ListingFault
pub mod ListingLines
pub mod inner
