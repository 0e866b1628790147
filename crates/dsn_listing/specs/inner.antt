pub mod CopiedFolder
