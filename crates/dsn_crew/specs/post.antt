pub mod LetterSink
pub mod LetterSource
pub mod Outlet
pub mod Parcel
pub mod Posting
pub mod Sink
