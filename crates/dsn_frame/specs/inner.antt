pub mod BodyParts
pub mod FrameBuffer
pub mod Session
