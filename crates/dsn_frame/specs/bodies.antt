pub mod AnswerFault
pub mod BodyFault
pub mod FrameBody
pub mod Laws
pub mod Request
pub mod Spoken
pub mod Wire
