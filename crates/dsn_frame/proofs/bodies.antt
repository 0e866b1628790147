mod AnswerExamples
pub mod BodyLaws
pub mod EncodingLaws
pub mod Examples
pub mod Existence
pub mod FieldLaws
pub mod RequestLaws
pub mod Rules
