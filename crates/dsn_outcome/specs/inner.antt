pub mod Draft
pub mod LetterCell
pub mod OutcomeTexts
