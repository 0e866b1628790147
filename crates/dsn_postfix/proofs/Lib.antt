mod AttributeExamples
mod LoggedExamples
mod NoticePlanExamples
mod RecipientSetLemmas
mod RequestExamples
mod ToldLemmas
mod VerpPathExamples
mod VersionExamples
pub mod AttributeLaws
pub mod AttributeLemmas
pub mod FieldReadings
pub mod ListLaws
mod ListStateExamples
pub mod ListStateLemmas
pub mod ListReadingLemmas
pub mod NoticePlanLaws
pub mod NoticePlanLemmas
pub mod NumberLemmas
pub mod RequestLaws
pub mod StatusLaws
pub mod Writing
