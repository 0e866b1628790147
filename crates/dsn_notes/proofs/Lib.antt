pub mod NotesLemmas
pub mod OpenLogsLemmas
