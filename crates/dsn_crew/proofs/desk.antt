pub mod CloseLemmas
pub mod CrashLemmas
pub mod DeskLemmas
pub mod EarlierLemmas
pub mod IntakeLemmas
pub mod Rules
pub mod RunLemmas
pub mod TakeLemmas
