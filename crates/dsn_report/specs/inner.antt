pub mod Boundary
pub mod LineWriter
pub mod NoticeLines
pub mod Preface
pub mod Template
