pub mod Stands
pub mod Past
pub mod Replaced
pub mod Absent
pub mod Filled
pub mod Answers
pub mod Requests
pub mod Beyond
