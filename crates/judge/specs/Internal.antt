pub mod NameForms
pub mod FaultsByLevel
pub mod PatternsByLevel
pub mod MeetsByName
pub mod Clean
