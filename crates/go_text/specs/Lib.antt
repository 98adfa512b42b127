-- Go's patterns, written in the syntax that the kit's regular expressions read.
pub mod Texts
pub mod Literals
pub mod Escapes
pub mod Properties
pub mod Brackets
pub mod Groups
pub mod Repetitions
pub mod KitSyntax
pub mod Internal
