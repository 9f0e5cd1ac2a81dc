pub mod CommandLine
pub mod SpellingLaws
pub mod CommandLineLaws
pub mod Program
pub mod ProgramLaws
