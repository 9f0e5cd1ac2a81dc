pub mod Findings
pub mod FindingLaws
pub mod RungLaws
