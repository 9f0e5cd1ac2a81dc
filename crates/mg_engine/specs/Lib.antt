pub mod Changing
pub mod Engines
pub mod KeyCollecting
pub mod Keyed
pub mod KeeperLaws
pub mod Noting
pub mod Places
