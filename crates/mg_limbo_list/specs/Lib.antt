pub mod Limbo
