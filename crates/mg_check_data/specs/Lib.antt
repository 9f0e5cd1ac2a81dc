pub mod DataRung
