pub mod PageTests
