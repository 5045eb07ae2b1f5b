pub mod AmdCode
