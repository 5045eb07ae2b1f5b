pub mod VmsaCode
