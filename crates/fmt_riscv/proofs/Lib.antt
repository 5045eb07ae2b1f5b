pub mod RiscvCode
