pub mod CasesOpen
pub mod Cases
