pub mod PerLot
pub mod Laws
pub mod Rules
pub mod Freed
pub mod Worked
pub mod RulesLemmas
pub mod Lots
