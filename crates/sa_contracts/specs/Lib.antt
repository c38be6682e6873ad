pub mod AskedChecks
pub mod Assertions
pub mod ContractTables
pub mod ExitChecks
pub mod NotQuiet
pub mod Quiet
pub mod InitialValues
pub mod WovenClasses
