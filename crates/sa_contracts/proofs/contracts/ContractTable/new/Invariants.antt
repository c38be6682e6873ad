use Rattle.std.proofs.Common.{take}
use Rattle.sa_contracts.specs.ContractTables.{HasContracts}
use Rattle.sa_contracts.proofs.contracts.ContractTable.new.Given as goal

abbrev pub invariant-loop-contract : goal.invariant-loop-contract
invariant-loop-contract l = HasContracts l.table (take l.contract-index l.contracts)
