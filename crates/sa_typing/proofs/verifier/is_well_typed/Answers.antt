-- The view has the tables of the program.
use Rattle.sa_typing.specs.Rows.{rows}
use Rattle.sa_typing.proofs.Parts.{by-rows}
use Rattle.sa_typing.proofs.verifier.is_well_typed.Goals as goal

pub returns : goal.returns
returns c = by-rows c.are_well_typed.result (rows c.view.result) c.args.core.now c.view.ensures c.are_well_typed.ensures
