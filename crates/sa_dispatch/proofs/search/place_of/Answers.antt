use Rattle.sa_dispatch.proofs.Found.{found, not_found}
use Rattle.sa_dispatch.proofs.search.place_of.Goals as goal

pub returns-in-Ok-clause-place : goal.returns-in-Ok-clause-place
returns-in-Ok-clause-place c = found c.args.types.now c.args.ty c.in-Ok.place c.requires c.in-Ok.ensures.position

pub returns-in-Err-clause-place : goal.returns-in-Err-clause-place
returns-in-Err-clause-place c = not_found c.args.types.now c.args.ty c.in-Err.field-0 c.requires c.in-Err.ensures.position
