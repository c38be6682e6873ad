use Rattle.std.proofs.Common.{◌≡◌, rules}
use Rattle.std.specs.Prelude.{slice_get}
use Rattle.wa_valid.proofs.Functions.{function-says, few_of}
use Rattle.wa_valid.proofs.instruction.function.Goals as goal

pub returns : goal.returns
returns c =
    let ty = c.in_ok-ty.ty.now in
    let is : c.copied-result.result ≡ slice_get c.in_ok-ty.ty.now.results 0 = search rules in
    function-says c.args.context.now c.args.func.now ty c.in_ok-declared.declared c.copied-result.result c.as_slice-2.result.now c.block.result c.in_ok-declared.ensures.ok c.in_ok-ty.ensures.ok (few_of c.args.context.now.types.now c.args.func.now.ty ty c.requires c.in_ok-ty.ensures.ok) is c.as_slice-2.ensures (rw c.new-labels.ensures at c.block.ensures.says)
