use Rattle.std.proofs.Common.{refl, sym}
use Rattle.sa_ast.specs.declared.ty.Ty.TheVariants as ty
use Rattle.sa_include_names.specs.Tables.{number_in}
use Rattle.sa_include.proofs.Bringing.{clause_brings}
use Rattle.sa_include.proofs.include_trial.try_clause.Goals as goal

pub returns : goal.returns
returns c =
    clause_brings (number_in c.args.includes.now.numbers) c.args.whole.now c.args.made.now c.args.clause.now c.in-Some.number
    c.in_ok-included.included.now c.in_ok-by.by c.as_slice.result.now c.given_in.result.now (ty.Same c.args.made.now.name.pos)
    c.args.known.now c.as_slice-changes.result.now c.is_immutable.result c.as_slice-2.result.now (sym c.in-Some.ensures) c.in_ok-included.ensures
    c.in_ok-by.ensures c.as_slice.ensures c.given_in.ensures refl c.requires c.as_slice-changes.ensures c.is_immutable.ensures
    c.as_slice-2.ensures c.in_ok-try_features.ensures
