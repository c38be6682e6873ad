use Rattle.std.proofs.Common.{sym, ◌∙◌}
use Rattle.sa_unify.specs.DeclaredEdges.{seen}
use Rattle.sa_unify.proofs.Declaring.{add-own}
use Rattle.sa_unify.proofs.written.add_class.Goals as goal

pub returns : goal.returns
returns c =
    add-own (seen c.args.out.now.items) (seen c.add_edges.new.out.items) c.args.names.now c.args.place c.in-Some.own c.args.class.now c.in_ok-header.header (sym c.in-Some.is ∙ c.number.ensures) c.if-own-place.false c.in_ok-header.ensures c.in_ok-add_edges.ensures
