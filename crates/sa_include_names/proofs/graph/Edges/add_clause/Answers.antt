use Rattle.sa_include_names.proofs.Clauses.{edge_named}
use Rattle.sa_include_names.proofs.graph.Edges.add_clause.Goals as goal

pub returns-in_ok-add-in-Some : goal.returns-in_ok-add-in-Some
returns-in_ok-add-in-Some c =
    edge_named c.args.self.now c.add.new.self c.args.number c.in-Some.included c.included_class.result _ c.in_ok-add-in-Some.ensures c.included_class.ensures c.in-Some.is
