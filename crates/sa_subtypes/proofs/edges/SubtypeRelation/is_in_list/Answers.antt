use Rattle.std.proofs.Common.{map, rules}
use Rattle.sa_ast.specs.Types.{bare}
use Rattle.sa_subtypes.specs.SubtypeTest.{tables_in}
use Rattle.sa_subtypes.proofs.Asking.{link-other, link-goes}
use Rattle.sa_subtypes.proofs.edges.SubtypeRelation.is_in_list.Goals as goal

pub returns-then-not-has_list : goal.returns-then-not-has_list
returns-then-not-has_list c =
    link-other (tables_in c.args.self.now) c.args.lower (map bare c.args.args.now) c.args.upper (map bare c.args.above.now) c.link.result c.link.ensures c.in-Some.link c.has_list.result c.in-Some.is c.has_list.ensures (search rules)

pub returns-else-not-has_list : goal.returns-else-not-has_list
returns-else-not-has_list c =
    link-goes (tables_in c.args.self.now) c.args.lower (map bare c.args.args.now) c.args.upper (map bare c.args.above.now) c.link.result c.link.ensures c.in-Some.link c.has_list.result c.is_listed.result c.in-Some.is c.has_list.ensures (search rules) c.is_listed.ensures
