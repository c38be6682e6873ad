use Rattle.std.proofs.Common.{◌≡◌, true, false, [], ◌∷◌, sym, ap, ◌∙◌, rules}
use Rattle.std.proofs.lemmas.List.{append-nil}
use Rattle.sa_parser_expr.specs.Positions.{kind_at}
use Rattle.sa_parser_expr.proofs.Runs.{taken, takes, stops, makes}
use Rattle.sa_parser.specs.ClassForms.{none_yet}
use Rattle.sa_parser.specs.Classes.{class_body_of, enclosing}
use Rattle.sa_parser.specs.FeatureForms.{member_form}
use Rattle.sa_parser.specs.Starts.{begins_member}
use Rattle.sa_parser.proofs.ExactClasses.{made_on}
use Rattle.sa_parser.proofs.ExactMembers as exact
use Rattle.sa_parser.proofs.class.add_member.Goals as goal

pub returns-then-not-begins_member-clause-exact : goal.returns-then-not-begins_member-clause-exact
returns-then-not-begins_member-clause-exact c =
    let t = c.args.tokens.now in
    let class = c.args.class in
    let begins : begins_member class.kind class.file_kind c.args.inside.now.invariant (kind_at t.list.now c.args.from) ≡ false =
    search rules in
    λ others was. record {
      written = [];
      taken = exact.no_member t class.name.now class.kind class.file_kind others c.args.from (rw was at begins);
      same = was ∙ ap (class_body_of class.place) (sym (append-nil others));
    }

pub returns-in_err-member-clause-exact : goal.returns-in_err-member-clause-exact
returns-in_err-member-clause-exact c =
    let t = c.args.tokens.now in
    let class = c.args.class in
    let begins : begins_member class.kind class.file_kind c.args.inside.now.invariant (kind_at t.list.now c.args.from) ≡ true =
    search rules in
    λ others was.
    made_on t _ (member_form (enclosing class) (none_yet others)) c.args.from _ (first_of (search rules, cc))
    (c.in_err-member.ensures.exact (none_yet others)
    (λ there. exact.where_invariant t class.name.now class.kind class.file_kind others c.args.from (rw was at begins) there))
    (λ rest r. exact.member_there t class.name.now class.kind class.file_kind others c.args.from (rw was at begins) (stops t r))

pub returns-clause-exact : goal.returns-clause-exact
returns-clause-exact c =
    let t = c.args.tokens.now in
    let class = c.args.class in
    let begins : begins_member class.kind class.file_kind c.args.inside.now.invariant (kind_at t.list.now c.args.from) ≡ true =
    search rules in
    let one = c.in_ok-member in
    let put = c.in_ok-put.ensures in
    λ others was. record {
      written = one.member ∷ [];
      taken = takes t
          (exact.member_there t class.name.now class.kind class.file_kind others c.args.from (rw was at begins)
          (makes t one.next
          (taken t (one.ensures.exact (none_yet others)
          (λ there. exact.where_invariant t class.name.now class.kind class.file_kind others c.args.from (rw was at begins) there)))));
      same = exact.put_behind class.place others one.member _ _ was put.includes put.features put.clauses put.invariant;
    }
