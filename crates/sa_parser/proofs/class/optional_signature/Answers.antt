use Rattle.std.proofs.Common.{◌≡◌, ◌≢◌, ◌⊎◌, [], ◌∷◌, Some, ap, rules}
use Rattle.sa_lexer.specs.declared.token.TokenKind.TheVariants as token
use Rattle.sa_parser_expr.specs.Positions.{kind_at}
use Rattle.sa_parser_expr.proofs.Runs.{taken, takes, handed_on, stops, makes}
use Rattle.sa_parser_expr.proofs.Tested.{feature_met}
use Rattle.sa_parser.specs.SignatureForms.{sig_form}
use Rattle.sa_parser.proofs.ExactClasses as exact
use Rattle.sa_parser.proofs.ExactStatements.{shut_feature, same_tree}
use Rattle.sa_parser.proofs.SpelledStatements.{feature_stands}
use Rattle.sa_parser.proofs.class.optional_signature.Goals as goal

pub returns-then-not-is_feature_name-clause-exact : goal.returns-then-not-is_feature_name-clause-exact
returns-then-not-is_feature_name-clause-exact c =
    let t = c.args.tokens.now in
    let no_lower : kind_at t.list.now c.args.from ≢ Some token.Lower = search rules in
    let no_iter : kind_at t.list.now c.args.from ≢ Some token.IterName = search rules in
    exact.no_sig t c.args.from (shut_feature t c.args.from no_lower no_iter)

pub returns-in_err-sig-clause-exact : goal.returns-in_err-sig-clause-exact
returns-in_err-sig-clause-exact c =
    let t = c.args.tokens.now in
    let kinds : (kind_at t.list.now c.args.from ≡ Some token.Lower) ⊎ (kind_at t.list.now c.args.from ≡ Some token.IterName) =
    c.is_feature_name.ensures.value.0 (search rules) in
    let there = feature_stands t c.args.from kinds in
    handed_on t sig_form c.args.from _ (search rules) c.in_err-sig.ensures.exact
    (λ rest r. exact.sig_there t c.args.from there.kind there.there (feature_met there.is) (stops t r))

pub returns-clause-exact : goal.returns-clause-exact
returns-clause-exact c =
    let t = c.args.tokens.now in
    let kinds : (kind_at t.list.now c.args.from ≡ Some token.Lower) ⊎ (kind_at t.list.now c.args.from ≡ Some token.IterName) =
    c.is_feature_name.ensures.value.0 (search rules) in
    let there = feature_stands t c.args.from kinds in
    let sig = c.in_ok-sig in
    same_tree t
    (takes t (exact.sig_there t c.args.from there.kind there.there (feature_met there.is) (makes t sig.next (taken t sig.ensures.exact))))
    (ap (λ feature. feature ∷ []) c.of_sig.ensures)
