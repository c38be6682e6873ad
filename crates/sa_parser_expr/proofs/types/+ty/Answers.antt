-- What is read is spelled so: a lemma of `SpelledTypes` at each return.
use Rattle.std.proofs.Common.{◌≡◌, ◌≢◌, ◌⊎◌, ◌+◌, Some, refl, rules, arith}
use Rattle.sa_lexer.specs.declared.token.TokenKind.TheVariants as token
use Rattle.sa_lexer.specs.declared.sign.Sign.TheVariants as sign
use Rattle.sa_lexer.specs.declared.word.Word.TheVariants as word
use Rattle.sa_parser_expr.specs.declared.types.CallableKind.TheVariants.{Routine, Iter}
use Rattle.sa_parser_expr.specs.Forms.{list, nest, type}
use Rattle.sa_parser_expr.specs.Positions.{kind_at}
use Rattle.sa_parser_expr.specs.TypeForms.{given_types_form, mode_type_form, bound_args_form, bound_result_form}
use Rattle.sa_parser_expr.specs.Types as types
use Rattle.sa_parser_expr.proofs.ExactTypes as exact
use Rattle.sa_parser_expr.proofs.Runs.{taken, takes, handed_on, refused_at, follows, stops, closed, unclosed, first_listed, next_taken, all_listed, first_refused, next_refused}
use Rattle.sa_parser_expr.proofs.SpelledTypes.{class_stands, named, same, rout, iter, no_given, given, more_types, no_args, bound_args, more_args, mode_type, no_result, of_result}
use Rattle.sa_parser_expr.proofs.types.+ty.Goals as goal
use Rattle.sa_parser_expr.proofs.types.+ty.Goals.{read_type-in_default-via-in-Some+in-Word+in_default, read_type-in_default-via-in-Some+in_default, read_type-in_default-via-in_default}

pub read_type-returns-in_ok-given-in-Some-ClassName-clause-spelled : goal.read_type-returns-in_ok-given-in-Some-ClassName-clause-spelled
read_type-returns-in_ok-given-in-Some-ClassName-clause-spelled t c =
    let kind = c.in-Some-ClassName.field-0.now in
    let there : kind_at c.args.tokens.now.list.now c.args.from ≡ Some kind = first_of (search rules, grind arith) in
    let names : (kind ≡ token.ClassName) ⊎ (kind ≡ token.AbstractName) = first_of (assumption c.in-Some-ClassName, search rules) in
    let class = class_stands c.args.tokens.now c.args.from kind there names in
    named c.args.tokens.now c.args.from _ _ _ _ class (omega (arith, c.in_ok-given-in-Some-ClassName.ensures.next.0)) (search rules) (search rules) c.in_ok-given-in-Some-ClassName.ensures.spelled

pub read_type-returns-in-Some-Word-Same-clause-spelled : goal.read_type-returns-in-Some-Word-Same-clause-spelled
read_type-returns-in-Some-Word-Same-clause-spelled t c = same c.args.tokens.now c.args.from _ (grind arith) (search rules)

pub read_type-returns-in_ok-gives-in-Some-Word-Rout-clause-spelled : goal.read_type-returns-in_ok-gives-in-Some-Word-Rout-clause-spelled
read_type-returns-in_ok-gives-in-Some-Word-Rout-clause-spelled t c =
    let args = c.in_ok-args-in-Some-Word-Rout in
    let gives = c.in_ok-gives-in-Some-Word-Rout in
    rout c.args.tokens.now c.args.from args.next _ _ _ _ (grind arith) (search rules) (omega (arith, args.ensures.next.0)) gives.ensures.next.0 args.ensures.spelled gives.ensures.spelled

pub read_type-returns-in_ok-gives-in-Some-Word-Iter-clause-spelled : goal.read_type-returns-in_ok-gives-in-Some-Word-Iter-clause-spelled
read_type-returns-in_ok-gives-in-Some-Word-Iter-clause-spelled t c =
    let args = c.in_ok-args-in-Some-Word-Iter in
    let gives = c.in_ok-gives-in-Some-Word-Iter in
    iter c.args.tokens.now c.args.from args.next _ _ _ _ (grind arith) (search rules) (omega (arith, args.ensures.next.0)) gives.ensures.next.0 args.ensures.spelled gives.ensures.spelled

pub given_types-returns-then-not-is_sign-clause-spelled : goal.given_types-returns-then-not-is_sign-clause-spelled
given_types-returns-then-not-is_sign-clause-spelled t c = no_given c.args.tokens.now c.args.from _ (search rules)

pub given_types-returns-clause-spelled : goal.given_types-returns-clause-spelled
given_types-returns-clause-spelled t c =
    let opens : kind_at c.args.tokens.now.list.now c.args.from ≡ Some (token.Sign sign.LeftBrace) = search rules in
    let closes = c.in_ok-after_sign.ensures in
    given c.args.tokens.now c.args.from c.in_ok-types.next _ _ opens closes.sign (omega (arith, c.in_ok-types.ensures.next.0)) closes.next.0 c.in_ok-types.ensures.spelled

pub read_types-more-init : goal.read_types-more-init
read_types-more-init t c = record {
  following = c.in_ok-first.ensures.next;
  spelled = rw (c.in_ok-push.ensures.ok, c.new-types.ensures) (types.last_type c.in_ok-first.ensures.spelled);
  listed = rw (c.in_ok-push.ensures.ok, c.new-types.ensures) (first_listed c.args.tokens.now (taken c.args.tokens.now c.in_ok-first.ensures.exact));
}

pub read_types-more-preserved : goal.read_types-more-preserved
read_types-more-preserved t c =
    let comma : kind_at c.args.tokens.now.list.now c.more.next ≡ Some (token.Sign sign.Comma) = search rules in
    let next = c.in_ok-ty.ensures.next in
    record {
      following = (omega (arith, c.more.invariant.following.0, next.0), next.1);
      spelled = more_types c.args.tokens.now c.args.from c.more.next _ _ _ _ comma c.more.invariant.spelled c.in_ok-ty.ensures.spelled (omega (arith, c.more.invariant.following.0)) (omega (arith, next.0)) (search rules);
      listed = next_taken c.args.tokens.now c.more.invariant.listed comma c.in_ok-ty.ensures.exact (search rules);
    }

pub bound_args-returns-then-not-is_sign-clause-spelled : goal.bound_args-returns-then-not-is_sign-clause-spelled
bound_args-returns-then-not-is_sign-clause-spelled t c = no_args c.args.tokens.now c.args.callable c.args.from _ (search rules)

pub bound_args-returns-clause-spelled : goal.bound_args-returns-clause-spelled
bound_args-returns-clause-spelled t c =
    let opens : kind_at c.args.tokens.now.list.now c.args.from ≡ Some (token.Sign sign.LeftBrace) = search rules in
    let closes = c.in_ok-after_sign.ensures in
    bound_args c.args.tokens.now c.args.callable c.args.from c.in_ok-args.next _ _ opens closes.sign (omega (arith, c.in_ok-args.ensures.next.0)) closes.next.0 c.in_ok-args.ensures.spelled

pub mode_types-more-init : goal.mode_types-more-init
mode_types-more-init t c = record {
  following = c.in_ok-first.ensures.next;
  spelled = rw (c.in_ok-push.ensures.ok, c.new-args.ensures) (types.last_arg c.in_ok-first.ensures.spelled);
  listed = rw (c.in_ok-push.ensures.ok, c.new-args.ensures) (first_listed c.args.tokens.now (taken c.args.tokens.now c.in_ok-first.ensures.exact));
}

pub mode_types-more-preserved : goal.mode_types-more-preserved
mode_types-more-preserved t c =
    let comma : kind_at c.args.tokens.now.list.now c.more.next ≡ Some (token.Sign sign.Comma) = search rules in
    let next = c.in_ok-arg.ensures.next in
    record {
      following = (omega (arith, c.more.invariant.following.0, next.0), next.1);
      spelled = more_args c.args.tokens.now c.args.callable c.args.from c.more.next _ _ _ _ comma c.more.invariant.spelled c.in_ok-arg.ensures.spelled (omega (arith, c.more.invariant.following.0)) (omega (arith, next.0)) (search rules);
      listed = next_taken c.args.tokens.now c.more.invariant.listed comma c.in_ok-arg.ensures.exact (search rules);
    }

pub mode_type-returns-clause-spelled : goal.mode_type-returns-clause-spelled
mode_type-returns-clause-spelled t c =
    mode_type c.args.tokens.now c.args.callable c.args.from c.read_mode-mode.result.1 _ _ _ c.read_mode-mode.ensures.spelled c.in_ok-ty.ensures.spelled c.read_mode-mode.ensures.from (omega (arith, c.in_ok-ty.ensures.next.0))

pub bound_result-returns-then-not-is_sign-clause-spelled : goal.bound_result-returns-then-not-is_sign-clause-spelled
bound_result-returns-then-not-is_sign-clause-spelled t c = no_result c.args.tokens.now c.args.from

pub bound_result-returns-clause-spelled : goal.bound_result-returns-clause-spelled
bound_result-returns-clause-spelled t c =
    let colon : kind_at c.args.tokens.now.list.now c.args.from ≡ Some (token.Sign sign.Colon) = search rules in
    of_result c.args.tokens.now c.args.from _ c.in_ok-ty.ty _ colon c.in_ok-ty.ensures.spelled (omega (arith, c.in_ok-ty.ensures.next.0)) (search rules)

-- what is read is what the forms read: a lemma of `ExactTypes` at each return, and what a part refuses is refused

pub read_type-returns-in_ok-given-in-Some-ClassName-clause-exact : goal.read_type-returns-in_ok-given-in-Some-ClassName-clause-exact
read_type-returns-in_ok-given-in-Some-ClassName-clause-exact t c =
    let kind = c.in-Some-ClassName.field-0.now in
    let there : kind_at c.args.tokens.now.list.now c.args.from ≡ Some kind = first_of (search rules, grind arith) in
    let names : (kind ≡ token.ClassName) ⊎ (kind ≡ token.AbstractName) = first_of (assumption c.in-Some-ClassName, search rules) in
    exact.named c.args.tokens.now c.args.from _ _ _ _ (class_stands c.args.tokens.now c.args.from kind there names) (search rules) (search rules) c.in_ok-given-in-Some-ClassName.ensures.exact

pub read_type-returns-in_err-given-in-Some-ClassName-clause-exact : goal.read_type-returns-in_err-given-in-Some-ClassName-clause-exact
read_type-returns-in_err-given-in-Some-ClassName-clause-exact t c =
    let kind = c.in-Some-ClassName.field-0.now in
    let there : kind_at c.args.tokens.now.list.now c.args.from ≡ Some kind = first_of (search rules, grind arith) in
    let names : (kind ≡ token.ClassName) ⊎ (kind ≡ token.AbstractName) = first_of (assumption c.in-Some-ClassName, search rules) in
    handed_on c.args.tokens.now given_types_form (c.args.from + 1) _ (search rules) c.in_err-given-in-Some-ClassName.ensures.exact
    (λ rest r. exact.behind_class c.args.tokens.now c.args.from (class_stands c.args.tokens.now c.args.from kind there names) (stops c.args.tokens.now r))

pub read_type-returns-in-Some-Word-Same-clause-exact : goal.read_type-returns-in-Some-Word-Same-clause-exact
read_type-returns-in-Some-Word-Same-clause-exact t c =
    exact.same c.args.tokens.now c.args.from _ (grind arith) (search rules)

pub read_type-returns-in_ok-gives-in-Some-Word-Rout-clause-exact : goal.read_type-returns-in_ok-gives-in-Some-Word-Rout-clause-exact
read_type-returns-in_ok-gives-in-Some-Word-Rout-clause-exact t c =
    let args = c.in_ok-args-in-Some-Word-Rout in
    exact.rout c.args.tokens.now c.args.from args.next _ _ _ _ (grind arith) (search rules) args.ensures.exact c.in_ok-gives-in-Some-Word-Rout.ensures.exact

pub read_type-returns-in_err-args-in-Some-Word-Rout-clause-exact : goal.read_type-returns-in_err-args-in-Some-Word-Rout-clause-exact
read_type-returns-in_err-args-in-Some-Word-Rout-clause-exact t c =
    let there : kind_at c.args.tokens.now.list.now c.args.from ≡ Some (token.Word word.Rout) = grind arith in
    handed_on c.args.tokens.now (bound_args_form Routine) (c.args.from + 1) _ (search rules) c.in_err-args-in-Some-Word-Rout.ensures.exact
    (λ rest r. exact.behind_rout c.args.tokens.now c.args.from there (stops c.args.tokens.now r))

pub read_type-returns-in_err-gives-in-Some-Word-Rout-clause-exact : goal.read_type-returns-in_err-gives-in-Some-Word-Rout-clause-exact
read_type-returns-in_err-gives-in-Some-Word-Rout-clause-exact t c =
    let there : kind_at c.args.tokens.now.list.now c.args.from ≡ Some (token.Word word.Rout) = grind arith in
    let args = c.in_ok-args-in-Some-Word-Rout in
    handed_on c.args.tokens.now bound_result_form args.next _ (search rules) c.in_err-gives-in-Some-Word-Rout.ensures.exact
    (λ rest r. exact.behind_rout c.args.tokens.now c.args.from there (follows c.args.tokens.now (taken c.args.tokens.now args.ensures.exact) (stops c.args.tokens.now r)))

pub read_type-returns-in_ok-gives-in-Some-Word-Iter-clause-exact : goal.read_type-returns-in_ok-gives-in-Some-Word-Iter-clause-exact
read_type-returns-in_ok-gives-in-Some-Word-Iter-clause-exact t c =
    let args = c.in_ok-args-in-Some-Word-Iter in
    exact.iter c.args.tokens.now c.args.from args.next _ _ _ _ (grind arith) (search rules) args.ensures.exact c.in_ok-gives-in-Some-Word-Iter.ensures.exact

pub read_type-returns-in_err-args-in-Some-Word-Iter-clause-exact : goal.read_type-returns-in_err-args-in-Some-Word-Iter-clause-exact
read_type-returns-in_err-args-in-Some-Word-Iter-clause-exact t c =
    let there : kind_at c.args.tokens.now.list.now c.args.from ≡ Some (token.Word word.Iter) = grind arith in
    handed_on c.args.tokens.now (bound_args_form Iter) (c.args.from + 1) _ (search rules) c.in_err-args-in-Some-Word-Iter.ensures.exact
    (λ rest r. exact.behind_iter c.args.tokens.now c.args.from there (stops c.args.tokens.now r))

pub read_type-returns-in_err-gives-in-Some-Word-Iter-clause-exact : goal.read_type-returns-in_err-gives-in-Some-Word-Iter-clause-exact
read_type-returns-in_err-gives-in-Some-Word-Iter-clause-exact t c =
    let there : kind_at c.args.tokens.now.list.now c.args.from ≡ Some (token.Word word.Iter) = grind arith in
    let args = c.in_ok-args-in-Some-Word-Iter in
    handed_on c.args.tokens.now bound_result_form args.next _ (search rules) c.in_err-gives-in-Some-Word-Iter.ensures.exact
    (λ rest r. exact.behind_iter c.args.tokens.now c.args.from there (follows c.args.tokens.now (taken c.args.tokens.now args.ensures.exact) (stops c.args.tokens.now r)))

pub read_type-returns-in_default-clause-exact : goal.read_type-returns-in_default-clause-exact
read_type-returns-in_default-clause-exact t c =
    refused_at c.args.tokens.now c.args.from c.unexpected.result refl c.unexpected.ensures.value
    (elim c.in_default.branch [
      | read_type-in_default-via-in-Some+in-Word+in_default w ↦ exact.no_type c.args.tokens.now c.args.from (exact.no_class c.args.tokens.now c.args.from (search rules) (search rules)) (search rules) (search rules) (search rules)
      | read_type-in_default-via-in-Some+in_default w ↦ exact.no_type c.args.tokens.now c.args.from (exact.no_class c.args.tokens.now c.args.from (search rules) (search rules)) (search rules) (search rules) (search rules)
      | read_type-in_default-via-in_default w ↦ exact.no_type c.args.tokens.now c.args.from (exact.no_class c.args.tokens.now c.args.from (search rules) (search rules)) (search rules) (search rules) (search rules)
    ])

pub given_types-returns-then-not-is_sign-clause-exact : goal.given_types-returns-then-not-is_sign-clause-exact
given_types-returns-then-not-is_sign-clause-exact t c =
    let other : kind_at c.args.tokens.now.list.now c.args.from ≢ Some (token.Sign sign.LeftBrace) = search rules in
    exact.no_given c.args.tokens.now c.args.from _ other (search rules)

pub given_types-returns-in_err-types-clause-exact : goal.given_types-returns-in_err-types-clause-exact
given_types-returns-in_err-types-clause-exact t c =
    let opens : kind_at c.args.tokens.now.list.now c.args.from ≡ Some (token.Sign sign.LeftBrace) = search rules in
    handed_on c.args.tokens.now (list (nest type)) (c.args.from + 1) _ (search rules) c.in_err-types.ensures.exact
    (λ rest r. exact.behind_brace c.args.tokens.now c.args.from opens (stops c.args.tokens.now r))

pub given_types-returns-in_err-after_sign-clause-exact : goal.given_types-returns-in_err-after_sign-clause-exact
given_types-returns-in_err-after_sign-clause-exact t c =
    let opens : kind_at c.args.tokens.now.list.now c.args.from ≡ Some (token.Sign sign.LeftBrace) = search rules in
    let other = c.in_err-after_sign.ensures in
    refused_at c.args.tokens.now c.in_ok-types.next _ (search rules) other.fault
    (exact.behind_brace c.args.tokens.now c.args.from opens (unclosed c.args.tokens.now c.in_ok-types.next (taken c.args.tokens.now c.in_ok-types.ensures.exact) other.another))

pub given_types-returns-clause-exact : goal.given_types-returns-clause-exact
given_types-returns-clause-exact t c =
    let opens : kind_at c.args.tokens.now.list.now c.args.from ≡ Some (token.Sign sign.LeftBrace) = search rules in
    let closes = c.in_ok-after_sign.ensures in
    rw closes.next.0
    (takes c.args.tokens.now (exact.behind_brace c.args.tokens.now c.args.from opens (closed c.args.tokens.now c.in_ok-types.next (taken c.args.tokens.now c.in_ok-types.ensures.exact) closes.sign)))

pub bound_args-returns-then-not-is_sign-clause-exact : goal.bound_args-returns-then-not-is_sign-clause-exact
bound_args-returns-then-not-is_sign-clause-exact t c =
    let other : kind_at c.args.tokens.now.list.now c.args.from ≢ Some (token.Sign sign.LeftBrace) = search rules in
    exact.no_args c.args.tokens.now c.args.callable c.args.from _ other (search rules)

pub bound_args-returns-in_err-args-clause-exact : goal.bound_args-returns-in_err-args-clause-exact
bound_args-returns-in_err-args-clause-exact t c =
    let opens : kind_at c.args.tokens.now.list.now c.args.from ≡ Some (token.Sign sign.LeftBrace) = search rules in
    handed_on c.args.tokens.now (list (mode_type_form c.args.callable)) (c.args.from + 1) _ (search rules) c.in_err-args.ensures.exact
    (λ rest r. exact.behind_args_brace c.args.tokens.now c.args.callable c.args.from opens (stops c.args.tokens.now r))

pub bound_args-returns-in_err-after_sign-clause-exact : goal.bound_args-returns-in_err-after_sign-clause-exact
bound_args-returns-in_err-after_sign-clause-exact t c =
    let opens : kind_at c.args.tokens.now.list.now c.args.from ≡ Some (token.Sign sign.LeftBrace) = search rules in
    let other = c.in_err-after_sign.ensures in
    refused_at c.args.tokens.now c.in_ok-args.next _ (search rules) other.fault
    (exact.behind_args_brace c.args.tokens.now c.args.callable c.args.from opens (unclosed c.args.tokens.now c.in_ok-args.next (taken c.args.tokens.now c.in_ok-args.ensures.exact) other.another))

pub bound_args-returns-clause-exact : goal.bound_args-returns-clause-exact
bound_args-returns-clause-exact t c =
    let opens : kind_at c.args.tokens.now.list.now c.args.from ≡ Some (token.Sign sign.LeftBrace) = search rules in
    let closes = c.in_ok-after_sign.ensures in
    rw closes.next.0
    (takes c.args.tokens.now (exact.behind_args_brace c.args.tokens.now c.args.callable c.args.from opens (closed c.args.tokens.now c.in_ok-args.next (taken c.args.tokens.now c.in_ok-args.ensures.exact) closes.sign)))

pub read_types-returns-in_err-first-clause-exact : goal.read_types-returns-in_err-first-clause-exact
read_types-returns-in_err-first-clause-exact t c =
    handed_on c.args.tokens.now (nest type) c.args.from _ (search rules) c.in_err-first.ensures.exact (λ rest r. first_refused c.args.tokens.now r)

pub read_types-returns-in_err-ty-clause-exact : goal.read_types-returns-in_err-ty-clause-exact
read_types-returns-in_err-ty-clause-exact t c =
    let comma : kind_at c.args.tokens.now.list.now c.more.next ≡ Some (token.Sign sign.Comma) = search rules in
    handed_on c.args.tokens.now (nest type) (c.more.next + 1) _ (search rules) c.in_err-ty.ensures.exact
    (λ rest r. next_refused c.args.tokens.now c.more.invariant.listed comma r)

pub read_types-returns-clause-exact : goal.read_types-returns-clause-exact
read_types-returns-clause-exact t c =
    let other : kind_at c.args.tokens.now.list.now c.more.next ≢ Some (token.Sign sign.Comma) = search rules in
    takes c.args.tokens.now (all_listed c.args.tokens.now c.more.invariant.listed other)

pub mode_types-returns-in_err-first-clause-exact : goal.mode_types-returns-in_err-first-clause-exact
mode_types-returns-in_err-first-clause-exact t c =
    handed_on c.args.tokens.now (mode_type_form c.args.callable) c.args.from _ (search rules) c.in_err-first.ensures.exact (λ rest r. first_refused c.args.tokens.now r)

pub mode_types-returns-in_err-arg-clause-exact : goal.mode_types-returns-in_err-arg-clause-exact
mode_types-returns-in_err-arg-clause-exact t c =
    let comma : kind_at c.args.tokens.now.list.now c.more.next ≡ Some (token.Sign sign.Comma) = search rules in
    handed_on c.args.tokens.now (mode_type_form c.args.callable) (c.more.next + 1) _ (search rules) c.in_err-arg.ensures.exact
    (λ rest r. next_refused c.args.tokens.now c.more.invariant.listed comma r)

pub mode_types-returns-clause-exact : goal.mode_types-returns-clause-exact
mode_types-returns-clause-exact t c =
    let other : kind_at c.args.tokens.now.list.now c.more.next ≢ Some (token.Sign sign.Comma) = search rules in
    takes c.args.tokens.now (all_listed c.args.tokens.now c.more.invariant.listed other)

pub mode_type-returns-in_err-ty-clause-exact : goal.mode_type-returns-in_err-ty-clause-exact
mode_type-returns-in_err-ty-clause-exact t c =
    let mode = c.read_mode-mode in
    handed_on c.args.tokens.now (nest type) mode.result.1 _ (search rules) c.in_err-ty.ensures.exact
    (λ rest r. exact.behind_mode c.args.tokens.now c.args.callable c.args.from mode.result.1 mode.result.0 mode.ensures.exact (stops c.args.tokens.now r))

pub mode_type-returns-clause-exact : goal.mode_type-returns-clause-exact
mode_type-returns-clause-exact t c =
    exact.mode_type c.args.tokens.now c.args.callable c.args.from c.read_mode-mode.result.1 _ _ _ c.read_mode-mode.ensures.exact c.in_ok-ty.ensures.exact

pub bound_result-returns-then-not-is_sign-clause-exact : goal.bound_result-returns-then-not-is_sign-clause-exact
bound_result-returns-then-not-is_sign-clause-exact t c =
    let other : kind_at c.args.tokens.now.list.now c.args.from ≢ Some (token.Sign sign.Colon) = search rules in
    exact.no_result c.args.tokens.now c.args.from other

pub bound_result-returns-in_err-ty-clause-exact : goal.bound_result-returns-in_err-ty-clause-exact
bound_result-returns-in_err-ty-clause-exact t c =
    let colon : kind_at c.args.tokens.now.list.now c.args.from ≡ Some (token.Sign sign.Colon) = search rules in
    handed_on c.args.tokens.now (nest type) (c.args.from + 1) _ (search rules) c.in_err-ty.ensures.exact
    (λ rest r. exact.behind_colon c.args.tokens.now c.args.from colon (stops c.args.tokens.now r))

pub bound_result-returns-clause-exact : goal.bound_result-returns-clause-exact
bound_result-returns-clause-exact t c =
    let colon : kind_at c.args.tokens.now.list.now c.args.from ≡ Some (token.Sign sign.Colon) = search rules in
    exact.of_result c.args.tokens.now c.args.from _ c.in_ok-ty.ty _ colon c.in_ok-ty.ensures.exact (search rules)
