use Rattle.std.proofs.Common.{◌≡◌, ◌≢◌, Some, refl, rules, arith}
use Rattle.sa_lexer.specs.declared.token.TokenKind.TheVariants as token
use Rattle.sa_lexer.specs.declared.word.Word.TheVariants as word
use Rattle.sa_ast.specs.declared.ty.Mode.TheVariants.{In, Out, Inout, Once}
use Rattle.sa_parser_expr.specs.declared.types.CallableKind.TheVariants.{Iter}
use Rattle.sa_parser_expr.specs.Positions.{kind_at}
use Rattle.sa_parser_expr.specs.Types as types
use Rattle.sa_parser_expr.proofs.ExactTypes.{mode_out, mode_inout, mode_in, mode_once, mode_not_once, no_mode_word}
use Rattle.sa_parser_expr.proofs.SpelledTypes.{mode_word, no_mode}
use Rattle.sa_parser_expr.proofs.types.read_mode.Goals as goal

pub returns-in-Some-Word-Out-clause-spelled : goal.returns-in-Some-Word-Out-clause-spelled
returns-in-Some-Word-Out-clause-spelled c =
    let there : kind_at c.args.tokens.now.list.now c.args.from ≡ Some (token.Word word.Out) = grind arith in
    mode_word c.args.tokens.now c.args.callable Out (token.Word word.Out) c.args.from there (types.out_word (record { kind = refl }))

pub returns-in-Some-Word-Inout-clause-spelled : goal.returns-in-Some-Word-Inout-clause-spelled
returns-in-Some-Word-Inout-clause-spelled c =
    let there : kind_at c.args.tokens.now.list.now c.args.from ≡ Some (token.Word word.Inout) = grind arith in
    mode_word c.args.tokens.now c.args.callable Inout (token.Word word.Inout) c.args.from there (types.inout_word (record { kind = refl }))

pub returns-in-Some-Word-In-clause-spelled : goal.returns-in-Some-Word-In-clause-spelled
returns-in-Some-Word-In-clause-spelled c =
    let there : kind_at c.args.tokens.now.list.now c.args.from ≡ Some (token.Word word.In) = grind arith in
    mode_word c.args.tokens.now c.args.callable In (token.Word word.In) c.args.from there (types.in_word (record { kind = refl }))

pub returns-in-Some-Word-Once-clause-spelled : goal.returns-in-Some-Word-Once-clause-spelled
returns-in-Some-Word-Once-clause-spelled c =
    let there : kind_at c.args.tokens.now.list.now c.args.from ≡ Some (token.Word word.Once) = grind arith in
    let iter : c.args.callable ≡ Iter = search rules in
    mode_word c.args.tokens.now c.args.callable Once (token.Word word.Once) c.args.from there (types.once_word iter (record { kind = refl }))

pub returns-in_default-clause-spelled : goal.returns-in_default-clause-spelled
returns-in_default-clause-spelled c = no_mode c.args.tokens.now c.args.callable c.args.from

pub returns-in_default-2-clause-spelled : goal.returns-in_default-2-clause-spelled
returns-in_default-2-clause-spelled c = no_mode c.args.tokens.now c.args.callable c.args.from

pub returns-in_default-3-clause-spelled : goal.returns-in_default-3-clause-spelled
returns-in_default-3-clause-spelled c = no_mode c.args.tokens.now c.args.callable c.args.from

pub returns-in_default-4-clause-spelled : goal.returns-in_default-4-clause-spelled
returns-in_default-4-clause-spelled c = no_mode c.args.tokens.now c.args.callable c.args.from

pub returns-in-Some-Word-Out-clause-exact : goal.returns-in-Some-Word-Out-clause-exact
returns-in-Some-Word-Out-clause-exact c = mode_out c.args.tokens.now c.args.callable c.args.from (grind arith)

pub returns-in-Some-Word-Inout-clause-exact : goal.returns-in-Some-Word-Inout-clause-exact
returns-in-Some-Word-Inout-clause-exact c = mode_inout c.args.tokens.now c.args.callable c.args.from (grind arith)

pub returns-in-Some-Word-In-clause-exact : goal.returns-in-Some-Word-In-clause-exact
returns-in-Some-Word-In-clause-exact c = mode_in c.args.tokens.now c.args.callable c.args.from (grind arith)

pub returns-in-Some-Word-Once-clause-exact : goal.returns-in-Some-Word-Once-clause-exact
returns-in-Some-Word-Once-clause-exact c =
    let iter : c.args.callable ≡ Iter = search rules in
    mode_once c.args.tokens.now c.args.callable c.args.from (grind arith) iter

pub returns-in_default-clause-exact : goal.returns-in_default-clause-exact
returns-in_default-clause-exact c =
    let once : kind_at c.args.tokens.now.list.now c.args.from ≡ Some (token.Word word.Once) = grind arith in
    let no_iter : c.args.callable ≢ Iter = search rules in
    mode_not_once c.args.tokens.now c.args.callable c.args.from once no_iter

pub returns-in_default-2-clause-exact : goal.returns-in_default-2-clause-exact
returns-in_default-2-clause-exact c =
    no_mode_word c.args.tokens.now c.args.callable c.args.from (search rules) (search rules) (search rules) (search rules)

pub returns-in_default-3-clause-exact : goal.returns-in_default-3-clause-exact
returns-in_default-3-clause-exact c =
    no_mode_word c.args.tokens.now c.args.callable c.args.from (search rules) (search rules) (search rules) (search rules)

pub returns-in_default-4-clause-exact : goal.returns-in_default-4-clause-exact
returns-in_default-4-clause-exact c =
    no_mode_word c.args.tokens.now c.args.callable c.args.from (search rules) (search rules) (search rules) (search rules)
