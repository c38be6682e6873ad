use Rattle.std.proofs.Common.{refl, arith}
use Rattle.sa_lexer.specs.declared.token.TokenKind.TheVariants as token
use Rattle.sa_lexer.specs.declared.word.Word.TheVariants as word
use Rattle.sa_parser_expr.specs.Expressions as exprs
use Rattle.sa_parser_expr.proofs.operators.logical.Goals as goal

pub returns-in-Some-Word-And-clause-spelled : goal.returns-in-Some-Word-And-clause-spelled
returns-in-Some-Word-And-clause-spelled c = record { kind = token.Word word.And; there = grind arith; is = exprs.and_word (record { kind = refl }) }

pub returns-in-Some-Word-Or-clause-spelled : goal.returns-in-Some-Word-Or-clause-spelled
returns-in-Some-Word-Or-clause-spelled c = record { kind = token.Word word.Or; there = grind arith; is = exprs.or_word (record { kind = refl }) }
