use Rattle.std.proofs.Common.{refl, arith}
use Rattle.sa_lexer.specs.declared.token.TokenKind.TheVariants as token
use Rattle.sa_lexer.specs.declared.sign.Sign.TheVariants as sign
use Rattle.sa_parser_expr.specs.Expressions as exprs
use Rattle.sa_parser_expr.proofs.operators.comparing.Goals as goal

pub returns-in-Some-Sign-Equal-clause-spelled : goal.returns-in-Some-Sign-Equal-clause-spelled
returns-in-Some-Sign-Equal-clause-spelled c = record { kind = token.Sign sign.Equal; there = grind arith; is = exprs.equal (record { kind = refl }) }

pub returns-in-Some-Sign-NotEqual-clause-spelled : goal.returns-in-Some-Sign-NotEqual-clause-spelled
returns-in-Some-Sign-NotEqual-clause-spelled c = record { kind = token.Sign sign.NotEqual; there = grind arith; is = exprs.not_equal (record { kind = refl }) }

pub returns-in-Some-Sign-Less-clause-spelled : goal.returns-in-Some-Sign-Less-clause-spelled
returns-in-Some-Sign-Less-clause-spelled c = record { kind = token.Sign sign.Less; there = grind arith; is = exprs.less (record { kind = refl }) }

pub returns-in-Some-Sign-LessEqual-clause-spelled : goal.returns-in-Some-Sign-LessEqual-clause-spelled
returns-in-Some-Sign-LessEqual-clause-spelled c = record { kind = token.Sign sign.LessEqual; there = grind arith; is = exprs.less_equal (record { kind = refl }) }

pub returns-in-Some-Sign-Greater-clause-spelled : goal.returns-in-Some-Sign-Greater-clause-spelled
returns-in-Some-Sign-Greater-clause-spelled c = record { kind = token.Sign sign.Greater; there = grind arith; is = exprs.greater (record { kind = refl }) }

pub returns-in-Some-Sign-GreaterEqual-clause-spelled : goal.returns-in-Some-Sign-GreaterEqual-clause-spelled
returns-in-Some-Sign-GreaterEqual-clause-spelled c = record { kind = token.Sign sign.GreaterEqual; there = grind arith; is = exprs.greater_equal (record { kind = refl }) }
