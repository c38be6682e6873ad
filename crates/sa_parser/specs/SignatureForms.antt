-- The forms of signatures, production by production.
use Rattle.std.specs.Prelude.{List, [], Option, Some, None, map}
use Rattle.sa_lexer.specs.declared.sign.Sign.TheVariants as sign
use Rattle.sa_ast.specs.declared.ty.Ty.{Ty}
use Rattle.sa_ast.specs.declared.class.FormalParam.{FormalParam}
use Rattle.sa_parser_expr.specs.declared.types.CallableKind.{CallableKind}
use Rattle.sa_parser_expr.specs.Lexemes.{name_of}
use Rattle.sa_parser_expr.specs.Tests.{is_sign, is_feature}
use Rattle.sa_parser_expr.specs.Forms.{Form, give, refuse, shift, follow, list, nest, type, make, until}
use Rattle.sa_parser_expr.specs.TypeForms.{mode_form}
use Rattle.sa_parser_expr.specs.StatementForms.{names_form, joined}
use Rattle.sa_parser.specs.declared.signature.HeaderSignature.{HeaderSignature}
use Rattle.sa_parser.specs.Signatures.{callable_of, formal_of}

-- formal = [mode] LNAME {"," LNAME} ":" type
unfoldable pub formal_form : CallableKind → Form (List FormalParam)
formal_form callable =
    follow (mode_form callable)
    (λ mode. follow names_form
    (λ names. shift (is_sign sign.Colon) (λ _. make (λ t. map (formal_of mode t) names) (nest type)) refuse))

-- formal {"," formal}
unfoldable pub formals_form : CallableKind → Form (List FormalParam)
formals_form callable = make joined (list (formal_form callable))

-- ["(" formal {"," formal} ")"]
unfoldable pub arguments_form : CallableKind → Form (List FormalParam)
arguments_form callable = shift (is_sign sign.LeftParen) (λ _. until sign.RightParen (formals_form callable)) (give [])

-- [":" type]
unfoldable pub written_result_form : Form (Option Ty)
written_result_form = shift (is_sign sign.Colon) (λ _. make Some (nest type)) (give None)

-- sig = F ["(" formal {"," formal} ")"] [":" type]
unfoldable pub sig_form : Form HeaderSignature
sig_form =
    shift is_feature
    (λ f. follow (arguments_form (callable_of f.kind))
    (λ formals. make (λ gives. record { name = name_of f; formals = formals; result = gives }) written_result_form))
    refuse
