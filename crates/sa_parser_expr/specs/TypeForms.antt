-- The forms of types, production by production.
use Rattle.std.specs.Prelude.{List, [], Option, Some, None}
use Rattle.sa_lexer.specs.declared.sign.Sign.TheVariants as sign
use Rattle.sa_lexer.specs.declared.word.Word.TheVariants as word
use Rattle.sa_ast.specs.declared.ty.Ty.{Ty}
use Rattle.sa_ast.specs.declared.ty.Ty.TheVariants as ty
use Rattle.sa_ast.specs.declared.ty.ModeTy.{ModeTy}
use Rattle.sa_ast.specs.declared.ty.Mode.{Mode}
use Rattle.sa_ast.specs.declared.ty.Mode.TheVariants.{In, Out, Inout, Once}
use Rattle.sa_parser_expr.specs.declared.types.CallableKind.{CallableKind}
use Rattle.sa_parser_expr.specs.declared.types.CallableKind.TheVariants.{Routine, Iter}
use Rattle.sa_parser_expr.specs.Tests.{is_sign, is_word, is_class}
use Rattle.sa_parser_expr.specs.Forms.{Form, give, refuse, shift, follow, list, nest, type, make, until}

unfoldable pub once_form : CallableKind → Form Mode
once_form Routine = give In
once_form Iter = shift (is_word word.Once) (λ _. give Once) (give In)

-- mode = "out" | "inout" | "once" | "in"
unfoldable pub mode_form : CallableKind → Form Mode
mode_form callable =
    shift (is_word word.Out) (λ _. give Out)
    (shift (is_word word.Inout) (λ _. give Inout)
    (shift (is_word word.In) (λ _. give In)
    (once_form callable)))

-- given_types = ["{" type {"," type} "}"]
unfoldable pub given_types_form : Form (List Ty)
given_types_form = shift (is_sign sign.LeftBrace) (λ _. until sign.RightBrace (list (nest type))) (give [])

-- mode_type = [mode] type
unfoldable pub mode_type_form : CallableKind → Form ModeTy
mode_type_form callable = follow (mode_form callable) (λ mode. make (λ t. record { mode = mode; ty = t }) (nest type))

-- bound_args = ["{" mode_type {"," mode_type} "}"]
unfoldable pub bound_args_form : CallableKind → Form (List ModeTy)
bound_args_form callable = shift (is_sign sign.LeftBrace) (λ _. until sign.RightBrace (list (mode_type_form callable))) (give [])

-- bound_result = [":" type]
unfoldable pub bound_result_form : Form (Option Ty)
bound_result_form = shift (is_sign sign.Colon) (λ _. make Some (nest type)) (give None)

-- type = C given_types | "SAME" | "ROUT" bound_args bound_result | "ITER" bound_args bound_result
unfoldable pub type_form : Form Ty
type_form =
    shift is_class (λ c. make (λ given. ty.Named c.bytes given c.pos) given_types_form)
    (shift (is_word word.Same) (λ w. give (ty.Same w.pos))
    (shift (is_word word.Rout) (λ w. follow (bound_args_form Routine) (λ args. make (λ gives. ty.Rout args gives w.pos) bound_result_form))
    (shift (is_word word.Iter) (λ w. follow (bound_args_form Iter) (λ args. make (λ gives. ty.Iter args gives w.pos) bound_result_form))
    refuse)))
