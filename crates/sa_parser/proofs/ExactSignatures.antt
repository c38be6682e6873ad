-- Signatures, as their forms read them: a lemma for each alternative that a reader decides by the token that is there.
use Rattle.std.proofs.Common.{◌≡◌, ◌≢◌, ℕ, ◌+◌, List, [], Option, Some, None, IfSome, subst}
use Rattle.sa_lexer.specs.declared.token.TokenKind.{TokenKind}
use Rattle.sa_lexer.specs.declared.token.TokenKind.TheVariants as token
use Rattle.sa_lexer.specs.declared.sign.Sign.TheVariants as sign
use Rattle.sa_ast.specs.declared.ty.Ty.{Ty}
use Rattle.sa_ast.specs.declared.ty.Mode.{Mode}
use Rattle.sa_ast.specs.declared.stmt.Local.{Local}
use Rattle.sa_ast.specs.declared.class.FormalParam.{FormalParam}
use Rattle.sa_parser_expr.specs.declared.tokens.Tokens.{Tokens}
use Rattle.sa_parser_expr.specs.declared.types.CallableKind.{CallableKind}
use Rattle.sa_parser_expr.specs.Exactly.{Takes}
use Rattle.sa_parser_expr.specs.Forms.{Form, follow, list, make, nest, type, until}
use Rattle.sa_parser_expr.specs.Lexemes.{Lexeme}
use Rattle.sa_parser_expr.specs.Positions.{kind_at}
use Rattle.sa_parser_expr.specs.Readings.{Reading, Refused}
use Rattle.sa_parser_expr.specs.StatementForms.{name_as, names_form, joined}
use Rattle.sa_parser_expr.specs.Tests.{is_feature}
use Rattle.sa_parser_expr.specs.TypeForms.{mode_form}
use Rattle.sa_parser_expr.proofs.Runs.{Runs, taken, takes, gives, met, not_met, follows, shut_sign}
use Rattle.sa_parser_expr.proofs.Tested.{sign_is}
use Rattle.sa_parser.specs.declared.signature.HeaderSignature.{HeaderSignature}
use Rattle.sa_parser.specs.Names.{IsNames}
use Rattle.sa_parser.specs.SignatureForms.{formal_form, formals_form, arguments_form, written_result_form, sig_form}
use Rattle.sa_parser.specs.Signatures.{callable_of, formal_of}
use Rattle.sa_parser.proofs.ExactNames.{NameAt, unnamed}
use Rattle.sa_parser.proofs.ExactCopies.{CopiesRead, copies, sharing_form}

module _ (t : Tokens) where
  -- ---- arguments of one type

  pub behind_mode : (callable : CallableKind) (from mid : ℕ) (mode : Mode) → Takes (mode_form callable) t from mode mid
      → {v : Reading (List FormalParam)}
      → Runs t (sharing_form (nest type) (formal_of mode)) mid v → Runs t (formal_form callable) from v
  unfolding formal_form
  behind_mode callable from mid mode first r = follows t (taken t first) r

  pub formal : (callable : CallableKind) (from mid third end : ℕ) (mode : Mode) (ls : List Lexeme) (all : List Local)
      (formals made : List FormalParam)
      → Takes (mode_form callable) t from mode mid → Takes names_form t mid all third → IsNames ls all
      → kind_at t.list.now third ≡ Some (token.Sign sign.Colon) → CopiesRead t (nest type) (formal_of mode) (third + 1) all formals end
      → made ≡ formals → Takes (formal_form callable) t from made end
  formal callable from mid third end mode ls all formals made first second spelled colon so_far same =
      rw same (takes t (behind_mode callable from mid mode first
      (copies t (nest type) (formal_of mode) mid third end ls all formals second spelled colon so_far)))

  -- ---- lists of arguments

  pub as_formals : (callable : CallableKind) {from : ℕ} {v : Reading (List FormalParam)}
      → Runs t (make joined (list (formal_form callable))) from v
      → Runs t (formals_form callable) from v
  unfolding formals_form
  as_formals callable r = r

  pub behind_paren : (callable : CallableKind) (at : ℕ) → kind_at t.list.now at ≡ Some (token.Sign sign.LeftParen)
      → {v : Reading (List FormalParam)}
      → Runs t (until sign.RightParen (formals_form callable)) (at + 1) v → Runs t (arguments_form callable) at v
  unfolding arguments_form
  behind_paren callable at opens r = met t (token.Sign sign.LeftParen) opens (sign_is sign.LeftParen) r

  pub no_arguments : (callable : CallableKind) (at : ℕ) (all : List FormalParam) → kind_at t.list.now at ≢ Some (token.Sign sign.LeftParen)
      → all ≡ []
      → Takes (arguments_form callable) t at all at
  unfolding arguments_form
  no_arguments callable at all other empty = rw empty (takes t (not_met t (shut_sign t sign.LeftParen at other) (gives t)))

  -- ---- results

  pub behind_result : (at : ℕ) → kind_at t.list.now at ≡ Some (token.Sign sign.Colon) → {v : Reading (Option Ty)}
      → Runs t (make Some (nest type)) (at + 1) v → Runs t written_result_form at v
  unfolding written_result_form
  behind_result at colon r = met t (token.Sign sign.Colon) colon (sign_is sign.Colon) r

  pub no_result : (at : ℕ) → kind_at t.list.now at ≢ Some (token.Sign sign.Colon) → Takes written_result_form t at None at
  unfolding written_result_form
  no_result at other = takes t (not_met t (shut_sign t sign.Colon at other) (gives t))

  -- ---- signatures

  -- what is after the name of a feature
  abbrev pub behind_name : CallableKind → Local → Form HeaderSignature
  behind_name callable name =
      follow (arguments_form callable)
      (λ formals. make (λ gives. record { name = name; formals = formals; result = gives }) written_result_form)

  pub callable_is : (at : ℕ) (kind : TokenKind) (callable : CallableKind) → kind_at t.list.now at ≡ Some kind
      → IfSome (kind_at t.list.now at) (λ found. callable ≡ callable_of found) → callable ≡ callable_of kind
  callable_is at kind callable there is = subst (λ (found : Option TokenKind). IfSome found (λ one. callable ≡ callable_of one)) there is

  pub behind_feature : (from : ℕ) (callable : CallableKind) (name : Local) (n : NameAt t is_feature from name)
      → callable ≡ callable_of n.stood.kind → {v : Reading HeaderSignature}
      → Runs t (behind_name callable name) (from + 1) v → Runs t sig_form from v
  unfolding sig_form
  behind_feature from callable name n kind r = met t n.stood.kind n.stood.there n.stood.met (rw (kind, n.is) at r)

  pub no_feature : (from : ℕ) {rest : List Lexeme} → Runs t (name_as is_feature) from (Refused rest) → Runs t sig_form from (Refused rest)
  unfolding sig_form
  no_feature from r = unnamed t is_feature _ from r
