-- What comes before the `is` of a class, as its forms read it: a lemma for each alternative that a reader decides by the token
-- that is there.
use Rattle.std.proofs.Common.{◌≡◌, ◌≢◌, ℕ, ◌+◌, List, [], Some, None, refl, ap, ◌∙◌}
use Rattle.sa_lexer.specs.declared.token.TokenKind.TheVariants as token
use Rattle.sa_lexer.specs.declared.sign.Sign.{Sign}
use Rattle.sa_lexer.specs.declared.sign.Sign.TheVariants as sign
use Rattle.sa_ast.specs.declared.ty.Ty.{Ty}
use Rattle.sa_ast.specs.declared.stmt.Local.{Local}
use Rattle.sa_ast.specs.declared.class.TypeParam.{TypeParam}
use Rattle.sa_parser_expr.specs.declared.tokens.Tokens.{Tokens}
use Rattle.sa_parser_expr.specs.Exactly.{lexemes_from, Takes}
use Rattle.sa_parser_expr.specs.Forms.{Form, give, shift, follow, list, make, nest, type, until, following, with_read}
use Rattle.sa_parser_expr.specs.Lexemes.{Lexeme}
use Rattle.sa_parser_expr.specs.Positions.{kind_at}
use Rattle.sa_parser_expr.specs.Readings.{Reading, Read, Refused}
use Rattle.sa_parser_expr.specs.StatementForms.{name_as}
use Rattle.sa_parser_expr.specs.Tests.{is_sign, is_class_name, is_abstract_name}
use Rattle.sa_parser_expr.proofs.Runs.{at_level, Runs, taken, takes, gives, met, not_met, follows, stops, shut_sign}
use Rattle.sa_parser_expr.proofs.Tested.{sign_is}
use Rattle.sa_parser.specs.declared.class.DeclaredEdges.{DeclaredEdges}
use Rattle.sa_parser.specs.declared.class.Head.{Head}
use Rattle.sa_parser.specs.ClassForms.{param_form, params_form, types_after_form, edges_form, abstract_head_form, concrete_head_form}
use Rattle.sa_parser.proofs.ExactNames.{NameAt, unnamed}

module _ (t : Tokens) where
  -- ---- parameters

  -- what is after the name of a parameter
  abbrev pub behind_param : Local → Form TypeParam
  behind_param name =
      shift (is_sign sign.Less) (λ _. make (λ one. record { name = name; bound = Some one }) (nest type))
      (give (record { name = name; bound = None }))

  pub param_named : (from : ℕ) (name : Local) → NameAt t is_class_name from name → {v : Reading TypeParam}
      → Runs t (behind_param name) (from + 1) v → Runs t param_form from v
  unfolding param_form
  param_named from name n r = met t n.stood.kind n.stood.there n.stood.met (rw n.is at r)

  pub no_param : (from : ℕ) {rest : List Lexeme} → Runs t (name_as is_class_name) from (Refused rest)
      → Runs t param_form from (Refused rest)
  unfolding param_form
  no_param from r = unnamed t is_class_name _ from r

  pub behind_less : (name : Local) (at : ℕ) → kind_at t.list.now at ≡ Some (token.Sign sign.Less) → {v : Reading TypeParam}
      → Runs t (make (λ one. record { name = name; bound = Some one }) (nest type)) (at + 1) v → Runs t (behind_param name) at v
  behind_less name at less r = met t (token.Sign sign.Less) less (sign_is sign.Less) r

  pub unbounded : (name : Local) (at : ℕ) → kind_at t.list.now at ≢ Some (token.Sign sign.Less)
      → Runs t (behind_param name) at (Read (record { name = name; bound = None }) (lexemes_from t at))
  unbounded name at other = not_met t (shut_sign t sign.Less at other) (gives t)

  pub behind_brace : (at : ℕ) → kind_at t.list.now at ≡ Some (token.Sign sign.LeftBrace) → {v : Reading (List TypeParam)}
      → Runs t (until sign.RightBrace (list param_form)) (at + 1) v → Runs t params_form at v
  unfolding params_form
  behind_brace at opens r = met t (token.Sign sign.LeftBrace) opens (sign_is sign.LeftBrace) r

  pub no_params : (at : ℕ) (all : List TypeParam) → kind_at t.list.now at ≢ Some (token.Sign sign.LeftBrace) → all ≡ []
      → Takes params_form t at all at
  unfolding params_form
  no_params at all other empty = rw empty (takes t (not_met t (shut_sign t sign.LeftBrace at other) (gives t)))

  -- ---- types after a sign

  pub behind_sign : (s : Sign) (at : ℕ) → kind_at t.list.now at ≡ Some (token.Sign s) → {v : Reading (List Ty)}
      → Runs t (list (nest type)) (at + 1) v
      → Runs t (types_after_form s) at v
  unfolding types_after_form
  behind_sign s at there r = met t (token.Sign s) there (sign_is s) r

  pub no_types : (s : Sign) (at : ℕ) (all : List Ty) → kind_at t.list.now at ≢ Some (token.Sign s) → all ≡ []
      → Takes (types_after_form s) t at all at
  unfolding types_after_form
  no_types s at all other empty = rw empty (takes t (not_met t (shut_sign t s at other) (gives t)))

  pub behind_below : (from mid : ℕ) (below : List Ty) → Takes (types_after_form sign.Less) t from below mid → {v : Reading DeclaredEdges}
      → Runs t (make (λ above. record { below = below; above = above }) (types_after_form sign.Greater)) mid v → Runs t edges_form from v
  unfolding edges_form
  behind_below from mid below first r = follows t (taken t first) r

  pub no_below : (from : ℕ) {rest : List Lexeme} → Runs t (types_after_form sign.Less) from (Refused rest)
      → Runs t edges_form from (Refused rest)
  unfolding edges_form
  no_below from r = stops t r

  -- ---- what is made of two parts, and then of that

  made-once : {B C D : Type 0} (g : B → C) (f : C → D) (w : Reading B)
      → following (λ b. at_level t (give (f (g b)))) w ≡ with_read f (following (λ b. at_level t (give (g b))) w)
  made-once g f (Read b rest) = refl
  made-once g f (Refused rest) = refl

  made-twice : {A B C D : Type 0} (second : Form B) (g : A → B → C) (f : C → D) (w : Reading A)
      → following (λ a. at_level t (make (λ b. f (g a b)) second)) w ≡ with_read f (following (λ a. at_level t (make (g a) second)) w)
  made-twice second g f (Read a rest) = made-once (g a) f (at_level t second rest)
  made-twice second g f (Refused rest) = refl

  -- ---- heads

  -- what is after the name and the parameters of an abstract class
  abbrev pub behind_abstract_params : Local → List TypeParam → Form Head
  behind_abstract_params name params =
      follow (types_after_form sign.Less)
      (λ below. make (λ above. record { name = name; params = params; edges = record { below = below; above = above } })
      (types_after_form sign.Greater))

  pub with_edges : (name : Local) (params : List TypeParam) (at : ℕ) (v : Reading DeclaredEdges) → Runs t edges_form at v
      → Runs t (behind_abstract_params name params) at (with_read (λ edges. record { name = name; params = params; edges = edges }) v)
  unfolding edges_form
  with_edges name params at v r = record {
    is = made-twice (types_after_form sign.Greater) (λ below above. record { below = below; above = above })
        (λ edges. record { name = name; params = params; edges = edges }) (at_level t (types_after_form sign.Less) (lexemes_from t at))
        ∙ ap (with_read (λ edges. record { name = name; params = params; edges = edges })) r.is;
  }

  pub abstract_named : (from : ℕ) (name : Local) → NameAt t is_abstract_name from name → {v : Reading Head}
      → Runs t (follow params_form (λ params. behind_abstract_params name params)) (from + 1) v → Runs t abstract_head_form from v
  unfolding abstract_head_form
  abstract_named from name n r = met t n.stood.kind n.stood.there n.stood.met (rw n.is at r)

  pub no_abstract : (from : ℕ) {rest : List Lexeme} → Runs t (name_as is_abstract_name) from (Refused rest)
      → Runs t abstract_head_form from (Refused rest)
  unfolding abstract_head_form
  no_abstract from r = unnamed t is_abstract_name _ from r

  -- what is after the name of a concrete class
  abbrev pub behind_concrete : Local → Form Head
  behind_concrete name =
      follow params_form
      (λ params. make (λ below. record { name = name; params = params; edges = record { below = below; above = [] } })
      (types_after_form sign.Less))

  pub concrete_named : (from : ℕ) (name : Local) → NameAt t is_class_name from name → {v : Reading Head}
      → Runs t (behind_concrete name) (from + 1) v
      → Runs t concrete_head_form from v
  unfolding concrete_head_form
  concrete_named from name n r = met t n.stood.kind n.stood.there n.stood.met (rw n.is at r)

  pub no_concrete : (from : ℕ) {rest : List Lexeme} → Runs t (name_as is_class_name) from (Refused rest)
      → Runs t concrete_head_form from (Refused rest)
  unfolding concrete_head_form
  no_concrete from r = unnamed t is_class_name _ from r
