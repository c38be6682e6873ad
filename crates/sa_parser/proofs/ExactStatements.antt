-- Names and statements that contain no others, as their forms read them: a lemma for each alternative that a reader decides by the token
-- that is there.
use Rattle.std.proofs.Common.{◌≡◌, ◌≢◌, ℕ, ◌+◌, Bool, true, false, List, [], ◌∷◌, Option, Some, None, Result, Ok, Err, ◌⊎◌, inl, inr, refl, sym, ap, ◌∙◌}
use Rattle.std.proofs.lemmas.Bool.{false_from_ne_true}
use Rattle.sa_lexer.specs.declared.token.TokenKind.{TokenKind}
use Rattle.sa_lexer.specs.declared.token.TokenKind.TheVariants as token
use Rattle.sa_lexer.specs.declared.sign.Sign.{Sign}
use Rattle.sa_lexer.specs.declared.sign.Sign.TheVariants as sign
use Rattle.sa_lexer.specs.declared.word.Word.{Word}
use Rattle.sa_lexer.specs.declared.word.Word.TheVariants as word
use Rattle.sa_ast.specs.declared.pos.Pos.{Pos}
use Rattle.sa_ast.specs.declared.refusal.Rejection.{Rejection}
use Rattle.sa_ast.specs.declared.ty.Ty.{Ty}
use Rattle.sa_ast.specs.declared.expr.Expr.{Expr}
use Rattle.sa_ast.specs.declared.stmt.Local.{Local}
use Rattle.sa_ast.specs.declared.stmt.Stmt.{Stmt}
use Rattle.sa_ast.specs.declared.stmt.Stmt.TheVariants as tree
use Rattle.sa_parser_expr.specs.declared.grammar.ConditionScope.TheVariants.{Plain}
use Rattle.sa_parser_expr.specs.declared.tokens.Tokens.{Tokens}
use Rattle.sa_parser_expr.specs.Enclosures.{outside}
use Rattle.sa_parser_expr.specs.Exactly.{lexemes_from, Takes, ReadsAs}
use Rattle.sa_parser_expr.specs.ExpressionForms.{first_form, items_or, result_or, class_call_form, placed_post_form, post_form, power_form, unary_form}
use Rattle.sa_parser_expr.specs.ExpressionForms.{operation_form, product_form, sum_form, comparison_form, expr_form}
use Rattle.sa_parser_expr.specs.Forms.{Form, refuse, shift, follow, make, nest, type, expr, opens, Reader, following, with_read}
use Rattle.sa_parser_expr.specs.Grammar.{form_of}
use Rattle.sa_parser_expr.specs.Lexemes.{Lexeme, lexeme_at, name_of, IsFeature, lower_name, iter_name}
use Rattle.sa_parser_expr.specs.Positions.{kind_at}
use Rattle.sa_parser_expr.specs.Readings.{Reading, Read, Refused}
use Rattle.sa_parser_expr.specs.Starts.{begins_expression}
use Rattle.sa_parser_expr.specs.StatementForms.{value_form, assigned_form, optional_value_form, name_as, name_form, names_form, typed_form, declare_form, by_value_form, declare_by_value_form}
use Rattle.sa_parser_expr.specs.StatementForms.{assign_form, after_name_form, simple_form, leave_or}
use Rattle.sa_parser_expr.specs.Tests.{is_sign, is_lower, is_feature, is_class_name, is_abstract_name}
use Rattle.sa_parser_expr.specs.TypeForms.{type_form}
use Rattle.sa_parser_expr.proofs.Openings.{runs, same_nest, shut_lower}
use Rattle.sa_parser_expr.proofs.Runs.{at_level, Runs, taken, takes, handed_on, gives, refused, met, not_met, another, follows, stops, makes, nested, first_one, second_one, meets_by, shut_by, shut_sign, shut_word}
use Rattle.sa_parser_expr.proofs.Runs.{Lists, first_listed, all_listed, parts_behind}
use Rattle.sa_parser_expr.proofs.Shifts.{Shut}
use Rattle.sa_parser_expr.proofs.Stretches.{pos_at, occurs}
use Rattle.sa_parser_expr.proofs.BehindNames.{kind_behind}
use Rattle.sa_parser_expr.proofs.Tested.{sign_is, word_is, class_name_stands, abstract_name_stands, feature_stands}
use Rattle.sa_parser.specs.Names.{name_at}

-- ---- what opens the form of expressions

-- a lexeme of this kind
abbrev pub lexeme : TokenKind → Lexeme
lexeme kind = record { kind = kind; bytes = []; pos = record { file = 0; at = 0 } }

word_opens : (w : Word) → opens (expr_form Plain outside) (lexeme (token.Word w)) ≡ begins_expression (Some (token.Word w))
unfolding type_form first_form items_or result_or class_call_form placed_post_form post_form power_form unary_form operation_form product_form sum_form comparison_form expr_form
word_opens word.And = refl
word_opens _ = refl

sign_opens : (s : Sign) → opens (expr_form Plain outside) (lexeme (token.Sign s)) ≡ begins_expression (Some (token.Sign s))
unfolding type_form first_form items_or result_or class_call_form placed_post_form post_form power_form unary_form operation_form product_form sum_form comparison_form expr_form
sign_opens sign.Comma = refl
sign_opens _ = refl

kind_opens : (k : TokenKind) → opens (expr_form Plain outside) (lexeme k) ≡ begins_expression (Some k)
unfolding type_form first_form items_or result_or class_call_form placed_post_form post_form power_form unary_form operation_form product_form sum_form comparison_form expr_form
kind_opens (token.Word w) = word_opens w
kind_opens (token.Sign s) = sign_opens s
kind_opens _ = refl

pub expr_opens : (l : Lexeme) → opens (expr_form Plain outside) l ≡ begins_expression (Some l.kind)
unfolding type_form first_form items_or result_or class_call_form placed_post_form post_form power_form unary_form operation_form product_form sum_form comparison_form expr_form
expr_opens l = kind_opens l.kind

following-with : {A B C : Type 0} (go : B → Reader C) (f : A → B) (v : Reading A) → following go (with_read f v) ≡ following (λ a. go (f a)) v
following-with go f (Read a rest) = refl
following-with go f (Refused rest) = refl

some_begins : (found : Option TokenKind) → begins_expression found ≡ true → (kind : TokenKind) × (found ≡ Some kind)
some_begins None begins = absurd (cc)
some_begins (Some kind) begins = (kind, refl)

module _ (t : Tokens) where
  pub same_tree : {A : Type 0} {form : Form A} {at next : ℕ} {a b : A} → Takes form t at a next → b ≡ a → Takes form t at b next
  same_tree h same = rw same h

  -- what is read as one form is read as another one, if what runs as it does
  pub instead : {A : Type 0} {form other : Form A} {at from : ℕ} → ((v : Reading A) → Runs t form at v → Runs t other from v)
      → (r : Result (A × ℕ) Rejection) → ReadsAs form t at r → ReadsAs other t from r
  instead step (Ok read) h = takes t (step _ (taken t h))
  instead {form = form} {at = at} step (Err e) h = handed_on t form at e refl h (λ rest r. step (Refused rest) r)

  -- ---- names

  pub named : (test : Lexeme → Bool) (at : ℕ) (kind : TokenKind) (one : Local) → kind_at t.list.now at ≡ Some kind → test (lexeme_at t at kind) ≡ true
      → one ≡ name_at t at → Takes (name_as test) t at one (at + 1)
  named test at kind one there h same = rw same (takes t (met t kind there h (gives t)))

  pub unnamed : (test : Lexeme → Bool) (at : ℕ) → Shut test (lexemes_from t at) → Runs t (name_as test) at (Refused (lexemes_from t at))
  unnamed test at shut = not_met t shut (refused t)

  shut_alone : (test : Lexeme → Bool) (kind : TokenKind) → ((l : Lexeme) → test l ≡ true → l.kind ≡ kind) → (at : ℕ) → kind_at t.list.now at ≢ Some kind
      → Shut test (lexemes_from t at)
  shut_alone test kind only at other =
      shut_by t test at (λ found there. false_from_ne_true (test (lexeme_at t at found)) (λ meets. other (there ∙ ap Some (only (lexeme_at t at found) meets))))

  pub shut_class_name : (at : ℕ) → kind_at t.list.now at ≢ Some token.ClassName → Shut is_class_name (lexemes_from t at)
  shut_class_name at other = shut_alone is_class_name token.ClassName class_name_stands at other

  pub shut_abstract_name : (at : ℕ) → kind_at t.list.now at ≢ Some token.AbstractName → Shut is_abstract_name (lexemes_from t at)
  shut_abstract_name at other = shut_alone is_abstract_name token.AbstractName abstract_name_stands at other

  neither : (at : ℕ) → kind_at t.list.now at ≢ Some token.Lower → kind_at t.list.now at ≢ Some token.IterName
      → (kind : TokenKind) (l : Lexeme) → kind_at t.list.now at ≡ Some kind → l.kind ≡ kind → IsFeature l → ⊥
  neither at no_lower no_iter kind l there is (lower_name e) = no_lower (there ∙ ap Some (sym is ∙ e))
  neither at no_lower no_iter kind l there is (iter_name e) = no_iter (there ∙ ap Some (sym is ∙ e))

  pub shut_feature : (at : ℕ) → kind_at t.list.now at ≢ Some token.Lower → kind_at t.list.now at ≢ Some token.IterName → Shut is_feature (lexemes_from t at)
  shut_feature at no_lower no_iter =
      shut_by t is_feature at (λ kind there.
      false_from_ne_true (is_feature (lexeme_at t at kind)) (λ meets. neither at no_lower no_iter kind (lexeme_at t at kind) there refl (feature_stands (lexeme_at t at kind) meets)))

  pub lower : (at : ℕ) (one : Local) → kind_at t.list.now at ≡ Some token.Lower → one ≡ name_at t at → Takes name_form t at one (at + 1)
  unfolding name_form
  lower at one there same = named is_lower at token.Lower one there refl same

  pub no_lower : (at : ℕ) → kind_at t.list.now at ≢ Some token.Lower → Runs t name_form at (Refused (lexemes_from t at))
  unfolding name_form
  no_lower at other = unnamed is_lower at (shut_lower t at other)

  -- ---- values

  pub no_value : (at : ℕ) → kind_at t.list.now at ≢ Some (token.Sign sign.Assign) → Takes assigned_form t at None at
  unfolding assigned_form
  no_value at other = takes t (not_met t (shut_sign t sign.Assign at other) (gives t))

  pub behind_gets : (at : ℕ) → kind_at t.list.now at ≡ Some (token.Sign sign.Assign) → {v : Reading (Option Expr)}
      → Runs t (make Some value_form) (at + 1) v → Runs t assigned_form at v
  unfolding assigned_form
  behind_gets at gets r = met t (token.Sign sign.Assign) gets (sign_is sign.Assign) r

  as_form : {at : ℕ} {v : Reading Expr} → Runs t value_form at v → Runs t (expr_form Plain outside) at v
  unfolding form_of
  as_form r = nested t (expr Plain outside) r

  pub expr_there : (at : ℕ) (kind : TokenKind) → kind_at t.list.now at ≡ Some kind → begins_expression (kind_at t.list.now at) ≡ true → {v : Reading Expr}
      → Runs t value_form at v → {w : Reading (Option Expr)} → (Runs t (expr_form Plain outside) at v → Runs t (make Some (expr_form Plain outside)) at w)
      → Runs t optional_value_form at w
  unfolding optional_value_form
  expr_there at kind there begins r onward =
      first_one t (meets_by t (opens (expr_form Plain outside)) at kind there (expr_opens (lexeme_at t at kind) ∙ ap begins_expression (sym there) ∙ begins)) (onward (as_form r))

  -- where something begins there is a token
  pub begun : (at : ℕ) → begins_expression (kind_at t.list.now at) ≡ true → (kind : TokenKind) × (kind_at t.list.now at ≡ Some kind)
  begun at begins = some_begins (kind_at t.list.now at) begins

  pub no_expr : (at : ℕ) → begins_expression (kind_at t.list.now at) ≡ false → Takes optional_value_form t at None at
  unfolding optional_value_form
  no_expr at none =
      takes t (second_one t (shut_by t (opens (expr_form Plain outside)) at (λ kind there. expr_opens (lexeme_at t at kind) ∙ ap begins_expression (sym there) ∙ none)) (gives t))

  -- ---- declarations

  pub behind_names : (from mid : ℕ) (names : List Local) → Takes names_form t from names mid → {v : Reading Stmt}
      → Runs t (shift (is_sign sign.Colon) (λ _. typed_form names) refuse) mid v → Runs t declare_form from v
  unfolding declare_form
  behind_names from mid names first r = follows t (taken t first) r

  pub behind_colon : (at : ℕ) (names : List Local) → kind_at t.list.now at ≡ Some (token.Sign sign.Colon) → {v : Reading Stmt}
      → Runs t (follow (nest type) (λ one. make (λ value. tree.Declare names (Some one) value) assigned_form)) (at + 1) v
      → Runs t (shift (is_sign sign.Colon) (λ _. typed_form names) refuse) at v
  unfolding typed_form
  behind_colon at names colon r = met t (token.Sign sign.Colon) colon (sign_is sign.Colon) r

  pub no_colon : (at : ℕ) (names : List Local) → kind_at t.list.now at ≢ Some (token.Sign sign.Colon)
      → Runs t (shift (is_sign sign.Colon) (λ _. typed_form names) refuse) at (Refused (lexemes_from t at))
  no_colon at names other = not_met t (shut_sign t sign.Colon at other) (refused t)

  pub no_names : (from : ℕ) {rest : List Lexeme} → Runs t names_form from (Refused rest) → Runs t declare_form from (Refused rest)
  unfolding declare_form
  no_names from r = stops t r

  pub declared : (from mid third next : ℕ) (names all : List Local) (one : Ty) (value : Option Expr)
      → Takes names_form t from names mid → kind_at t.list.now mid ≡ Some (token.Sign sign.Colon) → Takes (nest type) t (mid + 1) one third
      → Takes assigned_form t third value next → all ≡ names → Takes declare_form t from (tree.Declare all (Some one) value) next
  declared from mid third next names all one value first colon second last same =
      rw same (takes t (behind_names from mid names first (behind_colon mid names colon (follows t (taken t second) (makes t next (taken t last))))))

  pub following_first : (from mid : ℕ) (name : Local) → Takes name_form t from name mid → {v : Reading Stmt}
      → Runs t (by_value_form name) mid v → Runs t declare_by_value_form from v
  unfolding declare_by_value_form
  following_first from mid name first r = follows t (taken t first) r

  pub no_first : (from : ℕ) {rest : List Lexeme} → Runs t name_form from (Refused rest) → Runs t declare_by_value_form from (Refused rest)
  unfolding declare_by_value_form
  no_first from r = stops t r

  pub behind_declare : (at : ℕ) (name : Local) → kind_at t.list.now at ≡ Some (token.Sign sign.Declare) → {v : Reading Stmt}
      → Runs t (make (λ e. tree.Declare (name ∷ []) None (Some e)) value_form) (at + 1) v → Runs t (by_value_form name) at v
  behind_declare at name there r = met t (token.Sign sign.Declare) there (sign_is sign.Declare) r

  pub no_declare : (at : ℕ) (name : Local) → kind_at t.list.now at ≢ Some (token.Sign sign.Declare) → Runs t (by_value_form name) at (Refused (lexemes_from t at))
  no_declare at name other = not_met t (shut_sign t sign.Declare at other) (refused t)

  pub by_value : (from mid next : ℕ) (one : Local) (all : List Local) (e : Expr)
      → Takes name_form t from one mid → kind_at t.list.now mid ≡ Some (token.Sign sign.Declare) → Takes value_form t (mid + 1) e next
      → all ≡ one ∷ [] → Takes declare_by_value_form t from (tree.Declare all None (Some e)) next
  by_value from mid next one all e first gets second same =
      rw same (takes t (following_first from mid one first (behind_declare mid one gets (makes t next (taken t second)))))

  -- ---- assignments

  pub alone : (at : ℕ) (a : Expr) → kind_at t.list.now at ≢ Some (token.Sign sign.Assign) → Runs t (assign_form a) at (Read (tree.ExprStmt a) (lexemes_from t at))
  unfolding assign_form
  alone at a other = not_met t (shut_sign t sign.Assign at other) (gives t)

  pub behind_target : (at : ℕ) (a : Expr) → kind_at t.list.now at ≡ Some (token.Sign sign.Assign) → {v : Reading Stmt}
      → Runs t (make (λ b. tree.Assign a b (pos_at t at)) value_form) (at + 1) v → Runs t (assign_form a) at v
  unfolding assign_form
  behind_target at a gets r = met t (token.Sign sign.Assign) gets (sign_is sign.Assign) r

  pub assigned : (from mid next : ℕ) (a b : Expr) (pos : Pos) → Takes value_form t from a mid → kind_at t.list.now mid ≡ Some (token.Sign sign.Assign)
      → Takes value_form t (mid + 1) b next → pos ≡ pos_at t mid → Takes (follow value_form assign_form) t from (tree.Assign a b pos) next
  assigned from mid next a b pos first gets second occurs =
      rw occurs (takes t (follows t (taken t first) (behind_target mid a gets (makes t next (taken t second)))))

  -- ---- what a statement is that begins with no word

  -- a name with others, or with a colon after it
  abbrev first_name : ℕ → Local
  first_name at = name_of (lexeme_at t at token.Lower)

  one_listed : (at : ℕ) → kind_at t.list.now at ≡ Some token.Lower → Lists t name_form at (first_name at ∷ []) (at + 1)
  one_listed at there = first_listed t (taken t (lower at (first_name at) there refl))

  several : (at : ℕ) → kind_at t.list.now at ≡ Some token.Lower → kind_at t.list.now (at + 1) ≡ Some (token.Sign sign.Comma)
      → at_level t declare_form (lexemes_from t at)
      ≡ at_level t (follow names_form (λ others. shift (is_sign sign.Colon) (λ _. typed_form (first_name at ∷ others)) refuse)) (lexemes_from t (at + 1 + 1))
  unfolding declare_form
  several at there comma =
      let go = λ (names : List Local). at_level t (shift (is_sign sign.Colon) (λ _. typed_form names) refuse) in
      ap (following go) (parts_behind t (is_sign sign.Comma) name_form (one_listed at there) (token.Sign sign.Comma) comma (sign_is sign.Comma))
      ∙ following-with go (λ others. first_name at ∷ others) (at_level t names_form (lexemes_from t (at + 1 + 1)))

  pub declared_comma : (at : ℕ) → kind_at t.list.now at ≡ Some token.Lower → kind_at t.list.now (at + 1) ≡ Some (token.Sign sign.Comma) → {v : Reading Stmt}
      → Runs t declare_form at v → Runs t simple_form at v
  unfolding simple_form
  declared_comma at there comma r =
      met t token.Lower there refl (met t (token.Sign sign.Comma) comma (sign_is sign.Comma) (record { is = sym (several at there comma) ∙ r.is }))

  pub declared_colon : (at : ℕ) → kind_at t.list.now at ≡ Some token.Lower → kind_at t.list.now (at + 1) ≡ Some (token.Sign sign.Colon) → {v : Reading Stmt}
      → Runs t declare_form at v → Runs t simple_form at v
  unfolding simple_form declare_form
  declared_colon at there colon r =
      let kind = token.Sign sign.Colon in
      let other : kind_at t.list.now (at + 1) ≢ Some (token.Sign sign.Comma) = λ e. cc in
      let names = follows t {next = λ names. shift (is_sign sign.Colon) (λ _. typed_form names) refuse} (all_listed t (one_listed at there) other)
      (met t kind colon (sign_is sign.Colon) (runs t (typed_form (first_name at ∷ [])) (at + 1 + 1))) in
      met t token.Lower there refl (another t kind colon refl (met t kind colon (sign_is sign.Colon) (record { is = sym names.is ∙ r.is })))

  pub declared_first : (at : ℕ) (s : Sign) → kind_at t.list.now at ≡ Some token.Lower → kind_at t.list.now (at + 1) ≡ Some (token.Sign s)
      → (s ≡ sign.Comma) ⊎ (s ≡ sign.Colon) → {v : Reading Stmt} → Runs t declare_form at v → Runs t simple_form at v
  declared_first at s there next (inl is) r = declared_comma at there (next ∙ ap (λ of. Some (token.Sign of)) is) r
  declared_first at s there next (inr is) r = declared_colon at there (next ∙ ap (λ of. Some (token.Sign of)) is) r

  pub declared_by_value : (at : ℕ) → kind_at t.list.now at ≡ Some token.Lower → kind_at t.list.now (at + 1) ≡ Some (token.Sign sign.Declare) → {v : Reading Stmt}
      → Runs t declare_by_value_form at v → Runs t simple_form at v
  unfolding simple_form declare_by_value_form
  declared_by_value at there gets r =
      let kind = token.Sign sign.Declare in
      let value = follows t {next = by_value_form} (taken t (lower at (first_name at) there refl))
      (met t kind gets (sign_is sign.Declare) (runs t (make (λ e. tree.Declare (first_name at ∷ []) None (Some e)) value_form) (at + 1 + 1))) in
      met t token.Lower there refl (another t kind gets refl (another t kind gets refl (met t kind gets (sign_is sign.Declare) (record { is = sym value.is ∙ r.is }))))

  same_value : (at : ℕ) → at_level t value_form (lexemes_from t at) ≡ at_level t (expr_form Plain outside) (lexemes_from t at)
  unfolding form_of
  same_value at = same_nest t (expr Plain outside) at

  pub assigned_first : (at : ℕ) → kind_at t.list.now at ≢ Some token.Lower → {v : Reading Stmt} → Runs t (follow value_form assign_form) at v → Runs t simple_form at v
  unfolding simple_form
  assigned_first at other r =
      not_met t (shut_lower t at other) (record { is = ap (following (λ a. at_level t (assign_form a))) (sym (same_value at)) ∙ r.is })

  value_behind : (at : ℕ) → kind_at t.list.now at ≡ Some token.Lower
      → at_level t (after_name_form (lexeme_at t at token.Lower)) (lexemes_from t (at + 1)) ≡ at_level t value_form (lexemes_from t at)
  value_behind at there =
      sym (same_value at ∙ ap (at_level t (expr_form Plain outside)) (occurs t at token.Lower there) ∙ kind_behind _ _ (lexeme_at t at token.Lower) (lexemes_from t (at + 1)))

  pub assigned_name : (at : ℕ) → kind_at t.list.now at ≡ Some token.Lower → kind_at t.list.now (at + 1) ≢ Some (token.Sign sign.Comma)
      → kind_at t.list.now (at + 1) ≢ Some (token.Sign sign.Colon) → kind_at t.list.now (at + 1) ≢ Some (token.Sign sign.Declare)
      → {v : Reading Stmt} → Runs t (follow value_form assign_form) at v → Runs t simple_form at v
  unfolding simple_form
  assigned_name at there comma colon gets r =
      met t token.Lower there refl
      (not_met t (shut_sign t sign.Comma (at + 1) comma) (not_met t (shut_sign t sign.Colon (at + 1) colon) (not_met t (shut_sign t sign.Declare (at + 1) gets)
      (record { is = ap (following (λ a. at_level t (assign_form a))) (value_behind at there) ∙ r.is }))))

  -- ---- statements that leave

  pub behind_return : (other : Form Stmt) (at : ℕ) → kind_at t.list.now at ≡ Some (token.Word word.Return) → {v : Reading Stmt}
      → Runs t (make (λ value. tree.Return value (pos_at t at)) optional_value_form) (at + 1) v → Runs t (leave_or other) at v
  behind_return other at there r = met t (token.Word word.Return) there (word_is word.Return) r

  pub behind_yield : (other : Form Stmt) (at : ℕ) → kind_at t.list.now at ≡ Some (token.Word word.Yield) → {v : Reading Stmt}
      → Runs t (make (λ value. tree.Yield value (pos_at t at)) optional_value_form) (at + 1) v → Runs t (leave_or other) at v
  behind_yield other at there r = another t (token.Word word.Yield) there refl (met t (token.Word word.Yield) there (word_is word.Yield) r)

  pub quits : (other : Form Stmt) (at : ℕ) → kind_at t.list.now at ≡ Some (token.Word word.Quit)
      → Runs t (leave_or other) at (Read (tree.Quit (pos_at t at)) (lexemes_from t (at + 1)))
  quits other at there =
      let kind = token.Word word.Quit in
      another t kind there refl (another t kind there refl (met t kind there (word_is word.Quit) (gives t)))

  pub behind_raise : (other : Form Stmt) (at : ℕ) → kind_at t.list.now at ≡ Some (token.Word word.Raise) → {v : Reading Stmt}
      → Runs t (make (λ e. tree.Raise e (pos_at t at)) value_form) (at + 1) v → Runs t (leave_or other) at v
  behind_raise other at there r =
      let kind = token.Word word.Raise in
      another t kind there refl (another t kind there refl (another t kind there refl (met t kind there (word_is word.Raise) r)))

  pub behind_assert : (other : Form Stmt) (at : ℕ) → kind_at t.list.now at ≡ Some (token.Word word.Assert) → {v : Reading Stmt}
      → Runs t (make (λ e. tree.Assert e (pos_at t at)) value_form) (at + 1) v → Runs t (leave_or other) at v
  behind_assert other at there r =
      let kind = token.Word word.Assert in
      another t kind there refl (another t kind there refl (another t kind there refl (another t kind there refl (met t kind there (word_is word.Assert) r))))

  pub returns : (from next : ℕ) (value : Option Expr) (pos : Pos) → kind_at t.list.now from ≡ Some (token.Word word.Return)
      → Takes optional_value_form t (from + 1) value next → pos ≡ pos_at t from → Takes (leave_or refuse) t from (tree.Return value pos) next
  returns from next value pos there inside occurs = rw occurs (takes t (behind_return refuse from there (makes t next (taken t inside))))

  pub yields : (from next : ℕ) (value : Option Expr) (pos : Pos) → kind_at t.list.now from ≡ Some (token.Word word.Yield)
      → Takes optional_value_form t (from + 1) value next → pos ≡ pos_at t from → Takes (leave_or refuse) t from (tree.Yield value pos) next
  yields from next value pos there inside occurs = rw occurs (takes t (behind_yield refuse from there (makes t next (taken t inside))))

  pub quit : (from : ℕ) (pos : Pos) → kind_at t.list.now from ≡ Some (token.Word word.Quit) → pos ≡ pos_at t from
      → Takes (leave_or refuse) t from (tree.Quit pos) (from + 1)
  quit from pos there occurs = rw occurs (takes t (quits refuse from there))

  pub raises : (from next : ℕ) (e : Expr) (pos : Pos) → kind_at t.list.now from ≡ Some (token.Word word.Raise)
      → Takes value_form t (from + 1) e next → pos ≡ pos_at t from → Takes (leave_or refuse) t from (tree.Raise e pos) next
  raises from next e pos there inside occurs = rw occurs (takes t (behind_raise refuse from there (makes t next (taken t inside))))

  pub asserts : (from next : ℕ) (e : Expr) (pos : Pos) → kind_at t.list.now from ≡ Some (token.Word word.Assert)
      → Takes value_form t (from + 1) e next → pos ≡ pos_at t from → Takes (leave_or refuse) t from (tree.Assert e pos) next
  asserts from next e pos there inside occurs = rw occurs (takes t (behind_assert refuse from there (makes t next (taken t inside))))

  -- no word of these is there
  pub stays : (other : Form Stmt) (at : ℕ) → kind_at t.list.now at ≢ Some (token.Word word.Return) → kind_at t.list.now at ≢ Some (token.Word word.Yield)
      → kind_at t.list.now at ≢ Some (token.Word word.Quit) → kind_at t.list.now at ≢ Some (token.Word word.Raise) → kind_at t.list.now at ≢ Some (token.Word word.Assert)
      → {v : Reading Stmt} → Runs t other at v → Runs t (leave_or other) at v
  stays other at no_return no_yield no_quit no_raise no_assert r =
      not_met t (shut_word t word.Return at no_return) (not_met t (shut_word t word.Yield at no_yield) (not_met t (shut_word t word.Quit at no_quit)
      (not_met t (shut_word t word.Raise at no_raise) (not_met t (shut_word t word.Assert at no_assert) r))))

  pub none_leaves : (at : ℕ) → kind_at t.list.now at ≢ Some (token.Word word.Return) → kind_at t.list.now at ≢ Some (token.Word word.Yield)
      → kind_at t.list.now at ≢ Some (token.Word word.Quit) → kind_at t.list.now at ≢ Some (token.Word word.Raise) → kind_at t.list.now at ≢ Some (token.Word word.Assert)
      → Runs t (leave_or refuse) at (Refused (lexemes_from t at))
  none_leaves at no_return no_yield no_quit no_raise no_assert = stays refuse at no_return no_yield no_quit no_raise no_assert (refused t)
