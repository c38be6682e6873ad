-- The forms of expressions are sound.
use Rattle.std.proofs.Common.{◌≡◌, ℕ, Bool, true, false, ◌||◌, List, [], ◌∷◌, ◌++◌, refl, sym, subst, append_assoc, append-nil, Option, Some, None}
use Rattle.sa_lexer.specs.declared.token.TokenKind.{TokenKind}
use Rattle.sa_lexer.specs.declared.token.TokenKind.TheVariants as token
use Rattle.sa_lexer.specs.declared.sign.Sign.TheVariants as sign
use Rattle.sa_lexer.specs.declared.word.Word.TheVariants as word
use Rattle.sa_ast.specs.declared.pos.Pos.{Pos}
use Rattle.sa_ast.specs.declared.ty.Mode.TheVariants.{In}
use Rattle.sa_ast.specs.declared.expr.Operator.{Operator}
use Rattle.sa_ast.specs.declared.expr.ExprReceiver.{ExprReceiver}
use Rattle.sa_ast.specs.declared.expr.ExprReceiver.TheVariants.{Implied, Of, OfClass}
use Rattle.sa_ast.specs.declared.expr.ExprArg.{ExprArg}
use Rattle.sa_ast.specs.declared.expr.ExprArg.TheVariants.{Value}
use Rattle.sa_ast.specs.declared.expr.Expr.{Expr}
use Rattle.sa_ast.specs.declared.expr.Expr.TheVariants as tree
use Rattle.sa_parser_expr.specs.declared.grammar.ConditionScope.{ConditionScope}
use Rattle.sa_parser_expr.specs.declared.grammar.ConditionScope.TheVariants.{Plain, PostClause}
use Rattle.sa_parser_expr.specs.Lexemes.{Lexeme, IsSign, IsFeature}
use Rattle.sa_parser_expr.specs.Types.{IsType}
use Rattle.sa_parser_expr.specs.Expressions as exprs
use Rattle.sa_parser_expr.specs.Expressions.{IsTexts, IsOptionalType, IsArg, IsArgList, IsArgs, IsCall, IsExprs, IsIndex, IsParenthesised, IsFirst}
use Rattle.sa_parser_expr.specs.Expressions.{IsPost, IsPower, IsUnary, IsOperand, IsOperation, IsExpr}
use Rattle.sa_parser_expr.specs.Enclosures.{Enclosure, Where, outside, in_array, enclosure_of}
use Rattle.sa_parser_expr.specs.Readings.{Spelling}
use Rattle.sa_parser_expr.specs.Tests.{is_sign, text_of}
use Rattle.sa_parser_expr.specs.Forms.{Form, Reader, Nested, Ast, nest, make, until, type, expr, unary, power, post, stmts}
use Rattle.sa_parser_expr.specs.TypeForms.{type_form}
use Rattle.sa_parser_expr.specs.ExpressionForms.{arg_form, args_form, named_form, call_form, indices_form, inside_form, optional_form, texts_form}
use Rattle.sa_parser_expr.specs.ExpressionForms.{items_or, result_or, class_call_form, optional_type_form, first_form, going_form}
use Rattle.sa_parser_expr.specs.ExpressionForms.{placed_post_form, post_form, power_form, unary_form, operation_form, product_form, sum_form, comparison_form, expr_form}
use Rattle.sa_parser_expr.proofs.Tested.{sign_met, sign_stands, word_stands, feature_stands, number_stands, character_stands, text_stands, lexeme, a_sign}
use Rattle.sa_parser_expr.proofs.Shorter.{opened}
use Rattle.sa_parser.specs.Statements.{IsStmts}
use Rattle.sa_grammar.proofs.Sound.{After, Sound, sound_shorter, Listed, last, more, Placed, occurs}
use Rattle.sa_grammar.proofs.Sound.{IsSound, sound-give, sound-refuse, sound-shift, sound-either, sound-follow, sound-list, sound-repeat, sound-placed, sound-make, sound-until, sound-up}
use Rattle.sa_grammar.proofs.TypeForms.{sound_type}
use Rattle.sa_grammar.proofs.Operators.{Precedence, AreOperators, prefix_of_lexeme}
use Rattle.sa_grammar.proofs.Operators.{logical_operators, comparing_operators, adding_operators, multiplying_operators}
use Rattle.sa_grammar.proofs.ExpressionStarts.{origin, a_post, parenthesised_lexemes, a_parenthesised, a_call, post_starts}

-- what the productions that nest spell
abbrev pub Spells : (n : Nested) → Spelling (Ast n)
Spells type = IsType
Spells (expr s x) = IsExpr s (enclosure_of x)
Spells (unary s x) = IsUnary s (enclosure_of x)
Spells (power s x) = IsPower s (enclosure_of x)
Spells (post s x) = IsPost s (enclosure_of x)
Spells stmts = IsStmts

-- ---- lists

pub separated_exprs : {s : ConditionScope} {x : Enclosure} {ls : List Lexeme} {es : List Expr} → Listed (IsExpr s x) ls es → IsExprs s x ls es
separated_exprs (last one) = exprs.last_expr one
separated_exprs (more {l = l} one comma others) = exprs.more_exprs one (sign_stands sign.Comma l comma) (separated_exprs others)

pub exprs_separated : {s : ConditionScope} {x : Enclosure} {ls : List Lexeme} {es : List Expr} → IsExprs s x ls es → Listed (IsExpr s x) ls es
exprs_separated (exprs.last_expr one) = last one
exprs_separated (exprs.more_exprs one comma others) = more one (sign_met comma) (exprs_separated others)

separated_args : {s : ConditionScope} {ls : List Lexeme} {args : List ExprArg} → Listed (IsArg s) ls args → IsArgList s ls args
separated_args (last one) = exprs.last_arg one
separated_args (more {l = l} one comma others) = exprs.more_args one (sign_stands sign.Comma l comma) (separated_args others)

pub args_separated : {s : ConditionScope} {ls : List Lexeme} {args : List ExprArg} → IsArgList s ls args → Listed (IsArg s) ls args
args_separated (exprs.last_arg one) = last one
args_separated (exprs.more_args one comma others) = more one (sign_met comma) (args_separated others)

-- texts, and one more
texts_more : {ls : List Lexeme} {bytes added : List ℕ} (l : Lexeme) → IsTexts ls bytes → l.kind ≡ token.Text added → IsTexts (ls ++ l ∷ []) (bytes ++ added)
texts_more l (exprs.last_text e) k = exprs.more_texts e (exprs.last_text k)
texts_more {added = added} l (exprs.more_texts {l = m} {ls = ls} {bytes = bytes} {others = others} e h) k =
    subst (λ all. IsTexts (m ∷ (ls ++ l ∷ [])) all) (sym (append_assoc bytes others added)) (exprs.more_texts e (texts_more l h k))

pub post_some : {s : ConditionScope} {x : Enclosure} (e : Expr) → IsPost s x [] e → ⊥
post_some e h = post_starts h

-- ---- the parts

module _ (level : ℕ) (nested : (n : Nested) → Reader (Ast n)) (inside : (n : Nested) → Sound (Spells n) (nested n)) where
  pub nested_sound : (n : Nested) → IsSound level nested (Spells n) (nest n)
  nested_sound n = record { reader = inside n }

  sound_arg : (s : ConditionScope) → IsSound level nested (IsArg s) (arg_form s)
  unfolding arg_form
  sound_arg s =
      sound-shift (λ l is.
      sound-shift (λ colon k. sound-make (nested_sound type) (λ ls t h. exprs.left_of_type (sign_stands sign.Underscore l is) (sign_stands sign.Colon colon k) h))
      (sound-give (exprs.left (sign_stands sign.Underscore l is))))
      (sound-shift (λ w is. sound-make (nested_sound (expr s outside)) (λ ls e h. exprs.out_value (word_stands word.Out w is) h))
      (sound-shift (λ w is. sound-make (nested_sound (expr s outside)) (λ ls e h. exprs.inout_value (word_stands word.Inout w is) h))
      (sound-make (nested_sound (expr s outside)) (λ ls e h. exprs.in_value h))))

  sound_args : (s : ConditionScope) → IsSound level nested (IsArgs s) (args_form s)
  unfolding args_form
  sound_args s =
      sound-shift (λ begun opens.
      sound-until (sound-list (sound_arg s) (λ ls args h. separated_args h))
      (λ ls args closed among closes. exprs.args (sign_stands sign.LeftParen begun opens) among closes))
      (sound-give exprs.no_args)

  sound_named : (s : ConditionScope) (on : ExprReceiver) (f : Lexeme) → IsFeature f → IsSound level nested (After (f ∷ []) (IsCall s on)) (named_form s on f)
  unfolding named_form
  sound_named s on f is = sound-make (sound_args s) (λ ls args h. exprs.named is h)

  sound_call : (s : ConditionScope) (on : ExprReceiver) → IsSound level nested (IsCall s on) (call_form s on)
  unfolding call_form
  sound_call s on =
      sound-shift (λ f is. sound_named s on f (feature_stands f is))
      (sound-refuse (record { more = lexeme token.Lower ∷ []; tree = tree.Call on [] [] origin; spelled = a_call s on }))

  sound_places : (s : ConditionScope) (begun : Lexeme) → IsSign sign.LeftBracket begun → IsSound level nested (After (begun ∷ []) (IsIndex s)) (indices_form s)
  unfolding indices_form
  sound_places s begun is =
      sound-until (sound-list (nested_sound (expr s outside)) (λ ls es h. separated_exprs h)) (λ ls es closed among closes. exprs.places is among closes)

  sound_inside : (s : ConditionScope) (begun : Lexeme) → IsSign sign.LeftParen begun → IsSound level nested (After (begun ∷ []) (IsParenthesised s)) (inside_form s)
  unfolding inside_form
  sound_inside s begun is = sound-until (nested_sound (expr s outside)) (λ ls e closed h closes. exprs.in_parentheses is h closes)

  sound_optional : {R : Spelling Expr} (s : ConditionScope) (absent : Expr) (of : Expr → Expr) → R [] absent → ((ls : List Lexeme) (e : Expr) → IsParenthesised s ls e → R ls (of e))
      → IsSound level nested R (optional_form s absent of)
  unfolding optional_form
  sound_optional s absent of none up =
      sound-shift (λ begun is. sound-make (sound_inside s begun (sign_stands sign.LeftParen begun is)) (λ ls e h. up (begun ∷ ls) e h)) (sound-give none)

  sound_texts : (l : Lexeme) → l.kind ≡ token.Text (text_of l) → IsSound level nested (After (l ∷ []) IsTexts) (texts_form (text_of l))
  unfolding texts_form
  sound_texts l is = sound-repeat {R = IsTexts} (l ∷ []) (exprs.last_text is) (λ ls bytes h o met. sound-give (texts_more o h (text_stands o met)))

  -- ---- what an expression begins with

  sound_items : (s : ConditionScope) (x : Where) {other : Form Expr} → IsSound level nested (IsFirst s (enclosure_of x)) other → IsSound level nested (IsFirst s (enclosure_of x)) (items_or s x other)
  unfolding items_or
  sound_items s in_array sound = sound
  sound_items s outside sound =
      sound-shift (λ l is.
      sound-make {P = λ ls es. IsFirst s (enclosure_of outside) (l ∷ ls) (tree.Items es l.pos)}
      (sound-until (sound-list (nested_sound (expr s in_array)) (λ ls es h. separated_exprs h))
      (λ ls es closed among closes. exprs.items (sign_stands sign.Bar l is) among closes))
      (λ ls es h. h))
      sound

  sound_result : (s : ConditionScope) (x : Enclosure) {other : Form Expr} → IsSound level nested (IsFirst s x) other → IsSound level nested (IsFirst s x) (result_or s other)
  unfolding result_or
  sound_result Plain x sound = sound
  sound_result PostClause x sound =
      sound-shift (λ w is. sound-give (exprs.result_word (word_stands word.Result w is)))
      (sound-shift (λ w is.
      sound-shift (λ begun k. sound-make (sound_inside Plain begun (sign_stands sign.LeftParen begun k)) (λ ls e h. exprs.initial_of (word_stands word.Initial w is) h))
      (sound-refuse (record {
        more = parenthesised_lexemes;
        tree = tree.Call Implied w.bytes (Value In (tree.Bool true origin) ∷ []) w.pos;
        spelled = exprs.initial_of (word_stands word.Initial w is) (a_parenthesised Plain);
      })))
      sound)

  sound_class_call : (s : ConditionScope) (x : Enclosure) → IsSound level nested (IsFirst s x) (class_call_form s)
  unfolding class_call_form
  sound_class_call s x =
      sound-follow (sound_type level nested (inside type)) (λ ls t one.
      sound-shift (λ colons is. sound-up (sound_call s (OfClass t)) (λ ms e h. exprs.class_call one (sign_stands sign.DoubleColon colons is) h))
      (sound-refuse (record {
        more = lexeme (token.Sign sign.DoubleColon) ∷ lexeme token.Lower ∷ [];
        tree = tree.Call (OfClass t) [] [] origin;
        spelled = exprs.class_call one (a_sign sign.DoubleColon) (a_call s (OfClass t));
      })))

  sound_optional_type : IsSound level nested IsOptionalType optional_type_form
  unfolding optional_type_form
  sound_optional_type =
      sound-either (sound-make (sound_type level nested (inside type)) (λ ls t h. exprs.of_type h)) (sound-give exprs.no_type)
      (λ l ls h. opened level nested (λ n ms. sound_shorter (Spells n) (nested n) (inside n) ms) (make Some type_form) l ls h)

  sound_bind : (s : ConditionScope) (x : Enclosure) (w begun : Lexeme) → is_sign sign.LeftParen begun ≡ true → ((ls : List Lexeme) (e : Expr) → IsPost s (enclosure_of outside) ls e
      → (closed : Lexeme) → IsSign sign.RightParen closed → IsFirst s x (w ∷ begun ∷ ls ++ closed ∷ []) (tree.Bind e w.pos))
      → IsSound level nested (After (begun ∷ []) (After (w ∷ []) (IsFirst s x))) (make (λ e. tree.Bind e w.pos) (until sign.RightParen (nest (post s outside))))
  sound_bind s x w begun is up =
      sound-make {P = λ ls e. IsFirst s x (w ∷ begun ∷ ls) (tree.Bind e w.pos)}
      (sound-until (nested_sound (post s outside)) (λ ls e closed h closes. up ls e h closed closes)) (λ ls e h. h)

  sound_first : (s : ConditionScope) (x : Where) → IsSound level nested (IsFirst s (enclosure_of x)) (first_form s x)
  unfolding first_form
  sound_first s x =
      sound-shift (λ l is. sound-give (exprs.number (number_stands l is)))
      (sound-shift (λ l is. sound-give (exprs.character (character_stands l is)))
      (sound-shift (λ l is. sound-make (sound_texts l (text_stands l is)) (λ ls bytes h. exprs.texts h))
      (sound-shift (λ w is. sound-give (exprs.true_word (word_stands word.True w is)))
      (sound-shift (λ w is. sound-give (exprs.false_word (word_stands word.False w is)))
      (sound-shift (λ w is. sound-give (exprs.self_word (word_stands word.SelfWord w is)))
      (sound-shift (λ w is. sound-give (exprs.exception_word (word_stands word.Exception w is)))
      (sound-shift (λ begun is. sound-up (sound_inside s begun (sign_stands sign.LeftParen begun is)) (λ ls e h. exprs.parenthesised h))
      (sound-shift (λ w is.
      sound_optional s (tree.Void w.pos) (λ e. tree.IsVoid e w.pos) (exprs.void_word (word_stands word.Void w is)) (λ ls e h. exprs.void_of (word_stands word.Void w is) h))
      (sound-shift (λ w is.
      sound_optional s (tree.New None w.pos) (λ e. tree.New (Some e) w.pos) (exprs.new_word (word_stands word.New w is))
      (λ ls e h. exprs.new_of (word_stands word.New w is) h))
      (sound-shift (λ f is. sound-up (sound_named s Implied f (feature_stands f is)) (λ ls e h. exprs.implied_call h))
      (sound-shift (λ hash is.
      sound-follow sound_optional_type (λ ls of h. sound-make (sound_args s) (λ ms args k. exprs.create (sign_stands sign.Hash hash is) h k)))
      (sound-shift (λ w is.
      sound-shift (λ begun k.
      sound_bind s (enclosure_of x) w begun k (λ ls e h closed closes. exprs.bind (word_stands word.Bind w is) (sign_stands sign.LeftParen begun k) h closes))
      (sound-refuse (record {
        more = parenthesised_lexemes;
        tree = tree.Bind (tree.Bool true origin) w.pos;
        spelled = exprs.bind (word_stands word.Bind w is) (a_sign sign.LeftParen) (a_post s (enclosure_of outside)) (a_sign sign.RightParen);
      })))
      (sound-shift (λ l is. sound-make (sound_places s l (sign_stands sign.LeftBracket l is)) (λ ls places h. exprs.index_on_self h))
      (sound_items s x
      (sound_result s (enclosure_of x)
      (sound_class_call s (enclosure_of x)))))))))))))))))

  -- ---- operators

  sound_going : (s : ConditionScope) (x : Enclosure) (ls : List Lexeme) (so_far : Pos × Expr) → Placed (IsPost s x) ls so_far → (l : Lexeme) (b : Bool)
      → is_sign sign.Dot l ≡ b → (b || is_sign sign.LeftBracket l) ≡ true → IsSound level nested (After (l ∷ []) (After ls (Placed (IsPost s x)))) (going_form b s so_far)
  unfolding going_form
  sound_going s x _ _ (occurs {a = a} h) l true dot goes =
      sound-make (sound_call s (Of a)) (λ ms e k. occurs (exprs.call_on h (sign_stands sign.Dot l dot) k))
  sound_going s x _ _ (occurs h) l false dot goes = sound-make (sound_places s l (sign_stands sign.LeftBracket l goes)) (λ ms places k. occurs (exprs.index_of h k))

  sound_placed_post : (s : ConditionScope) (x : Where) → IsSound level nested (Placed (IsPost s (enclosure_of x))) (placed_post_form s x)
  unfolding placed_post_form
  sound_placed_post s x =
      sound-follow (sound-placed post_some (sound-up (sound_first s x) (λ ls e h. exprs.first h)))
      (λ ls so_far h. sound-repeat {R = Placed (IsPost s (enclosure_of x))} ls h (λ ms other k l is. sound_going s (enclosure_of x) ms other k l (is_sign sign.Dot l) refl is))

  placed_is_post : {s : ConditionScope} {x : Enclosure} (ls : List Lexeme) (whole : Pos × Expr) → Placed (IsPost s x) ls whole → IsPost s x ls whole.1
  placed_is_post _ _ (occurs h) = h

  pub sound_post : (s : ConditionScope) (x : Where) → IsSound level nested (IsPost s (enclosure_of x)) (post_form s x)
  unfolding post_form
  sound_post s x = sound-make (sound_placed_post s x) placed_is_post

  pub sound_power : (s : ConditionScope) (x : Where) → IsSound level nested (IsPower s (enclosure_of x)) (power_form s x)
  unfolding power_form
  sound_power s x =
      sound-follow (sound_post s x) (λ ls a h.
      sound-shift (λ o is. sound-make (nested_sound (power s x)) (λ ms b k. exprs.raised h (sign_stands sign.Caret o is) k)) (sound-give (rw append-nil (exprs.post h))))

  pub sound_unary : (s : ConditionScope) (x : Where) → IsSound level nested (IsUnary s (enclosure_of x)) (unary_form s x)
  unfolding unary_form
  sound_unary s x =
      sound-shift (λ o is. sound-make (nested_sound (unary s x)) (λ ls e h. exprs.prefix (prefix_of_lexeme o is) h)) (sound-up (sound_power s x) (λ ls e h. exprs.power h))

  sound_operation : {s : ConditionScope} {p : Precedence} {x : Enclosure} {operators : TokenKind → Option Operator} {form : Form Expr} → AreOperators p operators
      → IsSound level nested (IsOperand s p x) form → IsSound level nested (IsOperation s p x) (operation_form operators form)
  unfolding operation_form
  sound_operation {s = s} {p = p} {x = x} are sound =
      sound-follow (sound-up sound (λ ls a h. exprs.operand h)) (λ ls a h.
      sound-repeat {R = IsOperation s p x} ls h (λ ms b k o is. sound-make sound (λ xs c j. exprs.operation k (are.occurs o is) j)))

  pub sound_expr : (s : ConditionScope) (x : Where) → IsSound level nested (IsExpr s (enclosure_of x)) (expr_form s x)
  unfolding expr_form comparison_form sum_form product_form
  sound_expr s x =
      let product = sound_operation multiplying_operators (sound-up (sound_unary s x) (λ ls e h. exprs.of_multiplying h)) in
      let sum = sound_operation adding_operators (sound-up product (λ ls e h. exprs.of_adding h)) in
      let comparison = sound_operation comparing_operators (sound-up sum (λ ls e h. exprs.of_comparing h)) in
      sound-up (sound_operation logical_operators (sound-up comparison (λ ls e h. exprs.of_logical h))) (λ ls e h. exprs.logical_operation h)
