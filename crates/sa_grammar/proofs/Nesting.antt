-- The productions that nest, at each level: sound and complete.
use Rattle.std.proofs.Common.{◌≡◌, ℕ, zero, suc, ◌<◌, true, List, [], ◌∷◌, ◌++◌, length, arith}
use Rattle.sa_lexer.specs.declared.token.TokenKind.TheVariants as token
use Rattle.sa_lexer.specs.declared.word.Word.TheVariants as word
use Rattle.sa_ast.specs.declared.ty.Ty.TheVariants as ty
use Rattle.sa_ast.specs.declared.expr.Expr.TheVariants as tree
use Rattle.sa_parser_expr.specs.Lexemes.{Lexeme}
use Rattle.sa_parser_expr.specs.Types as types
use Rattle.sa_parser_expr.specs.Enclosures.{enclosure_of}
use Rattle.sa_parser_expr.specs.Readings.{Begins, Read}
use Rattle.sa_parser_expr.specs.Forms.{Reader, Nested, Ast, nest, type, expr, unary, power, post, stmts}
use Rattle.sa_parser_expr.specs.Grammar.{form_of, nested_to}
use Rattle.sa_parser_expr.proofs.Tested.{lexeme, a_word}
use Rattle.sa_grammar.proofs.Sound.{Sound, sound-refused, IsSound}
use Rattle.sa_grammar.proofs.Complete.{Reads}
use Rattle.sa_grammar.proofs.TypeForms.{sound_type, type_read}
use Rattle.sa_grammar.proofs.ExpressionStarts.{origin, true_lexeme, a_post, a_power, a_unary, an_expr}
use Rattle.sa_grammar.proofs.ExpressionsSound.{Spells, nested_sound, sound_expr, sound_unary, sound_power, sound_post}
use Rattle.sa_grammar.proofs.StatementsSound.{no_stmts, sound_stmts}
use Rattle.sa_grammar.proofs.ExpressionsComplete.{EndsOf, nest_read}
use Rattle.sa_grammar.proofs.BodiesComplete.{stmts_read}
use Rattle.sa_grammar.proofs.OperationsComplete.{expr_read, unary_read, power_read, post_read}

begins : (n : Nested) → Begins (Spells n) []
begins type = record { more = lexeme (token.Word word.Same) ∷ []; tree = ty.Same origin; spelled = types.same (a_word word.Same) }
begins (expr s x) = record { more = true_lexeme ∷ []; tree = tree.Bool true origin; spelled = an_expr s (enclosure_of x) }
begins (unary s x) = record { more = true_lexeme ∷ []; tree = tree.Bool true origin; spelled = a_unary s (enclosure_of x) }
begins (power s x) = record { more = true_lexeme ∷ []; tree = tree.Bool true origin; spelled = a_power s (enclosure_of x) }
begins (post s x) = record { more = true_lexeme ∷ []; tree = tree.Bool true origin; spelled = a_post s (enclosure_of x) }
begins stmts = record { more = []; tree = []; spelled = no_stmts }

form_sound : (level : ℕ) (nested : (n : Nested) → Reader (Ast n)) → ((n : Nested) → Sound (Spells n) (nested n)) → (n : Nested) → IsSound level nested (Spells n) (form_of n)
unfolding form_of
form_sound level nested inside type = sound_type level nested (inside type)
form_sound level nested inside (expr s x) = sound_expr level nested inside s x
form_sound level nested inside (unary s x) = sound_unary level nested inside s x
form_sound level nested inside (power s x) = sound_power level nested inside s x
form_sound level nested inside (post s x) = sound_post level nested inside s x
form_sound level nested inside stmts = sound_stmts level nested inside

pub all_sound : (level : ℕ) (n : Nested) → Sound (Spells n) (nested_to level n)
unfolding nested_to
all_sound zero n = sound-refused (Spells n) (begins n)
all_sound (suc level) n = (form_sound level (nested_to level) (all_sound level) n).reader

module _ (level : ℕ) (nested : (n : Nested) → Reader (Ast n))
    (inside : (n : Nested) (ls : List Lexeme) (t : Ast n) (rest : List Lexeme) → Spells n ls t → length ls < level → EndsOf n rest → nested n (ls ++ rest) ≡ Read t rest) where
  form_read : (n : Nested) (ls : List Lexeme) (t : Ast n) (rest : List Lexeme) → Spells n ls t → length ls < suc level → EndsOf n rest → Reads level nested (form_of n) (ls ++ rest) t rest
  unfolding form_of
  form_read type ls t rest h small ends = type_read level nested (inside type) rest h small ends
  form_read (expr s x) ls t rest h small ends = expr_read level nested inside s x ls t rest h small ends
  form_read (unary s x) ls t rest h small ends = unary_read level nested inside s x rest h small ends
  form_read (power s x) ls t rest h small ends = power_read level nested inside s x rest h small ends
  form_read (post s x) ls t rest h small ends = post_read level nested inside s x rest h small ends
  form_read stmts ls t rest h small ends = stmts_read level nested inside rest h small ends

pub all_complete : (level : ℕ) (n : Nested) (ls : List Lexeme) (t : Ast n) (rest : List Lexeme) → Spells n ls t → length ls < level → EndsOf n rest → nested_to level n (ls ++ rest) ≡ Read t rest
unfolding nested_to
all_complete zero n ls t rest h small ends = absurd (omega arith)
all_complete (suc level) n ls t rest h small ends = (form_read level (nested_to level) (all_complete level) n ls t rest h small ends).is

-- ---- as forms

pub nest_sound : (x : Nested) (n : ℕ) → IsSound n (nested_to n) (Spells x) (nest x)
nest_sound x n = nested_sound n (nested_to n) (all_sound n) x

pub nest_reads : (x : Nested) → EndsOf x [] → (n : ℕ) (ls : List Lexeme) (t : Ast x) → Spells x ls t → length ls < n → Reads n (nested_to n) (nest x) (ls ++ []) t []
nest_reads x end n ls t h small = nest_read n (nested_to n) (all_complete n) x ls t [] h small end
