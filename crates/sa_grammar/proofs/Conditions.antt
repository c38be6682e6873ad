-- Clauses and invariants: each of their forms is sound and complete.
use Rattle.std.proofs.Common.{◌≡◌, ℕ, suc, ◌+◌, ◌<◌, Bool, true, false, ◌&&◌, bytes_eq, codes, List, [], ◌∷◌, ◌++◌, length, refl, ap, ◌∙◌, arith, length-append, Option}
use Rattle.std.proofs.lemmas.Bool.{and_parts}
use Rattle.std.proofs.lemmas.Slice.Eq.{bytes_eq-Decides}
use Rattle.sa_lexer.specs.declared.token.TokenKind.{TokenKind}
use Rattle.sa_lexer.specs.declared.token.TokenKind.TheVariants as token
use Rattle.sa_lexer.specs.declared.sign.Sign.TheVariants as sign
use Rattle.sa_lexer.specs.declared.word.Word.{Word}
use Rattle.sa_lexer.specs.declared.word.Word.TheVariants as word
use Rattle.sa_ast.specs.declared.pos.Pos.{Pos}
use Rattle.sa_ast.specs.declared.expr.Expr.{Expr}
use Rattle.sa_ast.specs.declared.expr.Expr.TheVariants as tree
use Rattle.sa_ast.specs.declared.contract.Condition.{Condition}
use Rattle.sa_parser_expr.specs.declared.grammar.ConditionScope.{ConditionScope}
use Rattle.sa_parser_expr.specs.declared.grammar.ConditionScope.TheVariants.{Plain, PostClause}
use Rattle.sa_parser_expr.specs.Lexemes.{Lexeme, IsWord}
use Rattle.sa_parser_expr.specs.Expressions as exprs
use Rattle.sa_parser_expr.specs.Expressions.{IsExpr}
use Rattle.sa_parser_expr.specs.Enclosures.{outside, enclosure_of}
use Rattle.sa_parser_expr.specs.Readings.{Read}
use Rattle.sa_parser_expr.specs.Tests.{is_sign, is_word, is_word_kind, is_class_name, is_class_name_kind}
use Rattle.sa_parser_expr.specs.Forms.{Form, Reader, Nested, Ast, shift, make, expr}
use Rattle.sa_parser_expr.proofs.Tested.{sign_stands, word_stands, class_name_stands, sign_met, word_met, other_word, lexeme, a_sign, a_word}
use Rattle.sa_parser_expr.proofs.Shifts.{Shut}
use Rattle.sa_parser.specs.declared.file.FileKind.{FileKind}
use Rattle.sa_parser.specs.declared.file.FileKind.TheVariants.{Prelude, Program}
use Rattle.sa_parser.specs.Conditions as cond
use Rattle.sa_parser.specs.Conditions.{IsCondition, IsClause, IsClauses, IsBool, IsClosing, IsInvariant}
use Rattle.sa_parser.specs.ConditionForms.{condition_form, clause_form, clauses_form, is_bool, closing_form, holding_form}
use Rattle.sa_grammar.proofs.Parts.{Clauses, Declaration, invariant_of}
use Rattle.sa_grammar.proofs.Sound.{After, Sound, Placed, occurs}
use Rattle.sa_grammar.proofs.Sound.{IsSound, sound-give, sound-refuse, sound-shift, sound-follow, sound-placed, sound-make}
use Rattle.sa_grammar.proofs.Complete.{Reads, reads-give, reads-met, reads-other, reads-follow, reads-make, reads-placed, reads-joined}
use Rattle.sa_grammar.proofs.ExpressionStarts.{origin, true_lexeme, an_expr, expr_starts}
use Rattle.sa_grammar.proofs.ExpressionEnds.{Ends, after_expr, kind_ends}
use Rattle.sa_grammar.proofs.ExpressionsSound.{Spells, nested_sound}
use Rattle.sa_grammar.proofs.ExpressionsComplete.{EndsOf, nest_read}

-- ---- what is there

bool_stands : (l : Lexeme) → is_bool l ≡ true → IsBool l
bool_stands l h =
    let parts = and_parts (is_class_name l) (bytes_eq l.bytes (codes "BOOL")) h in
    record { kind = class_name_stands l parts.0; bytes = (bytes_eq-Decides l.bytes (codes "BOOL")).0 parts.1 }

bool_met : {l : Lexeme} → IsBool l → is_bool l ≡ true
bool_met {l = l} h = ap (λ b. b && bytes_eq l.bytes (codes "BOOL")) (ap is_class_name_kind h.kind) ∙ (bytes_eq-Decides l.bytes (codes "BOOL")).1 h.bytes

-- ---- what completes them

abbrev true_condition : Condition
true_condition = record { test = tree.Bool true origin; pos = origin }

a_condition : (scope : ConditionScope) → IsCondition scope (true_lexeme ∷ []) true_condition
a_condition scope = cond.condition (exprs.in_value (an_expr scope (enclosure_of outside)))

abbrev bool_lexeme : Lexeme
bool_lexeme = record { kind = token.ClassName; bytes = codes "BOOL"; pos = origin }

a_bool : IsBool bool_lexeme
a_bool = record { kind = refl; bytes = refl }

abbrev end_lexeme : Lexeme
end_lexeme = lexeme (token.Word word.End)

a_closing : IsClosing (end_lexeme ∷ [])
a_closing = cond.at_once (a_word word.End)

abbrev invariant_end : List Lexeme
invariant_end = true_lexeme ∷ end_lexeme ∷ []

-- ---- the forms are sound

placed_condition : {scope : ConditionScope} {ls : List Lexeme} {whole : Pos × Expr} → Placed (IsExpr scope (enclosure_of outside)) ls whole
    → IsCondition scope ls (record { test = whole.1; pos = whole.0 })
placed_condition (occurs h) = cond.condition (exprs.in_value h)

module _ (level : ℕ) (nested : (n : Nested) → Reader (Ast n)) (inside : (n : Nested) → Sound (Spells n) (nested n)) where
  sound_condition : (scope : ConditionScope) → IsSound level nested (IsCondition scope) (condition_form scope)
  unfolding condition_form
  sound_condition scope = sound-make (sound-placed (λ e h. expr_starts h) (nested_sound level nested inside (expr scope outside))) (λ ls whole h. placed_condition h)

  sound_clause : (w : Word) (scope : ConditionScope) → IsSound level nested (IsClause w scope) (clause_form w scope)
  unfolding clause_form
  sound_clause w scope =
      sound-shift (λ l is. sound-make (sound_condition scope) (λ ls holds h. cond.IsClause.given (word_stands w l is) h)) (sound-give cond.IsClause.absent)

  pub sound_clauses : (file_kind : FileKind) → IsSound level nested (IsClauses file_kind) (clauses_form file_kind)
  unfolding clauses_form
  sound_clauses Prelude = sound-give cond.IsClauses.absent
  sound_clauses Program =
      sound-follow (sound_clause word.Pre Plain) (λ ls pre h. sound-make (sound_clause word.Post PostClause) (λ ms post k. cond.IsClauses.given refl h k))

  sound_holding : (w : Lexeme) → IsWord word.Invariant w → IsSound level nested (After (w ∷ []) IsInvariant) holding_form
  unfolding holding_form closing_form
  sound_holding w v =
      sound-shift (λ colon a.
      sound-shift (λ bool b.
      sound-shift (λ is c.
      sound-shift (λ gives d.
      sound-follow (sound_condition Plain) (λ ls holds h.
      let all = λ (ms : List Lexeme) (closing : IsClosing ms).
      cond.invariant v (sign_stands sign.Colon colon a) (bool_stands bool b) (word_stands word.Is is c) (word_stands word.Return gives d) h closing in
      sound-shift (λ semicolon e.
      sound-shift (λ ends f. sound-give (all (semicolon ∷ ends ∷ []) (cond.after_semicolon (sign_stands sign.Semicolon semicolon e) (word_stands word.End ends f))))
      (sound-refuse (record { more = end_lexeme ∷ []; tree = holds; spelled = all (semicolon ∷ end_lexeme ∷ []) (cond.after_semicolon (sign_stands sign.Semicolon semicolon e) (a_word word.End)) })))
      (sound-shift (λ ends f. sound-give (all (ends ∷ []) (cond.at_once (word_stands word.End ends f))))
      (sound-refuse (record { more = end_lexeme ∷ []; tree = holds; spelled = all (end_lexeme ∷ []) a_closing })))))
      (sound-refuse (record {
        more = lexeme (token.Word word.Return) ∷ invariant_end;
        tree = true_condition;
        spelled = cond.invariant v (sign_stands sign.Colon colon a) (bool_stands bool b) (word_stands word.Is is c) (a_word word.Return) (a_condition Plain) a_closing;
      })))
      (sound-refuse (record {
        more = lexeme (token.Word word.Is) ∷ lexeme (token.Word word.Return) ∷ invariant_end;
        tree = true_condition;
        spelled = cond.invariant v (sign_stands sign.Colon colon a) (bool_stands bool b) (a_word word.Is) (a_word word.Return) (a_condition Plain) a_closing;
      })))
      (sound-refuse (record {
        more = bool_lexeme ∷ lexeme (token.Word word.Is) ∷ lexeme (token.Word word.Return) ∷ invariant_end;
        tree = true_condition;
        spelled = cond.invariant v (sign_stands sign.Colon colon a) a_bool (a_word word.Is) (a_word word.Return) (a_condition Plain) a_closing;
      })))
      (sound-refuse (record {
        more = lexeme (token.Sign sign.Colon) ∷ bool_lexeme ∷ lexeme (token.Word word.Is) ∷ lexeme (token.Word word.Return) ∷ invariant_end;
        tree = true_condition;
        spelled = cond.invariant v (a_sign sign.Colon) a_bool (a_word word.Is) (a_word word.Return) (a_condition Plain) a_closing;
      }))

  pub sound_invariant : {R : List Lexeme → Declaration → Type 0} {other : Form Declaration} → ((ls : List Lexeme) (holds : Condition) → IsInvariant ls holds → R ls (invariant_of holds))
      → IsSound level nested R other → IsSound level nested R (shift (is_word word.Invariant) (λ _. make invariant_of holding_form) other)
  sound_invariant up sound = sound-shift (λ w is. sound-make (sound_holding w (word_stands word.Invariant w is)) (λ ls holds h. up (w ∷ ls) holds h)) sound

-- ---- the forms are complete

-- no `is` continues an expression, and no "post" does
pub clause_ends : {ls : List Lexeme} {c : Option Condition} (after : TokenKind → Bool) → after (token.Word word.Post) ≡ false → (rest : List Lexeme) → IsClause word.Post PostClause ls c
    → Ends after rest → Ends after (ls ++ rest)
clause_ends after none rest cond.IsClause.absent ends = ends
clause_ends after none rest (cond.IsClause.given {w = w} {ls = ls} is h) ends = kind_ends after w (ls ++ rest) is.kind none

closing_ends : {ls : List Lexeme} (rest : List Lexeme) → IsClosing ls → Ends after_expr (ls ++ rest)
closing_ends rest (cond.at_once {w = w} is) = kind_ends after_expr w rest is.kind refl
closing_ends rest (cond.after_semicolon {semicolon = semicolon} {w = w} is k) = kind_ends after_expr semicolon (w ∷ rest) is.kind refl

module _ (level : ℕ) (nested : (n : Nested) → Reader (Ast n))
    (inside : (n : Nested) (ls : List Lexeme) (t : Ast n) (rest : List Lexeme) → Spells n ls t → length ls < level → EndsOf n rest → nested n (ls ++ rest) ≡ Read t rest) where
  condition_read : (scope : ConditionScope) (ls : List Lexeme) (holds : Condition) (rest : List Lexeme) → IsCondition scope ls holds → length ls < level → Ends after_expr rest
      → Reads level nested (condition_form scope) (ls ++ rest) holds rest
  unfolding condition_form
  condition_read scope _ _ rest (cond.condition {l = l} {ls = ls} {e = e} (exprs.in_value h)) small ends =
      reads-make (reads-placed (nest_read level nested inside (expr scope outside) (l ∷ ls) e rest h small ends))

  clause_read : (v : Word) (scope : ConditionScope) {ls : List Lexeme} {c : Option Condition} (rest : List Lexeme) → IsClause v scope ls c → length ls < level → Shut (is_word v) rest → Ends after_expr rest
      → Reads level nested (clause_form v scope) (ls ++ rest) c rest
  unfolding clause_form
  clause_read v scope rest cond.IsClause.absent small shut ends = reads-other shut reads-give
  clause_read v scope rest (cond.IsClause.given {ls = ls} {condition = holds} is h) small shut ends =
      reads-met (word_met is) (reads-make (condition_read scope ls holds rest h (omega arith) ends))

  -- before `is`
  pub clauses_read : (file_kind : FileKind) {ls : List Lexeme} {all : Clauses} (w : Lexeme) (rest : List Lexeme) → IsClauses file_kind ls all → length ls < level → IsWord word.Is w
      → Reads level nested (clauses_form file_kind) (ls ++ w ∷ rest) all (w ∷ rest)
  unfolding clauses_form
  clauses_read Prelude w rest cond.IsClauses.absent small is = reads-give
  clauses_read Prelude w rest (cond.IsClauses.given e h k) small is = absurd (cc)
  clauses_read Program w rest cond.IsClauses.absent small is =
      reads-follow (clause_read word.Pre Plain (w ∷ rest) cond.IsClause.absent small (other_word word.Pre refl is) (kind_ends after_expr w rest is.kind refl))
      (reads-make (clause_read word.Post PostClause (w ∷ rest) cond.IsClause.absent small (other_word word.Post refl is) (kind_ends after_expr w rest is.kind refl)))
  clauses_read Program w rest (cond.IsClauses.given {ls = ls} {ms = ms} e h k) small is =
      let sum : length (ls ++ ms) ≡ length ls + length ms = length-append ls ms in
      reads-joined ls ms (w ∷ rest)
      (reads-follow
      (clause_read word.Pre Plain (ms ++ w ∷ rest) h (omega arith) (clause_ends (is_word_kind word.Pre) refl (w ∷ rest) k (other_word word.Pre refl is))
      (clause_ends after_expr refl (w ∷ rest) k (kind_ends after_expr w rest is.kind refl)))
      (reads-make (clause_read word.Post PostClause (w ∷ rest) k (omega arith) (other_word word.Post refl is) (kind_ends after_expr w rest is.kind refl))))

  closing_read : {ls : List Lexeme} (holds : Condition) (rest : List Lexeme) → IsClosing ls → Reads level nested (closing_form holds) (ls ++ rest) holds rest
  unfolding closing_form
  closing_read holds rest (cond.at_once is) = reads-other (ap (λ kind. is_sign sign.Semicolon (lexeme kind)) is.kind) (reads-met (word_met is) reads-give)
  closing_read holds rest (cond.after_semicolon is k) = reads-met (sign_met is) (reads-met (word_met k) reads-give)

  pub invariant_read : {ls : List Lexeme} {holds : Condition} {other : Form Declaration} (rest : List Lexeme) → IsInvariant ls holds → length ls < suc level
      → Reads level nested (shift (is_word word.Invariant) (λ _. make invariant_of holding_form) other) (ls ++ rest) (invariant_of holds) rest
  unfolding holding_form
  invariant_read rest (cond.invariant {ls = ls} {ms = ms} {holds = holds} v colon bool is gives h closes) small =
      let sum : length (ls ++ ms) ≡ length ls + length ms = length-append ls ms in
      reads-met (word_met v)
      (reads-make
      (reads-met (sign_met colon) (reads-met (bool_met bool) (reads-met (word_met is) (reads-met (word_met gives)
      (reads-joined ls ms rest
      (reads-follow (condition_read Plain ls holds (ms ++ rest) h (omega arith) (closing_ends rest closes)) (closing_read holds rest closes))))))))
