-- The forms of statements are complete.
use Rattle.std.proofs.Common.{◌≡◌, ℕ, suc, ◌+◌, ◌<◌, Bool, true, false, List, [], ◌∷◌, ◌++◌, length, refl, sym, ap, subst, ◌∙◌, append_assoc, append-nil, arith, length-append, Option, Some, None}
use Rattle.std.proofs.lemmas.Bool.{or_right}
use Rattle.sa_lexer.specs.declared.token.TokenKind.{TokenKind}
use Rattle.sa_lexer.specs.declared.token.TokenKind.TheVariants as token
use Rattle.sa_lexer.specs.declared.sign.Sign.{Sign}
use Rattle.sa_lexer.specs.declared.sign.Sign.TheVariants as sign
use Rattle.sa_lexer.specs.declared.word.Word.TheVariants as word
use Rattle.sa_ast.specs.declared.ty.Ty.{Ty}
use Rattle.sa_ast.specs.declared.expr.ExprReceiver.TheVariants.{Implied}
use Rattle.sa_ast.specs.declared.expr.Expr.{Expr}
use Rattle.sa_ast.specs.declared.expr.Expr.TheVariants as exprtree
use Rattle.sa_ast.specs.declared.stmt.Local.{Local}
use Rattle.sa_ast.specs.declared.stmt.BranchArm.{BranchArm}
use Rattle.sa_ast.specs.declared.stmt.CaseArm.{CaseArm}
use Rattle.sa_ast.specs.declared.stmt.TypeArm.{TypeArm}
use Rattle.sa_ast.specs.declared.stmt.Stmt.{Stmt}
use Rattle.sa_ast.specs.declared.stmt.Stmt.TheVariants as tree
use Rattle.sa_parser_expr.specs.declared.grammar.ConditionScope.TheVariants.{Plain}
use Rattle.sa_parser_expr.specs.Lexemes.{Lexeme, IsSign, name_of}
use Rattle.sa_parser_expr.specs.Types.{IsType}
use Rattle.sa_parser_expr.specs.Expressions as exprs
use Rattle.sa_parser_expr.specs.Expressions.{IsExpr}
use Rattle.sa_parser_expr.specs.Enclosures.{outside, enclosure_of}
use Rattle.sa_parser_expr.specs.Readings.{Reading, Read, Refused}
use Rattle.sa_parser_expr.specs.Tests.{is_word, is_sign, is_sign_kind, is_lower, is_lower_kind}
use Rattle.sa_parser_expr.specs.Forms.{Form, Reader, Nested, Ast, list, opens, run, type, expr}
use Rattle.sa_parser_expr.specs.ExpressionForms.{named_form, args_form, expr_form}
use Rattle.sa_parser_expr.specs.StatementForms.{value_form, assigned_form, optional_value_form, name_form, typed_form, assign_form, after_name_form, simple_form}
use Rattle.sa_parser_expr.specs.StatementForms.{joined}
use Rattle.sa_parser_expr.proofs.BehindNames.{with_kind, same_behind}
use Rattle.sa_parser_expr.proofs.Tested.{sign_met, sign_stands, word_met, lower_stands, other_sign}
use Rattle.sa_parser_expr.proofs.Shifts.{Shut, Meets}
use Rattle.sa_parser.specs.Names as names
use Rattle.sa_parser.specs.Names.{IsLower, IsName, IsMoreNames, IsNames}
use Rattle.sa_parser.specs.Statements as stmt
use Rattle.sa_parser.specs.Statements.{IsValue, IsValues, IsAssigned, IsOptionalExpr, IsSimple, IsLeave, IsBody, IsStmts, IsOptionalStmt, IsStmt, IsArms, IsArm, IsEnding, IsElse, IsCaseArms, IsCaseArm, IsBranches, IsBranch}
use Rattle.sa_grammar.proofs.Sound.{Separated, Listed, last, more}
use Rattle.sa_grammar.proofs.Complete.{Reads, reads-give, reads-met, reads-other, reads-first, reads-second, reads-follow, reads-make, reads-joined, reads-list}
use Rattle.sa_grammar.proofs.TypeForms.{EndsType, sign_ends}
use Rattle.sa_grammar.proofs.ExpressionStarts.{begins_expr, meets_front, expr_starts}
use Rattle.sa_grammar.proofs.ExpressionEnds.{Ends, after_expr, ends_left, ends_right, kind_ends}
use Rattle.sa_grammar.proofs.ExpressionsSound.{Spells}
use Rattle.sa_grammar.proofs.ExpressionsComplete.{EndsOf, nest_read}
use Rattle.sa_grammar.proofs.OperationsComplete.{expr_read}
use Rattle.sa_grammar.proofs.ExpressionEnds.{expr_ends_type, expr_shuts_colon}
use Rattle.sa_grammar.proofs.StatementEnds.{begins_stmt, kind_begins_stmt, after_names, after_value, after_simple, after_stmt, expr_opens, agreed_shut, agreed_meets}

-- ---- names, values and lists

value_expr : {ls : List Lexeme} {e : Expr} → IsValue ls e → IsExpr Plain (enclosure_of outside) ls e
value_expr (exprs.in_value h) = h

pub values_separated : {ls : List Lexeme} {es : List Expr} → IsValues ls es → Listed (IsExpr Plain (enclosure_of outside)) ls es
values_separated (stmt.last_value one) = last (value_expr one)
values_separated (stmt.more_values one comma others) = more (value_expr one) (sign_met comma) (values_separated others)

pub lower_met : (l : Lexeme) → IsLower l → is_lower l ≡ true
lower_met l is = ap is_lower_kind is

pub listed_names : {l : Lexeme} {ls : List Lexeme} {others : List Local} → IsLower l → IsMoreNames ls others → Listed (IsName IsLower) (l ∷ ls) (name_of l ∷ others)
listed_names k names.no_more_names = last (names.one_name k)
listed_names k (names.more_names is j h) = more (names.one_name k) (sign_met is) (listed_names j h)

pub arms_listed : {ls : List Lexeme} {arms : List BranchArm} → IsArms ls arms → Separated (is_word word.Elsif) IsArm ls arms
arms_listed (stmt.last_arm one) = last one
arms_listed (stmt.more_arms one is others) = more one (word_met is) (arms_listed others)

-- a list that may be empty is so, or begins with its word
pub case_arms_behind : {ls ms : List Lexeme} {arm : CaseArm} {arms : List CaseArm} → IsCaseArm ls arm → IsCaseArms ms arms → Separated (is_word word.When) IsCaseArm (ls ++ ms) (arm ∷ arms)
case_arms_behind {ls = ls} {arm = arm} one stmt.no_case_arm = subst (λ xs. Separated (is_word word.When) IsCaseArm xs (arm ∷ [])) (sym (append-nil ls)) (last one)
case_arms_behind one (stmt.more_case_arms is next others) = more one (word_met is) (case_arms_behind next others)

pub branches_behind : {ls ms : List Lexeme} {arm : TypeArm} {arms : List TypeArm} → IsBranch ls arm → IsBranches ms arms → Separated (is_word word.When) IsBranch (ls ++ ms) (arm ∷ arms)
branches_behind {ls = ls} {arm = arm} one stmt.no_branch = subst (λ xs. Separated (is_word word.When) IsBranch xs (arm ∷ [])) (sym (append-nil ls)) (last one)
branches_behind one (stmt.more_branches is next others) = more one (word_met is) (branches_behind next others)

pub record StmtLists (ls : List Lexeme) (all : List Stmt) : Type 0 where
  pub lists : List (List Stmt)
  pub parts : Separated (is_sign sign.Semicolon) IsOptionalStmt ls lists
  pub whole : joined lists ≡ all

pub stmt_lists : {ls : List Lexeme} {all : List Stmt} → IsStmts ls all → StmtLists ls all
stmt_lists (stmt.last_stmt {list = list} one) = record { lists = list ∷ []; parts = last one; whole = append-nil list }
stmt_lists (stmt.more_stmts {first = first} one is others) =
    let rest = stmt_lists others in
    record { lists = first ∷ rest.lists; parts = more one (sign_met is) rest.parts; whole = ap (λ xs. first ++ xs) rest.whole }

-- ---- what statements begin with, and what ends their parts

pub simple_starts : {ls : List Lexeme} {s : Stmt} → IsSimple ls s → Meets (λ l. begins_expr Plain l.kind) ls
simple_starts (stmt.declare (names.all_names is h) colon one value) = ap (begins_expr Plain) is
simple_starts (stmt.declare_by_value is gets h) = ap (begins_expr Plain) is
simple_starts (stmt.alone h) = expr_starts (value_expr h)
simple_starts (stmt.assign {ls = ls} {ms = ms} {gets = gets} h is k) = meets_front (λ l. begins_expr Plain l.kind) ls (gets ∷ ms) (expr_starts (value_expr h))

expr_is_stmt : (ls : List Lexeme) → Meets (λ l. begins_expr Plain l.kind) ls → Meets (λ l. begins_stmt l.kind) ls
expr_is_stmt [] h = h
expr_is_stmt (l ∷ ls) h = or_right (kind_begins_stmt l.kind) (begins_expr Plain l.kind) h

leave_starts : {ls : List Lexeme} {s : Stmt} → IsLeave ls s → Meets (λ l. begins_stmt l.kind) ls
leave_starts (stmt.return_word is h) = ap begins_stmt is.kind
leave_starts (stmt.yield_word is h) = ap begins_stmt is.kind
leave_starts (stmt.quit_word is) = ap begins_stmt is.kind
leave_starts (stmt.raise_word is h) = ap begins_stmt is.kind
leave_starts (stmt.assert_word is h) = ap begins_stmt is.kind

pub stmt_starts : {ls : List Lexeme} {s : Stmt} → IsStmt ls s → Meets (λ l. begins_stmt l.kind) ls
stmt_starts (stmt.if_block is arms other) = ap begins_stmt is.kind
stmt_starts (stmt.loop_block (stmt.body is h) closes) = ap begins_stmt is.kind
stmt_starts (stmt.case_block is h choice) = ap begins_stmt is.kind
stmt_starts (stmt.typecase_block is h choice) = ap begins_stmt is.kind
stmt_starts (stmt.protect_block (stmt.body is h) choice) = ap begins_stmt is.kind
stmt_starts (stmt.leave h) = leave_starts h
stmt_starts (stmt.simple {ls = ls} h) = expr_is_stmt ls (simple_starts h)

simple_ends_expr : (rest : List Lexeme) → Ends after_simple rest → Ends after_expr rest
simple_ends_expr rest h = ends_left after_expr after_value rest h

simple_ends_value : (rest : List Lexeme) → Ends after_simple rest → Ends after_value rest
simple_ends_value rest h = ends_right after_expr after_value rest h

pub assigned_ends : {ls : List Lexeme} {value : Option Expr} (rest : List Lexeme) → IsAssigned ls value → Ends after_simple rest → EndsType (ls ++ rest)
assigned_ends rest stmt.not_assigned h = expr_ends_type rest (simple_ends_expr rest h)
assigned_ends rest (stmt.assigned {gets = gets} {ls = ls} is k) h = sign_ends sign.Assign refl refl gets (ls ++ rest) is

pub then_ends : {ls : List Lexeme} {all : List Stmt} (after : TokenKind → Bool) → after (token.Word word.Then) ≡ false → (rest : List Lexeme) → IsBody word.Then ls all → Ends after (ls ++ rest)
then_ends after none rest (stmt.body {w = w} {ls = ls} is h) = kind_ends after w (ls ++ rest) is.kind none

pub then_ends_type : {ls : List Lexeme} {all : List Stmt} (rest : List Lexeme) → IsBody word.Then ls all → EndsType (ls ++ rest)
then_ends_type rest h = record { brace = then_ends (is_sign_kind sign.LeftBrace) refl rest h; colon = then_ends (is_sign_kind sign.Colon) refl rest h }

pub ending_ends : {ls : List Lexeme} {other : Option (List Stmt)} (after : TokenKind → Bool) → after (token.Word word.End) ≡ false → after (token.Word word.Else) ≡ false
    → (rest : List Lexeme) → IsEnding ls other → Ends after (ls ++ rest)
ending_ends after none also rest (stmt.ending {closing = closed} stmt.no_else closes) = kind_ends after closed rest closes.kind none
ending_ends after none also rest (stmt.ending {closing = closed} (stmt.else_part (stmt.body {w = w} {ls = ls} is h)) closes) = kind_ends after w ((ls ++ closed ∷ []) ++ rest) is.kind also

-- the arms after a case, and what ends them
pub case_arms_end : {ls ms : List Lexeme} {arms : List CaseArm} {other : Option (List Stmt)} (after : TokenKind → Bool) → after (token.Word word.When) ≡ false
    → after (token.Word word.End) ≡ false → after (token.Word word.Else) ≡ false → (rest : List Lexeme) → IsCaseArms ls arms → IsEnding ms other → Ends after (ls ++ (ms ++ rest))
case_arms_end after when none also rest stmt.no_case_arm k = ending_ends after none also rest k
case_arms_end {ms = ms} after when none also rest (stmt.more_case_arms {w = w} {ls = ls} {ms = others} is one h) k = kind_ends after w ((ls ++ others) ++ (ms ++ rest)) is.kind when

pub branches_end : {ls ms : List Lexeme} {arms : List TypeArm} {other : Option (List Stmt)} (after : TokenKind → Bool) → after (token.Word word.When) ≡ false
    → after (token.Word word.End) ≡ false → after (token.Word word.Else) ≡ false → (rest : List Lexeme) → IsBranches ls arms → IsEnding ms other → Ends after (ls ++ (ms ++ rest))
branches_end after when none also rest stmt.no_branch k = ending_ends after none also rest k
branches_end {ms = ms} after when none also rest (stmt.more_branches {w = w} {ls = ls} {ms = others} is one h) k = kind_ends after w ((ls ++ others) ++ (ms ++ rest)) is.kind when

left_length : {A : Type 0} → Reading A → ℕ
left_length (Read tree rest) = length rest
left_length (Refused rest) = length rest

module _ (level : ℕ) (nested : (n : Nested) → Reader (Ast n)) where
  reads-at : {A : Type 0} {form : Form A} {ls ms rest : List Lexeme} {a : A} → ls ≡ ms → Reads level nested form ms a rest → Reads level nested form ls a rest
  reads-at {form = form} e r = record { is = ap (run level nested form) e ∙ r.is }

  -- a name alone is the expression where a sign of a declaration follows it
  abbrev Stops : Lexeme → Sign → Type 0
  Stops l s = (c : Lexeme) (ls : List Lexeme)
      → run level nested (after_name_form l) (with_kind (token.Sign s) c ∷ ls) ≡ Read (exprtree.Call Implied l.bytes [] l.pos) (with_kind (token.Sign s) c ∷ ls)

  comma_stops : (l : Lexeme) → Stops l sign.Comma
  unfolding after_name_form named_form args_form
  comma_stops l c ls = refl

  colon_stops : (l : Lexeme) → Stops l sign.Colon
  unfolding after_name_form named_form args_form
  colon_stops l c ls = refl

  declare_stops : (l : Lexeme) → Stops l sign.Declare
  unfolding after_name_form named_form args_form
  declare_stops l c ls = refl

  -- so no such sign follows a name that begins a longer expression
  next_shut : (l : Lexeme) (s : Sign) → Stops l s → (c : Lexeme) (ls tail : List Lexeme) (a : Expr) → Reads level nested (after_name_form l) ((c ∷ ls) ++ tail) a tail
      → (b : Bool) → is_sign s c ≡ b → b ≡ false
  unfolding left_length
  next_shut l s stops c ls tail a r false e = refl
  next_shut l s stops c ls tail a r true e =
      let kind = (sign_stands s c e).kind in
      let alone : run level nested (after_name_form l) (c ∷ (ls ++ tail)) ≡ Read (exprtree.Call Implied l.bytes [] l.pos) (with_kind (token.Sign s) c ∷ (ls ++ tail))
      = ap (λ kind. run level nested (after_name_form l) (with_kind kind c ∷ (ls ++ tail))) kind ∙ stops c (ls ++ tail) in
      let size : suc (length (ls ++ tail)) ≡ length tail = ap left_length (sym alone ∙ r.is) in
      let sum : length (ls ++ tail) ≡ length ls + length tail = length-append ls tail in
      absurd (omega arith)

  behind_shut : (l : Lexeme) (s : Sign) → Stops l s → (ls tail : List Lexeme) (a : Expr) → Reads level nested (after_name_form l) (ls ++ tail) a tail
      → Shut (is_sign s) tail → Shut (is_sign s) (ls ++ tail)
  behind_shut l s stops [] tail a r shut = shut
  behind_shut l s stops (c ∷ ls) tail a r shut = next_shut l s stops c ls tail a r (is_sign s c) refl

module _ (level : ℕ) (nested : (n : Nested) → Reader (Ast n))
    (inside : (n : Nested) (ls : List Lexeme) (t : Ast n) (rest : List Lexeme) → Spells n ls t → length ls < level → EndsOf n rest → nested n (ls ++ rest) ≡ Read t rest) where
  pub value_read : (ls : List Lexeme) (e : Expr) (rest : List Lexeme) → IsValue ls e → length ls < level → Ends after_expr rest → Reads level nested value_form (ls ++ rest) e rest
  value_read ls e rest h small ends = nest_read level nested inside (expr Plain outside) ls e rest (value_expr h) small ends

  pub assigned_apart : {ls : List Lexeme} {value : Option Expr} (rest : List Lexeme) → IsAssigned ls value → length ls < level → Ends (is_sign_kind sign.Assign) rest → Ends after_expr rest
      → Reads level nested assigned_form (ls ++ rest) value rest
  unfolding assigned_form
  assigned_apart rest stmt.not_assigned small shut ends = reads-other shut reads-give
  assigned_apart rest (stmt.assigned {ls = ls} {e = e} is h) small shut ends = reads-met (sign_met is) (reads-make (value_read ls e rest h (omega arith) ends))

  pub assigned_read : {ls : List Lexeme} {value : Option Expr} (rest : List Lexeme) → IsAssigned ls value → length ls < level → Ends after_simple rest
      → Reads level nested assigned_form (ls ++ rest) value rest
  assigned_read rest h small ends =
      assigned_apart rest h small (ends_left (is_sign_kind sign.Assign) after_names rest (simple_ends_value rest ends)) (simple_ends_expr rest ends)

  pub optional_value_read : {ls : List Lexeme} {value : Option Expr} (rest : List Lexeme) → IsOptionalExpr ls value → length ls < suc level → Ends after_stmt rest
      → Reads level nested optional_value_form (ls ++ rest) value rest
  unfolding optional_value_form
  optional_value_read rest stmt.no_expr small ends =
      reads-second (agreed_shut (opens (expr_form Plain outside)) (λ l. begins_expr Plain l.kind) expr_opens rest
      (ends_right kind_begins_stmt (begins_expr Plain) rest (ends_right after_simple begins_stmt rest ends)))
      reads-give
  optional_value_read rest (stmt.of_expr {ls = ls} {e = e} h) small ends =
      reads-first (agreed_meets (opens (expr_form Plain outside)) (λ l. begins_expr Plain l.kind) expr_opens (ls ++ rest)
      (meets_front (λ l. begins_expr Plain l.kind) ls rest (expr_starts (value_expr h))))
      (reads-make (expr_read level nested inside Plain outside ls e rest (value_expr h) small (simple_ends_expr rest (ends_left after_simple begins_stmt rest ends))))

  pub name_read : (ls : List Lexeme) (name : Local) (rest : List Lexeme) → IsName IsLower ls name → length ls < level → Unit {0} → Reads level nested name_form (ls ++ rest) name rest
  unfolding name_form
  name_read ls _ rest (names.one_name {l = l} k) small any = reads-met (lower_met l k) reads-give

  typed_read : (all : List Local) {ms vs : List Lexeme} {t : Ty} {value : Option Expr} (rest : List Lexeme) → IsType ms t → IsAssigned vs value → length ms < level → length vs < level
      → Ends after_simple rest → Reads level nested (typed_form all) (ms ++ (vs ++ rest)) (tree.Declare all (Some t) value) rest
  unfolding typed_form
  typed_read all {ms = ms} {vs = vs} {t = t} rest one given small short ends =
      reads-follow (nest_read level nested inside type ms t (vs ++ rest) one small (assigned_ends rest given ends)) (reads-make (assigned_read rest given short ends))

  -- names, a `:` and what comes after it, from the first name on
  declare_read : {ls ms vs : List Lexeme} {all : List Local} {t : Ty} {value : Option Expr} (colon : Lexeme) (rest : List Lexeme) → IsNames ls all → IsSign sign.Colon colon → IsType ms t
      → IsAssigned vs value → length ls + length ms + length vs < suc level → Ends after_simple rest
      → Reads level nested simple_form (ls ++ colon ∷ (ms ++ (vs ++ rest))) (tree.Declare all (Some t) value) rest
  unfolding simple_form
  declare_read colon rest (names.all_names {l = l} k names.no_more_names) is one given small ends =
      reads-met (lower_met l k) (reads-other (other_sign sign.Comma refl is)
      (reads-met (sign_met is) (typed_read (name_of l ∷ []) rest one given (omega arith) (omega arith) ends)))
  declare_read {ms = ms} {vs = vs} colon rest (names.all_names {l = l} k (names.more_names {l = next} {ls = ls} {names = others} comma j h)) is one given small ends =
      reads-met (lower_met l k) (reads-met (sign_met comma)
      (reads-follow
      (reads-list level nested (IsName IsLower) (λ rest. Unit {0}) name_form name_read (λ l rest is. tt) (colon ∷ (ms ++ (vs ++ rest))) (listed_names j h) (omega arith) tt
      (other_sign sign.Comma refl is))
      (reads-met (sign_met is) (typed_read (name_of l ∷ name_of next ∷ others) rest one given (omega arith) (omega arith) ends))))

  -- an expression, and what an assignment has after it
  from_value : (l : Lexeme) (ls : List Lexeme) (a : Expr) (tail : List Lexeme) {s : Stmt} {rest : List Lexeme} → IsValue (l ∷ ls) a → length (l ∷ ls) < suc level
      → Ends after_expr tail → Ends after_names tail → Reads level nested (assign_form a) tail s rest → (b : Bool) → is_lower l ≡ b
      → Reads level nested simple_form ((l ∷ ls) ++ tail) s rest
  unfolding simple_form
  from_value l ls a tail h small ends names_end r false e =
      reads-other e (reads-follow (expr_read level nested inside Plain outside (l ∷ ls) a tail (value_expr h) small ends) r)
  from_value l ls a tail h small ends names_end r true e =
      let following : Reads level nested (after_name_form l) (ls ++ tail) a tail = record {
        is = sym (same_behind level nested l (lower_stands l e) (ls ++ tail)) ∙ (expr_read level nested inside Plain outside (l ∷ ls) a tail (value_expr h) small ends).is;
      } in
      reads-met e
      (reads-other (behind_shut level nested l sign.Comma (comma_stops level nested l) ls tail a following (ends_left (is_sign_kind sign.Comma) (is_sign_kind sign.Declare) tail names_end))
      (reads-other (behind_shut level nested l sign.Colon (colon_stops level nested l) ls tail a following (expr_shuts_colon tail ends))
      (reads-other (behind_shut level nested l sign.Declare (declare_stops level nested l) ls tail a following (ends_right (is_sign_kind sign.Comma) (is_sign_kind sign.Declare) tail names_end))
      (reads-follow following r))))

  any_value : (ls : List Lexeme) (a : Expr) (tail : List Lexeme) {s : Stmt} {rest : List Lexeme} → IsValue ls a → Meets (λ l. begins_expr Plain l.kind) ls → length ls < suc level
      → Ends after_expr tail → Ends after_names tail → Reads level nested (assign_form a) tail s rest → Reads level nested simple_form (ls ++ tail) s rest
  any_value [] a tail h starts small ends names_end r = absurd starts
  any_value (l ∷ ls) a tail h starts small ends names_end r = from_value l ls a tail h small ends names_end r (is_lower l) refl

  alone_read : (a : Expr) (rest : List Lexeme) → Ends (is_sign_kind sign.Assign) rest → Reads level nested (assign_form a) rest (tree.ExprStmt a) rest
  unfolding assign_form
  alone_read a rest shut = reads-other shut reads-give

  assign_read : (a : Expr) (gets : Lexeme) {ls : List Lexeme} {b : Expr} (rest : List Lexeme) → IsSign sign.Assign gets → IsValue ls b → length ls < level → Ends after_expr rest
      → Reads level nested (assign_form a) (gets ∷ (ls ++ rest)) (tree.Assign a b gets.pos) rest
  unfolding assign_form
  assign_read a gets {ls = ls} {b = b} rest is h small ends = reads-met (sign_met is) (reads-make (value_read ls b rest h small ends))

  by_value_read : (l gets : Lexeme) {ls : List Lexeme} {e : Expr} (rest : List Lexeme) → IsLower l → IsSign sign.Declare gets → IsValue ls e → length ls < level → Ends after_expr rest
      → Reads level nested simple_form (l ∷ gets ∷ (ls ++ rest)) (tree.Declare (name_of l ∷ []) None (Some e)) rest
  unfolding simple_form
  by_value_read l gets {ls = ls} {e = e} rest k is h small ends =
      reads-met (lower_met l k) (reads-other (other_sign sign.Comma refl is) (reads-other (other_sign sign.Colon refl is)
      (reads-met (sign_met is) (reads-make (value_read ls e rest h small ends)))))

  pub simple_read : {ls : List Lexeme} {s : Stmt} (rest : List Lexeme) → IsSimple ls s → length ls < suc level → Ends after_simple rest → Reads level nested simple_form (ls ++ rest) s rest
  simple_read rest (stmt.declare {ls = ls} {ms = ms} {rest = vs} {colon = colon} h is one given) small ends =
      let sum : length ((ls ++ colon ∷ ms) ++ vs) ≡ length (ls ++ colon ∷ ms) + length vs = length-append (ls ++ colon ∷ ms) vs in
      let front : length (ls ++ colon ∷ ms) ≡ length ls + suc (length ms) = length-append ls (colon ∷ ms) in
      reads-at level nested (append_assoc (ls ++ colon ∷ ms) vs rest ∙ append_assoc ls (colon ∷ ms) (vs ++ rest)) (declare_read colon rest h is one given (omega arith) ends)
  simple_read rest (stmt.declare_by_value {l = l} {gets = gets} k is h) small ends = by_value_read l gets rest k is h (omega arith) (simple_ends_expr rest ends)
  simple_read rest (stmt.alone {ls = ls} {e = e} h) small ends =
      any_value ls e rest h (expr_starts (value_expr h)) small (simple_ends_expr rest ends) (ends_right (is_sign_kind sign.Assign) after_names rest (simple_ends_value rest ends))
      (alone_read e rest (ends_left (is_sign_kind sign.Assign) after_names rest (simple_ends_value rest ends)))
  simple_read rest (stmt.assign {ls = ls} {ms = ms} {gets = gets} {a = a} h is k) small ends =
      let sum : length (ls ++ gets ∷ ms) ≡ length ls + suc (length ms) = length-append ls (gets ∷ ms) in
      reads-joined ls (gets ∷ ms) rest
      (any_value ls a (gets ∷ (ms ++ rest)) h (expr_starts (value_expr h)) (omega arith) (kind_ends after_expr gets (ms ++ rest) is.kind refl) (kind_ends after_names gets (ms ++ rest) is.kind refl)
      (assign_read a gets rest is k (omega arith) (simple_ends_expr rest ends)))
