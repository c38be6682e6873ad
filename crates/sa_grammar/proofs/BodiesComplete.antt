-- The forms of statements that contain others are complete, and so are those of lists of statements.
use Rattle.std.proofs.Common.{◌≡◌, ℕ, suc, ◌+◌, ◌<◌, List, [], ◌∷◌, ◌++◌, length, refl, sym, subst, append_assoc, arith, length-append, Option, unwrap_or}
use Rattle.sa_lexer.specs.declared.sign.Sign.TheVariants as sign
use Rattle.sa_lexer.specs.declared.word.Word.{Word}
use Rattle.sa_lexer.specs.declared.word.Word.TheVariants as word
use Rattle.sa_ast.specs.declared.expr.Expr.{Expr}
use Rattle.sa_ast.specs.declared.stmt.BranchArm.{BranchArm}
use Rattle.sa_ast.specs.declared.stmt.CaseArm.{CaseArm}
use Rattle.sa_ast.specs.declared.stmt.TypeArm.{TypeArm}
use Rattle.sa_ast.specs.declared.stmt.Stmt.{Stmt}
use Rattle.sa_ast.specs.declared.stmt.Stmt.TheVariants as tree
use Rattle.sa_parser_expr.specs.declared.grammar.ConditionScope.TheVariants.{Plain}
use Rattle.sa_parser_expr.specs.Lexemes.{Lexeme, IsWord, name_of}
use Rattle.sa_parser_expr.specs.Expressions.{IsExpr}
use Rattle.sa_parser_expr.specs.Enclosures.{outside, enclosure_of}
use Rattle.sa_parser_expr.specs.Readings.{Read}
use Rattle.sa_parser_expr.specs.Tests.{is_word, is_sign, is_word_kind, is_sign_kind}
use Rattle.sa_parser_expr.specs.Forms.{Form, Reader, Nested, Ast, nest, give, follow, separated, make, until_word, opens, type, expr, stmts}
use Rattle.sa_parser_expr.specs.StatementForms.{value_form, optional_value_form, name_form, simple_form, body_form, ending_form, arm_form, case_arm_form, branch_form}
use Rattle.sa_parser_expr.specs.StatementForms.{case_arms_form, branches_form, stmt_form, optional_stmt_form, stmts_form}
use Rattle.sa_parser_expr.proofs.Tested.{sign_stands, word_met, word_stands, other_word}
use Rattle.sa_parser_expr.proofs.Shifts.{Meets}
use Rattle.sa_parser.specs.Names as names
use Rattle.sa_parser.specs.Names.{IsLower}
use Rattle.sa_parser.specs.Statements as stmt
use Rattle.sa_parser.specs.Statements.{IsValue, IsLeave, IsBody, IsStmts, IsOptionalStmt, IsStmt, IsArm, IsEnding, IsElse, IsCaseArms, IsCaseArm, IsBranches, IsBranch}
use Rattle.sa_grammar.proofs.Complete.{Reads, reads-give, reads-met, reads-other, reads-first, reads-second, reads-follow, reads-make, reads-as, reads-joined, reads-kind, reads-list, reads-separated}
use Rattle.sa_grammar.proofs.ExpressionStarts.{begins_expr, meets_front, word_shut}
use Rattle.sa_grammar.proofs.ExpressionEnds.{Ends, after_expr, ends_left, ends_right, kind_ends}
use Rattle.sa_grammar.proofs.ExpressionsSound.{Spells}
use Rattle.sa_grammar.proofs.ExpressionsComplete.{EndsOf, nest_read, comma_ends}
use Rattle.sa_grammar.proofs.StatementEnds.{begins_stmt, after_value, after_simple, after_stmt, after_stmts, stmt_opens, agreed_shut, agreed_meets}
use Rattle.sa_grammar.proofs.StatementsComplete.{values_separated, arms_listed, case_arms_behind, branches_behind, StmtLists, stmt_lists}
use Rattle.sa_grammar.proofs.StatementsComplete.{simple_starts, stmt_starts, then_ends, then_ends_type, ending_ends, case_arms_end, branches_end}
use Rattle.sa_grammar.proofs.StatementsComplete.{value_read, optional_value_read, name_read, simple_read}

module _ (level : ℕ) (nested : (n : Nested) → Reader (Ast n))
    (inside : (n : Nested) (ls : List Lexeme) (t : Ast n) (rest : List Lexeme) → Spells n ls t → length ls < level → EndsOf n rest → nested n (ls ++ rest) ≡ Read t rest) where
  body_read : {w : Word} {ls : List Lexeme} {all : List Stmt} (rest : List Lexeme) → IsBody w ls all → length ls < suc level → Ends after_stmts rest
      → Reads level nested (body_form w) (ls ++ rest) all rest
  unfolding body_form
  body_read {all = all} rest (stmt.body {ls = ls} is h) small ends = reads-met (word_met is) (nest_read level nested inside stmts ls all rest h (omega arith) ends)

  -- up to a word, and the word
  pub reads-until_word : {A : Type 0} {form : Form A} {w : Word} {rest : List Lexeme} {l : Lexeme} {a : A} (ls : List Lexeme)
      → Reads level nested form (ls ++ l ∷ rest) a (l ∷ rest) → IsWord w l → Reads level nested (until_word w form) ((ls ++ l ∷ []) ++ rest) a rest
  reads-until_word {rest = rest} {l = l} ls r closes = reads-joined ls (l ∷ []) rest (reads-follow r (reads-met (word_met closes) reads-give))

  ending_read : {ls : List Lexeme} {other : Option (List Stmt)} (rest : List Lexeme) → IsEnding ls other → length ls < suc level → Reads level nested ending_form (ls ++ rest) other rest
  unfolding ending_form
  ending_read rest (stmt.ending {closing = closed} stmt.no_else closes) small = reads-until_word [] (reads-other (other_word word.Else refl closes) reads-give) closes
  ending_read rest (stmt.ending {closing = closed} (stmt.else_part {list = all} (stmt.body {w = w} {ls = ls} is h)) closes) small =
      let sum : length ((w ∷ ls) ++ closed ∷ []) ≡ suc (length ls) + 1 = length-append (w ∷ ls) (closed ∷ []) in
      reads-until_word (w ∷ ls)
      (reads-met (word_met is) (reads-make (nest_read level nested inside stmts ls all (closed ∷ rest) h (omega arith) (kind_ends after_stmts closed rest closes.kind refl))))
      closes

  arm_read : (ls : List Lexeme) (arm : BranchArm) (rest : List Lexeme) → IsArm ls arm → length ls < level → Ends after_stmts rest → Reads level nested arm_form (ls ++ rest) arm rest
  unfolding arm_form
  arm_read _ _ rest (stmt.arm {ls = ls} {ms = ms} {test = test} h k) small ends =
      let sum : length (ls ++ ms) ≡ length ls + length ms = length-append ls ms in
      reads-joined ls ms rest
      (reads-follow (value_read level nested inside ls test (ms ++ rest) h (omega arith) (then_ends after_expr refl rest k)) (reads-make (body_read rest k (omega arith) ends)))

  case_arm_read : (ls : List Lexeme) (arm : CaseArm) (rest : List Lexeme) → IsCaseArm ls arm → length ls < level → Ends after_stmts rest → Reads level nested case_arm_form (ls ++ rest) arm rest
  unfolding case_arm_form
  case_arm_read _ _ rest (stmt.case_arm {ls = ls} {ms = ms} h k) small ends =
      let sum : length (ls ++ ms) ≡ length ls + length ms = length-append ls ms in
      reads-joined ls ms rest
      (reads-follow
      (reads-list level nested (IsExpr Plain (enclosure_of outside)) (Ends after_expr) value_form (nest_read level nested inside (expr Plain outside)) comma_ends
      (ms ++ rest) (values_separated h) (omega arith) (then_ends after_expr refl rest k) (then_ends (is_sign_kind sign.Comma) refl rest k))
      (reads-make (body_read rest k (omega arith) ends)))

  branch_read : (ls : List Lexeme) (arm : TypeArm) (rest : List Lexeme) → IsBranch ls arm → length ls < level → Ends after_stmts rest → Reads level nested branch_form (ls ++ rest) arm rest
  unfolding branch_form
  branch_read _ _ rest (stmt.branch {ls = ls} {ms = ms} {t = t} h k) small ends =
      let sum : length (ls ++ ms) ≡ length ls + length ms = length-append ls ms in
      reads-joined ls ms rest
      (reads-follow (nest_read level nested inside type ls t (ms ++ rest) h (omega arith) (then_ends_type rest k)) (reads-make (body_read rest k (omega arith) ends)))

  case_arms_read : {ls ms : List Lexeme} {arms : List CaseArm} {other : Option (List Stmt)} (rest : List Lexeme) → IsCaseArms ls arms → IsEnding ms other → length ls < suc level
      → Reads level nested case_arms_form (ls ++ (ms ++ rest)) arms (ms ++ rest)
  unfolding case_arms_form
  case_arms_read rest stmt.no_case_arm k small = reads-other (ending_ends (is_word_kind word.When) refl refl rest k) reads-give
  case_arms_read {ms = ms} rest (stmt.more_case_arms is one h) k small =
      reads-met (word_met is)
      (reads-separated level nested (is_word word.When) IsCaseArm (Ends after_stmts) case_arm_form level (omega arith) case_arm_read
      (λ l tail when. kind_ends after_stmts l tail (word_stands word.When l when).kind refl) (ms ++ rest) (case_arms_behind one h) (omega arith)
      (ending_ends after_stmts refl refl rest k) (ending_ends (is_word_kind word.When) refl refl rest k))

  branches_read : {ls ms : List Lexeme} {arms : List TypeArm} {other : Option (List Stmt)} (rest : List Lexeme) → IsBranches ls arms → IsEnding ms other → length ls < suc level
      → Reads level nested branches_form (ls ++ (ms ++ rest)) arms (ms ++ rest)
  unfolding branches_form
  branches_read rest stmt.no_branch k small = reads-other (ending_ends (is_word_kind word.When) refl refl rest k) reads-give
  branches_read {ms = ms} rest (stmt.more_branches is one h) k small =
      reads-met (word_met is)
      (reads-separated level nested (is_word word.When) IsBranch (Ends after_stmts) branch_form level (omega arith) branch_read
      (λ l tail when. kind_ends after_stmts l tail (word_stands word.When l when).kind refl) (ms ++ rest) (branches_behind one h) (omega arith)
      (ending_ends after_stmts refl refl rest k) (ending_ends (is_word_kind word.When) refl refl rest k))

  -- a value, or statements, before arms and an ending
  value_at : (ls : List Lexeme) (e : Expr) (ms os rest : List Lexeme) → IsValue ls e → length ls < level → Ends after_expr (ms ++ (os ++ rest))
      → Reads level nested value_form (ls ++ ((ms ++ os) ++ rest)) e ((ms ++ os) ++ rest)
  value_at ls e ms os rest h small ends = value_read level nested inside ls e ((ms ++ os) ++ rest) h small (subst (Ends after_expr) (sym (append_assoc ms os rest)) ends)

  stmts_at : (ls : List Lexeme) (all : List Stmt) (ms os rest : List Lexeme) → IsStmts ls all → length ls < level → Ends after_stmts (ms ++ (os ++ rest))
      → Reads level nested (nest stmts) (ls ++ ((ms ++ os) ++ rest)) all ((ms ++ os) ++ rest)
  stmts_at ls all ms os rest h small ends = nest_read level nested inside stmts ls all ((ms ++ os) ++ rest) h small (subst (Ends after_stmts) (sym (append_assoc ms os rest)) ends)

  leave_read : {ls : List Lexeme} {s : Stmt} (rest : List Lexeme) → IsLeave ls s → length ls < suc level → Ends after_stmt rest → Reads level nested stmt_form (ls ++ rest) s rest
  unfolding stmt_form
  leave_read rest (stmt.return_word {w = w} is h) small ends =
      reads-kind {other = make (λ value. tree.Return value w.pos) optional_value_form} is.kind refl (reads-make (optional_value_read level nested inside rest h (omega arith) ends))
  leave_read rest (stmt.yield_word {w = w} is h) small ends =
      reads-kind {other = make (λ value. tree.Yield value w.pos) optional_value_form} is.kind refl (reads-make (optional_value_read level nested inside rest h (omega arith) ends))
  leave_read rest (stmt.quit_word {w = w} is) small ends = reads-kind {other = give (tree.Quit w.pos)} is.kind refl reads-give
  leave_read rest (stmt.raise_word {w = w} {ls = ls} {e = e} is h) small ends =
      reads-kind {other = make (λ e. tree.Raise e w.pos) value_form} is.kind refl
      (reads-make (value_read level nested inside ls e rest h (omega arith) (ends_left after_expr after_value rest (ends_left after_simple begins_stmt rest ends))))
  leave_read rest (stmt.assert_word {w = w} {ls = ls} {e = e} is h) small ends =
      reads-kind {other = make (λ e. tree.Assert e w.pos) value_form} is.kind refl
      (reads-make (value_read level nested inside ls e rest h (omega arith) (ends_left after_expr after_value rest (ends_left after_simple begins_stmt rest ends))))

  -- no word of another statement begins a simple one
  at_simple : (ls : List Lexeme) {s : Stmt} (rest : List Lexeme) → Meets (λ l. begins_expr Plain l.kind) ls → Reads level nested simple_form (ls ++ rest) s rest
      → Reads level nested stmt_form (ls ++ rest) s rest
  unfolding stmt_form
  at_simple ls rest starts r =
      reads-other (word_shut (begins_expr Plain) word.If refl ls rest starts) (reads-other (word_shut (begins_expr Plain) word.Loop refl ls rest starts)
      (reads-other (word_shut (begins_expr Plain) word.Case refl ls rest starts) (reads-other (word_shut (begins_expr Plain) word.Typecase refl ls rest starts)
      (reads-other (word_shut (begins_expr Plain) word.Protect refl ls rest starts) (reads-other (word_shut (begins_expr Plain) word.Return refl ls rest starts)
      (reads-other (word_shut (begins_expr Plain) word.Yield refl ls rest starts) (reads-other (word_shut (begins_expr Plain) word.Quit refl ls rest starts)
      (reads-other (word_shut (begins_expr Plain) word.Raise refl ls rest starts) (reads-other (word_shut (begins_expr Plain) word.Assert refl ls rest starts) r)))))))))

  pub stmt_read : {ls : List Lexeme} {s : Stmt} (rest : List Lexeme) → IsStmt ls s → length ls < suc level → Ends after_stmt rest → Reads level nested stmt_form (ls ++ rest) s rest
  unfolding stmt_form
  stmt_read rest (stmt.if_block {w = w} {ls = ls} {ms = ms} is arms k) small ends =
      let sum : length (ls ++ ms) ≡ length ls + length ms = length-append ls ms in
      reads-kind {other = follow (separated (is_word word.Elsif) arm_form) (λ arms. make (λ rest. tree.If arms (unwrap_or rest []) w.pos) ending_form)} is.kind refl
      (reads-joined ls ms rest
      (reads-follow
      (reads-separated level nested (is_word word.Elsif) IsArm (Ends after_stmts) arm_form level (omega arith) arm_read
      (λ l tail elsif. kind_ends after_stmts l tail (word_stands word.Elsif l elsif).kind refl) (ms ++ rest) (arms_listed arms) (omega arith)
      (ending_ends after_stmts refl refl rest k) (ending_ends (is_word_kind word.Elsif) refl refl rest k))
      (reads-make (ending_read rest k (omega arith)))))
  stmt_read rest (stmt.loop_block {w = w} {closing = closed} {list = all} (stmt.body {ls = ls} is h) closes) small ends =
      let sum : length (ls ++ closed ∷ []) ≡ length ls + 1 = length-append ls (closed ∷ []) in
      reads-kind {other = make (λ list. tree.Loop list w.pos) (until_word word.End (nest stmts))} is.kind refl
      (reads-make (reads-until_word ls (nest_read level nested inside stmts ls all (closed ∷ rest) h (omega arith) (kind_ends after_stmts closed rest closes.kind refl)) closes))
  stmt_read rest (stmt.case_block {w = w} {ls = ls} {e = e} is h (stmt.case_choice {ls = ms} {ms = os} arms k)) small ends =
      let sum : length (ls ++ (ms ++ os)) ≡ length ls + length (ms ++ os) = length-append ls (ms ++ os) in
      let part : length (ms ++ os) ≡ length ms + length os = length-append ms os in
      reads-kind {other = follow value_form (λ e. follow case_arms_form (λ arms. make (λ rest. tree.Case e arms rest w.pos) ending_form))} is.kind refl
      (reads-joined ls (ms ++ os) rest
      (reads-follow (value_at ls e ms os rest h (omega arith) (case_arms_end after_expr refl refl refl rest arms k))
      (reads-joined ms os rest (reads-follow (case_arms_read rest arms k (omega arith)) (reads-make (ending_read rest k (omega arith)))))))
  stmt_read rest (stmt.typecase_block {w = w} {l = l} is lower (stmt.type_choice {ls = ms} {ms = os} branches k)) small ends =
      let part : length (ms ++ os) ≡ length ms + length os = length-append ms os in
      reads-kind {other = follow name_form (λ name. follow branches_form (λ branches. make (λ rest. tree.TypeCase name branches rest w.pos) ending_form))} is.kind refl
      (reads-follow (name_read level nested inside (l ∷ []) (name_of l) ((ms ++ os) ++ rest) (names.one_name lower) (omega arith) tt)
      (reads-joined ms os rest (reads-follow (branches_read rest branches k (omega arith)) (reads-make (ending_read rest k (omega arith))))))
  stmt_read rest (stmt.protect_block {w = w} {list = all} (stmt.body {ls = ls} is h) (stmt.type_choice {ls = ms} {ms = os} branches k)) small ends =
      let sum : length (ls ++ (ms ++ os)) ≡ length ls + length (ms ++ os) = length-append ls (ms ++ os) in
      let part : length (ms ++ os) ≡ length ms + length os = length-append ms os in
      reads-kind {other = follow (nest stmts) (λ list. follow branches_form (λ branches. make (λ rest. tree.Protect list branches rest w.pos) ending_form))} is.kind refl
      (reads-joined ls (ms ++ os) rest
      (reads-follow (stmts_at ls all ms os rest h (omega arith) (branches_end after_stmts refl refl refl rest branches k))
      (reads-joined ms os rest (reads-follow (branches_read rest branches k (omega arith)) (reads-make (ending_read rest k (omega arith)))))))
  stmt_read rest (stmt.leave h) small ends = leave_read rest h small ends
  stmt_read rest (stmt.simple {ls = ls} h) small ends = at_simple ls rest (simple_starts h) (simple_read level nested inside rest h small (ends_left after_simple begins_stmt rest ends))

  optional_stmt_read : (ls : List Lexeme) (all : List Stmt) (rest : List Lexeme) → IsOptionalStmt ls all → length ls < suc level → Ends after_stmt rest
      → Reads level nested optional_stmt_form (ls ++ rest) all rest
  unfolding optional_stmt_form
  optional_stmt_read _ _ rest stmt.no_stmt small ends =
      reads-second (agreed_shut (opens stmt_form) (λ l. begins_stmt l.kind) stmt_opens rest (ends_right after_simple begins_stmt rest ends)) reads-give
  optional_stmt_read ls _ rest (stmt.one_stmt h) small ends =
      reads-first (agreed_meets (opens stmt_form) (λ l. begins_stmt l.kind) stmt_opens (ls ++ rest) (meets_front (λ l. begins_stmt l.kind) ls rest (stmt_starts h)))
      (reads-make (stmt_read rest h small ends))

  lists_read : {ls : List Lexeme} {all : List Stmt} (rest : List Lexeme) → StmtLists ls all → length ls < suc level → Ends after_stmts rest
      → Reads level nested stmts_form (ls ++ rest) all rest
  unfolding stmts_form
  lists_read rest h small ends =
      reads-as h.whole
      (reads-make
      (reads-separated level nested (is_sign sign.Semicolon) IsOptionalStmt (Ends after_stmt) optional_stmt_form (suc level) (omega arith) optional_stmt_read
      (λ l tail is. kind_ends after_stmt l tail (sign_stands sign.Semicolon l is).kind refl) rest h.parts small
      (ends_left after_stmt (is_sign_kind sign.Semicolon) rest ends) (ends_right after_stmt (is_sign_kind sign.Semicolon) rest ends)))

  pub stmts_read : {ls : List Lexeme} {all : List Stmt} (rest : List Lexeme) → IsStmts ls all → length ls < suc level → Ends after_stmts rest → Reads level nested stmts_form (ls ++ rest) all rest
  stmts_read rest h small ends = lists_read rest (stmt_lists h) small ends
