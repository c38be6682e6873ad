-- The forms of statements are sound.
use Rattle.std.proofs.Common.{ℕ, true, List, [], ◌∷◌, ◌++◌, refl, ap, subst, ◌∙◌, append_assoc, append-nil, Option, Some, None}
use Rattle.sa_lexer.specs.declared.token.TokenKind.TheVariants as token
use Rattle.sa_lexer.specs.declared.sign.Sign.TheVariants as sign
use Rattle.sa_lexer.specs.declared.word.Word.{Word}
use Rattle.sa_lexer.specs.declared.word.Word.TheVariants as word
use Rattle.sa_ast.specs.declared.ty.Ty.{Ty}
use Rattle.sa_ast.specs.declared.ty.Ty.TheVariants as ty
use Rattle.sa_ast.specs.declared.expr.Expr.{Expr}
use Rattle.sa_ast.specs.declared.expr.Expr.TheVariants as exprtree
use Rattle.sa_ast.specs.declared.stmt.Local.{Local}
use Rattle.sa_ast.specs.declared.stmt.BranchArm.{BranchArm}
use Rattle.sa_ast.specs.declared.stmt.CaseArm.{CaseArm}
use Rattle.sa_ast.specs.declared.stmt.TypeArm.{TypeArm}
use Rattle.sa_ast.specs.declared.stmt.Stmt.{Stmt}
use Rattle.sa_ast.specs.declared.stmt.Stmt.TheVariants as tree
use Rattle.sa_parser_expr.specs.declared.grammar.ConditionScope.TheVariants.{Plain}
use Rattle.sa_parser_expr.specs.Lexemes.{Lexeme, IsWord, IsSign, name_of}
use Rattle.sa_parser_expr.specs.Types as types
use Rattle.sa_parser_expr.specs.Types.{IsType}
use Rattle.sa_parser_expr.specs.Expressions as exprs
use Rattle.sa_parser_expr.specs.Expressions.{IsExpr}
use Rattle.sa_parser_expr.specs.Enclosures.{outside, enclosure_of}
use Rattle.sa_parser_expr.specs.Tests.{is_word, is_sign}
use Rattle.sa_parser_expr.specs.Forms.{Reader, Nested, Ast, make, run, type, expr, stmts}
use Rattle.sa_parser_expr.specs.ExpressionForms.{expr_form}
use Rattle.sa_parser_expr.specs.StatementForms.{value_form, assigned_form, optional_value_form, name_form, typed_form, assign_form, after_name_form, simple_form}
use Rattle.sa_parser_expr.specs.StatementForms.{body_form, ending_form, arm_form, case_arm_form, branch_form, case_arms_form, branches_form, stmt_form, optional_stmt_form, joined, stmts_form}
use Rattle.sa_parser_expr.proofs.BehindNames.{same_behind}
use Rattle.sa_parser_expr.proofs.Tested.{sign_stands, word_stands, lower_stands, lexeme, a_sign, a_word}
use Rattle.sa_parser_expr.proofs.Shorter.{opened}
use Rattle.sa_parser.specs.Names as names
use Rattle.sa_parser.specs.Names.{IsLower, IsName, IsMoreNames, IsNames}
use Rattle.sa_parser.specs.Statements as stmt
use Rattle.sa_parser.specs.Statements.{IsValue, IsValues, IsAssigned, IsOptionalExpr, IsSimple, IsBody, IsStmts, IsOptionalStmt, IsStmt, IsArms, IsArm, IsEnding, IsElse, IsCaseArms, IsCaseArm, IsBranches, IsBranch}
use Rattle.sa_grammar.proofs.Sound.{After, Sound, sound_shorter, sound-behind_lexeme, Separated, Listed, last, more}
use Rattle.sa_grammar.proofs.Sound.{IsSound, sound-give, sound-refuse, sound-shift, sound-either, sound-follow, sound-separated, sound-list, sound-make, sound-until_word, sound-up}
use Rattle.sa_grammar.proofs.ExpressionStarts.{begins_expr, origin, true_lexeme, an_expr}
use Rattle.sa_grammar.proofs.ExpressionsSound.{Spells, nested_sound, sound_expr}
use Rattle.sa_grammar.proofs.StatementEnds.{expr_opens}

-- ---- names, values and lists

pub names_behind : {ls : List Lexeme} {others : List Local} (comma : Lexeme) → IsSign sign.Comma comma → Listed (IsName IsLower) ls others → IsMoreNames (comma ∷ ls) others
names_behind comma is (last (names.one_name k)) = names.more_names is k names.no_more_names
names_behind comma is (more {l = l} (names.one_name k) parting rest) = names.more_names is k (names_behind l (sign_stands sign.Comma l parting) rest)

pub value_of_expr : (ls : List Lexeme) (e : Expr) → IsExpr Plain (enclosure_of outside) ls e → IsValue ls e
value_of_expr ls e h = exprs.in_value h

pub a_value : IsValue (true_lexeme ∷ []) (exprtree.Bool true origin)
a_value = exprs.in_value (an_expr Plain (enclosure_of outside))

values_listed : {ls : List Lexeme} {es : List Expr} → Listed (IsExpr Plain (enclosure_of outside)) ls es → IsValues ls es
values_listed (last one) = stmt.last_value (exprs.in_value one)
values_listed (more {l = l} one comma rest) = stmt.more_values (exprs.in_value one) (sign_stands sign.Comma l comma) (values_listed rest)

arms_separated : {ls : List Lexeme} {arms : List BranchArm} → Separated (is_word word.Elsif) IsArm ls arms → IsArms ls arms
arms_separated (last one) = stmt.last_arm one
arms_separated (more {l = l} one parting rest) = stmt.more_arms one (word_stands word.Elsif l parting) (arms_separated rest)

case_arms_separated : {ls : List Lexeme} {arms : List CaseArm} (w : Lexeme) → IsWord word.When w → Separated (is_word word.When) IsCaseArm ls arms → IsCaseArms (w ∷ ls) arms
case_arms_separated w is (last {ls = ls} {a = a} one) = subst (λ xs. IsCaseArms (w ∷ xs) (a ∷ [])) (append-nil ls) (stmt.more_case_arms is one stmt.no_case_arm)
case_arms_separated w is (more {l = l} one parting rest) = stmt.more_case_arms is one (case_arms_separated l (word_stands word.When l parting) rest)

branches_separated : {ls : List Lexeme} {arms : List TypeArm} (w : Lexeme) → IsWord word.When w → Separated (is_word word.When) IsBranch ls arms → IsBranches (w ∷ ls) arms
branches_separated w is (last {ls = ls} {a = a} one) = subst (λ xs. IsBranches (w ∷ xs) (a ∷ [])) (append-nil ls) (stmt.more_branches is one stmt.no_branch)
branches_separated w is (more {l = l} one parting rest) = stmt.more_branches is one (branches_separated l (word_stands word.When l parting) rest)

stmts_separated : (ls : List Lexeme) (lists : List (List Stmt)) → Separated (is_sign sign.Semicolon) IsOptionalStmt ls lists → IsStmts ls (joined lists)
stmts_separated ls _ (last one) = rw append-nil (stmt.last_stmt one)
stmts_separated _ _ (more {ms = ms} {l = l} {others = others} one parting rest) = stmt.more_stmts one (sign_stands sign.Semicolon l parting) (stmts_separated ms others rest)

declared : {ls ms rest : List Lexeme} {colon : Lexeme} {all : List Local} {t : Ty} {value : Option Expr} → IsNames ls all → IsSign sign.Colon colon → IsType ms t → IsAssigned rest value
    → IsSimple (ls ++ colon ∷ (ms ++ rest)) (tree.Declare all (Some t) value)
declared {ls = ls} {ms = ms} {rest = rest} {colon = colon} {all = all} {t = t} {value = value} h is one k =
    subst (λ xs. IsSimple xs (tree.Declare all (Some t) value)) (append_assoc ls (colon ∷ ms) rest) (stmt.declare h is one k)

-- after the parts of statements that choose, the lexemes in one list
after_case : (w : Lexeme) (ls ms rest : List Lexeme) (e : Expr) (arms : List CaseArm) (other : Option (List Stmt)) → IsWord word.Case w → IsValue ls e → IsCaseArms ms arms → IsEnding rest other
    → IsStmt (w ∷ (ls ++ (ms ++ rest))) (tree.Case e arms other w.pos)
after_case w ls ms rest e arms other is h k j = stmt.case_block is h (stmt.case_choice k j)

after_typecase : (w : Lexeme) (ls ms rest : List Lexeme) (name : Local) (branches : List TypeArm) (other : Option (List Stmt)) → IsWord word.Typecase w → IsName IsLower ls name
    → IsBranches ms branches → IsEnding rest other → IsStmt (w ∷ (ls ++ (ms ++ rest))) (tree.TypeCase name branches other w.pos)
after_typecase w _ ms rest _ branches other is (names.one_name h) k j = stmt.typecase_block is h (stmt.type_choice k j)

after_protect : (w : Lexeme) (ls ms rest : List Lexeme) (list : List Stmt) (branches : List TypeArm) (other : Option (List Stmt)) → IsBody word.Protect (w ∷ ls) list
    → IsBranches ms branches → IsEnding rest other → IsStmt (w ∷ (ls ++ (ms ++ rest))) (tree.Protect list branches other w.pos)
after_protect w ls ms rest list branches other h k j = stmt.protect_block h (stmt.type_choice k j)

-- ---- what completes them

pub no_stmts : IsStmts [] []
no_stmts = stmt.last_stmt stmt.no_stmt

an_ending : IsEnding (lexeme (token.Word word.End) ∷ []) None
an_ending = stmt.ending stmt.no_else (a_word word.End)

module _ (level : ℕ) (nested : (n : Nested) → Reader (Ast n)) (inside : (n : Nested) → Sound (Spells n) (nested n)) where
  pub sound_value : IsSound level nested IsValue value_form
  sound_value = sound-up (nested_sound level nested inside (expr Plain outside)) value_of_expr

  pub sound_assigned : IsSound level nested IsAssigned assigned_form
  unfolding assigned_form
  sound_assigned = sound-shift (λ gets is. sound-make sound_value (λ ls e h. stmt.assigned (sign_stands sign.Assign gets is) h)) (sound-give stmt.not_assigned)

  sound_optional_value : IsSound level nested IsOptionalExpr optional_value_form
  unfolding optional_value_form
  sound_optional_value =
      sound-either (sound-make (sound_expr level nested inside Plain outside) (λ ls e h. stmt.of_expr (value_of_expr ls e h))) (sound-give stmt.no_expr)
      (λ l ls h. opened level nested (λ n ms. sound_shorter (Spells n) (nested n) (inside n) ms) (make Some (expr_form Plain outside)) l ls h)

  pub sound_name : IsSound level nested (IsName IsLower) name_form
  unfolding name_form
  sound_name =
      sound-shift (λ l is. sound-give (names.one_name (lower_stands l is)))
      (sound-refuse (record { more = lexeme token.Lower ∷ []; tree = name_of (lexeme token.Lower); spelled = names.one_name refl }))

  sound_typed : (ls : List Lexeme) (all : List Local) → IsNames ls all → (colon : Lexeme) → IsSign sign.Colon colon
      → IsSound level nested (After (colon ∷ []) (After ls IsSimple)) (typed_form all)
  unfolding typed_form
  sound_typed ls all h colon is =
      sound-follow (nested_sound level nested inside type) (λ ms t one. sound-make sound_assigned (λ rest value k. declared h is one k))

  sound_assign : (ls : List Lexeme) (a : Expr) → IsValue ls a → IsSound level nested (After ls IsSimple) (assign_form a)
  unfolding assign_form
  sound_assign ls a h =
      sound-shift (λ gets is. sound-make sound_value (λ ms b k. stmt.assign h (sign_stands sign.Assign gets is) k)) (sound-give (rw append-nil (stmt.alone h)))

  sound_behind : (l : Lexeme) → IsLower l → IsSound level nested (After (l ∷ []) (IsExpr Plain (enclosure_of outside))) (after_name_form l)
  sound_behind l is = record {
    reader = sound-behind_lexeme (IsExpr Plain (enclosure_of outside)) (run level nested (expr_form Plain outside)) (run level nested (after_name_form l)) l (same_behind level nested l is)
        (sound_expr level nested inside Plain outside).reader
        (λ ls. opened level nested (λ n ms. sound_shorter (Spells n) (nested n) (inside n) ms) (expr_form Plain outside) l ls (expr_opens l ∙ ap (begins_expr Plain) is));
  }

  sound_simple : IsSound level nested IsSimple simple_form
  unfolding simple_form
  sound_simple =
      sound-shift (λ l is.
      sound-shift (λ comma k.
      sound-follow (sound-list sound_name (λ ms others h. h)) (λ ms others h.
      sound-shift (λ colon j. sound_typed (l ∷ comma ∷ ms) (name_of l ∷ others) (names.all_names (lower_stands l is) (names_behind comma (sign_stands sign.Comma comma k) h)) colon (sign_stands sign.Colon colon j))
      (sound-refuse (record {
        more = lexeme (token.Sign sign.Colon) ∷ lexeme (token.Word word.Same) ∷ [];
        tree = tree.Declare (name_of l ∷ others) (Some (ty.Same origin)) None;
        spelled = declared (names.all_names (lower_stands l is) (names_behind comma (sign_stands sign.Comma comma k) h)) (a_sign sign.Colon) (types.same (a_word word.Same)) stmt.not_assigned;
      }))))
      (sound-shift (λ colon k. sound_typed (l ∷ []) (name_of l ∷ []) (names.all_names (lower_stands l is) names.no_more_names) colon (sign_stands sign.Colon colon k))
      (sound-shift (λ gets k. sound-make sound_value (λ ls e h. stmt.declare_by_value (lower_stands l is) (sign_stands sign.Declare gets k) h))
      (sound-follow (sound_behind l (lower_stands l is)) (λ ls a h. sound_assign (l ∷ ls) a (exprs.in_value h))))))
      (sound-follow (sound_expr level nested inside Plain outside) (λ ls a h. sound_assign ls a (exprs.in_value h)))

  -- ---- statements

  sound_body : (w : Word) → IsSound level nested (IsBody w) (body_form w)
  unfolding body_form
  sound_body w =
      sound-shift (λ l is. sound-up (nested_sound level nested inside stmts) (λ ls list h. stmt.body (word_stands w l is) h))
      (sound-refuse (record { more = lexeme (token.Word w) ∷ []; tree = []; spelled = stmt.body (a_word w) no_stmts }))

  sound_ending : IsSound level nested IsEnding ending_form
  unfolding ending_form
  sound_ending =
      sound-until_word
      (sound-shift {R = IsElse} (λ l is. sound-make (nested_sound level nested inside stmts) (λ ls list h. stmt.else_part (stmt.body (word_stands word.Else l is) h))) (sound-give stmt.no_else))
      (λ ls rest closed h closes. stmt.ending h closes)

  sound_arm : IsSound level nested IsArm arm_form
  unfolding arm_form
  sound_arm = sound-follow sound_value (λ ls test h. sound-make (sound_body word.Then) (λ ms list k. stmt.arm h k))

  sound_case_arm : IsSound level nested IsCaseArm case_arm_form
  unfolding case_arm_form
  sound_case_arm =
      sound-follow (sound-list (nested_sound level nested inside (expr Plain outside)) (λ ls values h. values_listed h)) (λ ls values h.
      sound-make (sound_body word.Then) (λ ms list k. stmt.case_arm h k))

  sound_branch : IsSound level nested IsBranch branch_form
  unfolding branch_form
  sound_branch = sound-follow (nested_sound level nested inside type) (λ ls t h. sound-make (sound_body word.Then) (λ ms list k. stmt.branch h k))

  sound_case_arms : IsSound level nested IsCaseArms case_arms_form
  unfolding case_arms_form
  sound_case_arms = sound-shift (λ w is. sound-separated sound_case_arm (λ ls arms h. case_arms_separated w (word_stands word.When w is) h)) (sound-give stmt.no_case_arm)

  sound_branches : IsSound level nested IsBranches branches_form
  unfolding branches_form
  sound_branches = sound-shift (λ w is. sound-separated sound_branch (λ ls arms h. branches_separated w (word_stands word.When w is) h)) (sound-give stmt.no_branch)

  pub sound_stmt : IsSound level nested IsStmt stmt_form
  unfolding stmt_form
  sound_stmt =
      sound-shift (λ w is.
      sound-follow (sound-separated sound_arm (λ ls arms h. arms_separated h)) (λ ls arms h.
      sound-make sound_ending (λ ms rest k. stmt.if_block (word_stands word.If w is) h k)))
      (sound-shift (λ w is.
      sound-make {P = λ ls list. IsStmt (w ∷ ls) (tree.Loop list w.pos)}
      (sound-until_word (nested_sound level nested inside stmts) (λ ls list closed h closes. stmt.loop_block (stmt.body (word_stands word.Loop w is) h) closes))
      (λ ls list h. h))
      (sound-shift (λ w is.
      sound-follow sound_value (λ ls e h. sound-follow sound_case_arms (λ ms arms k. sound-make sound_ending (λ rest other j.
      after_case w ls ms rest e arms other (word_stands word.Case w is) h k j))))
      (sound-shift (λ w is.
      sound-follow sound_name (λ ls name h. sound-follow sound_branches (λ ms branches k. sound-make sound_ending (λ rest other j.
      after_typecase w ls ms rest name branches other (word_stands word.Typecase w is) h k j))))
      (sound-shift (λ w is.
      sound-follow (nested_sound level nested inside stmts) (λ ls list h. sound-follow sound_branches (λ ms branches k. sound-make sound_ending (λ rest other j.
      after_protect w ls ms rest list branches other (stmt.body (word_stands word.Protect w is) h) k j))))
      (sound-shift (λ w is. sound-make sound_optional_value (λ ls value h. stmt.leave (stmt.return_word (word_stands word.Return w is) h)))
      (sound-shift (λ w is. sound-make sound_optional_value (λ ls value h. stmt.leave (stmt.yield_word (word_stands word.Yield w is) h)))
      (sound-shift (λ w is. sound-give (stmt.leave (stmt.quit_word (word_stands word.Quit w is))))
      (sound-shift (λ w is. sound-make sound_value (λ ls e h. stmt.leave (stmt.raise_word (word_stands word.Raise w is) h)))
      (sound-shift (λ w is. sound-make sound_value (λ ls e h. stmt.leave (stmt.assert_word (word_stands word.Assert w is) h)))
      (sound-up sound_simple (λ ls s h. stmt.simple h)))))))))))

  sound_optional_stmt : IsSound level nested IsOptionalStmt optional_stmt_form
  unfolding optional_stmt_form
  sound_optional_stmt =
      sound-either (sound-make sound_stmt (λ ls s h. stmt.one_stmt h)) (sound-give stmt.no_stmt)
      (λ l ls h. opened level nested (λ n ms. sound_shorter (Spells n) (nested n) (inside n) ms) (make (λ s. s ∷ []) stmt_form) l ls h)

  pub sound_stmts : IsSound level nested IsStmts stmts_form
  unfolding stmts_form
  sound_stmts = sound-make (sound-separated sound_optional_stmt (λ ls lists h. h)) stmts_separated
