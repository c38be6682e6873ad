-- Names and statements, as they are read: a lemma for each case of their productions.
use Rattle.std.proofs.Common.{◌≡◌, ℕ, ◌+◌, ◌<◌, ◌≤◌, List, [], ◌∷◌, ◌++◌, Option, Some, None, unwrap_or, Result, Ok, Err, IfOk, ◌⊎◌, inl, inr, refl, subst, append_assoc, arith}
use Rattle.std.proofs.lemmas.List.{append-nil}
use Rattle.sa_lexer.specs.declared.token.TokenKind.{TokenKind}
use Rattle.sa_lexer.specs.declared.token.TokenKind.TheVariants as token
use Rattle.sa_lexer.specs.declared.sign.Sign.TheVariants as sign
use Rattle.sa_lexer.specs.declared.word.Word.{Word}
use Rattle.sa_lexer.specs.declared.word.Word.TheVariants as word
use Rattle.sa_ast.specs.declared.pos.Pos.{Pos}
use Rattle.sa_ast.specs.declared.refusal.Rejection.{Rejection}
use Rattle.sa_ast.specs.declared.ty.Ty.{Ty}
use Rattle.sa_ast.specs.declared.expr.Expr.{Expr}
use Rattle.sa_ast.specs.declared.stmt.Local.{Local}
use Rattle.sa_ast.specs.declared.stmt.BranchArm.{BranchArm}
use Rattle.sa_ast.specs.declared.stmt.CaseArm.{CaseArm}
use Rattle.sa_ast.specs.declared.stmt.TypeArm.{TypeArm}
use Rattle.sa_ast.specs.declared.stmt.Stmt.{Stmt}
use Rattle.sa_ast.specs.declared.stmt.Stmt.TheVariants as tree
use Rattle.sa_parser_expr.specs.declared.tokens.Tokens.{Tokens}
use Rattle.sa_parser_expr.specs.Lexemes.{Lexeme, IsWord, IsSign, IsFeature, lower_name, iter_name, IsLexemeAt, lexeme_at, between, name_of}
use Rattle.sa_parser_expr.specs.Positions.{IsFrom, kind_at}
use Rattle.sa_parser_expr.specs.Types.{IsType}
use Rattle.sa_parser_expr.proofs.Stretches.{pos_at, none, join, front, alone, front_join, parted, ended, enclosed}
use Rattle.sa_parser.specs.declared.blocks.CaseChoice.{CaseChoice}
use Rattle.sa_parser.specs.declared.blocks.TypeChoice.{TypeChoice}
use Rattle.sa_parser.specs.Names as names
use Rattle.sa_parser.specs.Names.{IsLower, IsName, IsMoreNames, IsNames, name_at}
use Rattle.sa_parser.specs.Statements as stmts
use Rattle.sa_parser.specs.Statements.{IsValue, IsValues, IsAssigned, IsOptionalExpr, IsSimple, IsLeave, IsBody, IsStmts, IsOptionalStmt, IsStmt, IsArms, IsArm, IsEnding, IsElse, IsCaseChoice, IsCaseArms, IsCaseArm, IsTypeChoice, IsBranches, IsBranch}

-- ---- one more of a list, after those before

IsMoreNames-more : {ls : List Lexeme} {comma : Lexeme} (l : Lexeme) {ns : List Local} → IsMoreNames ls ns → IsSign sign.Comma comma → IsLower l → IsMoreNames (ls ++ comma ∷ l ∷ []) (ns ++ name_of l ∷ [])
IsMoreNames-more l names.no_more_names comma is = names.more_names comma is names.no_more_names
IsMoreNames-more l (names.more_names parting first rest) comma is = names.more_names parting first (IsMoreNames-more l rest comma is)

IsNames-more : {ls ms : List Lexeme} {comma : Lexeme} {ns : List Local} {one : Local} → IsNames ls ns → IsSign sign.Comma comma → IsName IsLower ms one → IsNames (ls ++ comma ∷ ms) (ns ++ one ∷ [])
IsNames-more (names.all_names first rest) comma (names.one_name {l = l} is) = names.all_names first (IsMoreNames-more l rest comma is)

-- the first name of some
pub IsNames-one : {ls : List Lexeme} {one : Local} → IsName IsLower ls one → IsNames ls (one ∷ [])
IsNames-one (names.one_name is) = names.all_names is names.no_more_names

IsValues-more : {ls ms : List Lexeme} {comma : Lexeme} {es : List Expr} {e : Expr} → IsValues ls es → IsSign sign.Comma comma → IsValue ms e → IsValues (ls ++ comma ∷ ms) (es ++ e ∷ [])
IsValues-more (stmts.last_value first) comma more = stmts.more_values first comma (stmts.last_value more)
IsValues-more {ms = ms} {comma = c} (stmts.more_values {ls = before} {ms = following} {comma = d} first parting rest) comma more =
    rw (append_assoc before (d ∷ following) (c ∷ ms)) (stmts.more_values first parting (IsValues-more rest comma more))

IsStmts-more : {ls ms : List Lexeme} {semicolon : Lexeme} {list one : List Stmt} → IsStmts ls list → IsSign sign.Semicolon semicolon → IsOptionalStmt ms one → IsStmts (ls ++ semicolon ∷ ms) (list ++ one)
IsStmts-more (stmts.last_stmt first) semicolon more = stmts.more_stmts first semicolon (stmts.last_stmt more)
IsStmts-more {ms = ms} {semicolon = c} {one = one} (stmts.more_stmts {ls = before} {ms = following} {semicolon = d} {first = s} {others = others} first parting rest) semicolon more =
    rw (append_assoc before (d ∷ following) (c ∷ ms), append_assoc s others one) (stmts.more_stmts first parting (IsStmts-more rest semicolon more))

IsArms-more : {ls ms : List Lexeme} {w : Lexeme} {arms : List BranchArm} {arm : BranchArm} → IsArms ls arms → IsWord word.Elsif w → IsArm ms arm → IsArms (ls ++ w ∷ ms) (arms ++ arm ∷ [])
IsArms-more (stmts.last_arm first) elsif more = stmts.more_arms first elsif (stmts.last_arm more)
IsArms-more {ms = ms} {w = c} (stmts.more_arms {ls = before} {ms = following} {w = d} first parting rest) elsif more =
    rw (append_assoc before (d ∷ following) (c ∷ ms)) (stmts.more_arms first parting (IsArms-more rest elsif more))

IsCaseArms-more : {ls ms : List Lexeme} {w : Lexeme} {arms : List CaseArm} {arm : CaseArm} → IsCaseArms ls arms → IsWord word.When w → IsCaseArm ms arm → IsCaseArms (ls ++ w ∷ ms) (arms ++ arm ∷ [])
IsCaseArms-more {ms = ms} {w = c} {arm = arm} stmts.no_case_arm when more =
    subst (λ (ls : List Lexeme). IsCaseArms (c ∷ ls) (arm ∷ [])) (append-nil ms) (stmts.more_case_arms when more stmts.no_case_arm)
IsCaseArms-more {ms = ms} {w = c} (stmts.more_case_arms {ls = before} {ms = following} first one rest) when more =
    rw (append_assoc before following (c ∷ ms)) (stmts.more_case_arms first one (IsCaseArms-more rest when more))

IsBranches-more : {ls ms : List Lexeme} {w : Lexeme} {arms : List TypeArm} {arm : TypeArm} → IsBranches ls arms → IsWord word.When w → IsBranch ms arm → IsBranches (ls ++ w ∷ ms) (arms ++ arm ∷ [])
IsBranches-more {ms = ms} {w = c} {arm = arm} stmts.no_branch when more =
    subst (λ (ls : List Lexeme). IsBranches (c ∷ ls) (arm ∷ [])) (append-nil ms) (stmts.more_branches when more stmts.no_branch)
IsBranches-more {ms = ms} {w = c} (stmts.more_branches {ls = before} {ms = following} first one rest) when more =
    rw (append_assoc before following (c ∷ ms)) (stmts.more_branches first one (IsBranches-more rest when more))

-- ---- a name at the beginning, as the lexemes that it is

IsName-one : {P : Lexeme → Type 0} {l : Lexeme} {one : Local} → IsName P (l ∷ []) one → P l × (one ≡ name_of l)
IsName-one (names.one_name is) = (is, refl)

IsSimple-by_value : {ns ls : List Lexeme} {gets : Lexeme} {one : Local} {e : Expr} → IsName IsLower ns one → IsSign sign.Declare gets → IsValue ls e → IsSimple (ns ++ gets ∷ ls) (tree.Declare (one ∷ []) None (Some e))
IsSimple-by_value (names.one_name is) gets value = stmts.declare_by_value is gets value

IsStmt-typecase : {w : Lexeme} {ns ls : List Lexeme} {one : Local} {choice : TypeChoice} → IsWord word.Typecase w → IsName IsLower ns one → IsTypeChoice ls choice → IsStmt (w ∷ (ns ++ ls)) (tree.TypeCase one choice.branches choice.rest w.pos)
IsStmt-typecase w (names.one_name is) choice = stmts.typecase_block w is choice

module _ (t : Tokens) where
  -- ---- names

  -- a token of a kind, as a name
  pub named : (P : Lexeme → Type 0) (from : ℕ) (one : Local) → IsLexemeAt P t from → one ≡ name_at t from → IsName P (between t from (from + 1)) one
  named P from one s same = rw (alone t from s.kind s.there, same) (names.one_name s.is)

  pub feature_stands : (place : ℕ) → (kind_at t.list.now place ≡ Some token.Lower) ⊎ (kind_at t.list.now place ≡ Some token.IterName) → IsLexemeAt IsFeature t place
  feature_stands place (inl there) = record { kind = token.Lower; there = there; is = lower_name refl }
  feature_stands place (inr there) = record { kind = token.IterName; there = there; is = iter_name refl }

  -- what a name is, where its token is known
  pub name_there : (P : Lexeme → Type 0) (from : ℕ) (kind : TokenKind) (one : Local) → kind_at t.list.now from ≡ Some kind
      → IsName P (between t from (from + 1)) one → P (lexeme_at t from kind) × (one ≡ name_at t from)
  name_there P from kind one there is = IsName-one (subst (λ (ls : List Lexeme). IsName P ls one) (alone t from kind there) is)

  pub more_names : (from mid next : ℕ) (ns all : List Local) (one : Local)
      → kind_at t.list.now mid ≡ Some (token.Sign sign.Comma) → IsNames (between t from mid) ns → IsName IsLower (between t (mid + 1) next) one
      → from ≤ mid → mid < next → all ≡ ns ++ one ∷ [] → IsNames (between t from next) all
  more_names from mid next ns all one comma first second before following pushed =
      rw (parted t from mid next (token.Sign sign.Comma) comma before following, pushed) (IsNames-more first (record { kind = refl }) second)

  -- the same names where they are passed on
  pub all_names : (from next : ℕ) (ns all : List Local) → IsNames (between t from next) ns → all ≡ ns → IsNames (between t from next) all
  all_names from next ns all is same = rw same is

  -- ---- statements that contain no others

  pub declare : (from mid third next : ℕ) (ns all : List Local) (one : Ty) (value : Option Expr)
      → IsNames (between t from mid) ns → kind_at t.list.now mid ≡ Some (token.Sign sign.Colon) → IsType (between t (mid + 1) third) one
      → IsAssigned (between t third next) value → from ≤ mid → mid < third → third ≤ next → all ≡ ns
      → IsSimple (between t from next) (tree.Declare all (Some one) value)
  declare from mid third next ns all one value first colon second last before between_them following same =
      rw (join t from third next (omega (arith, before, between_them)) following, parted t from mid third (token.Sign sign.Colon) colon before between_them, same)
      (stmts.declare first (record { kind = refl }) second last)

  pub declare_by_value : (from mid next : ℕ) (one : Local) (all : List Local) (e : Expr)
      → IsName IsLower (between t from mid) one → kind_at t.list.now mid ≡ Some (token.Sign sign.Declare) → IsValue (between t (mid + 1) next) e
      → from ≤ mid → mid < next → all ≡ one ∷ [] → IsSimple (between t from next) (tree.Declare all None (Some e))
  declare_by_value from mid next one all e first gets second before following same =
      rw (parted t from mid next (token.Sign sign.Declare) gets before following, same) (IsSimple-by_value first (record { kind = refl }) second)

  pub not_assigned : (place : ℕ) → IsAssigned (between t place place) None
  not_assigned place = rw (none t place) stmts.not_assigned

  pub assigned : (from next : ℕ) (e : Expr) → kind_at t.list.now from ≡ Some (token.Sign sign.Assign) → IsValue (between t (from + 1) next) e
      → from < next → IsAssigned (between t from next) (Some e)
  assigned from next e gets value before = rw (front t from next (token.Sign sign.Assign) gets before) (stmts.assigned (record { kind = refl }) value)

  pub assign : (from mid next : ℕ) (a b : Expr) (pos : Pos)
      → IsValue (between t from mid) a → kind_at t.list.now mid ≡ Some (token.Sign sign.Assign) → IsValue (between t (mid + 1) next) b
      → from ≤ mid → mid < next → pos ≡ pos_at t mid → IsSimple (between t from next) (tree.Assign a b pos)
  assign from mid next a b pos first gets second before following occurs =
      rw (parted t from mid next (token.Sign sign.Assign) gets before following, occurs) (stmts.assign first (record { kind = refl }) second)

  pub no_expr : (place : ℕ) → IsOptionalExpr (between t place place) None
  no_expr place = rw (none t place) stmts.no_expr

  pub return_word : (from next : ℕ) (value : Option Expr) (pos : Pos)
      → kind_at t.list.now from ≡ Some (token.Word word.Return) → IsOptionalExpr (between t (from + 1) next) value
      → from < next → pos ≡ pos_at t from → IsLeave (between t from next) (tree.Return value pos)
  return_word from next value pos there inside before occurs =
      rw (front t from next (token.Word word.Return) there before, occurs) (stmts.return_word (record { kind = refl }) inside)

  pub yield_word : (from next : ℕ) (value : Option Expr) (pos : Pos)
      → kind_at t.list.now from ≡ Some (token.Word word.Yield) → IsOptionalExpr (between t (from + 1) next) value
      → from < next → pos ≡ pos_at t from → IsLeave (between t from next) (tree.Yield value pos)
  yield_word from next value pos there inside before occurs =
      rw (front t from next (token.Word word.Yield) there before, occurs) (stmts.yield_word (record { kind = refl }) inside)

  pub quit_word : (from : ℕ) (pos : Pos) → kind_at t.list.now from ≡ Some (token.Word word.Quit) → pos ≡ pos_at t from
      → IsLeave (between t from (from + 1)) (tree.Quit pos)
  quit_word from pos there occurs = rw (alone t from (token.Word word.Quit) there, occurs) (stmts.quit_word (record { kind = refl }))

  pub raise_word : (from next : ℕ) (e : Expr) (pos : Pos)
      → kind_at t.list.now from ≡ Some (token.Word word.Raise) → IsValue (between t (from + 1) next) e
      → from < next → pos ≡ pos_at t from → IsLeave (between t from next) (tree.Raise e pos)
  raise_word from next e pos there inside before occurs =
      rw (front t from next (token.Word word.Raise) there before, occurs) (stmts.raise_word (record { kind = refl }) inside)

  pub assert_word : (from next : ℕ) (e : Expr) (pos : Pos)
      → kind_at t.list.now from ≡ Some (token.Word word.Assert) → IsValue (between t (from + 1) next) e
      → from < next → pos ≡ pos_at t from → IsLeave (between t from next) (tree.Assert e pos)
  assert_word from next e pos there inside before occurs =
      rw (front t from next (token.Word word.Assert) there before, occurs) (stmts.assert_word (record { kind = refl }) inside)

  -- ---- lists of statements

  -- where the statements are read after the word
  pub body : (w : Word) (from following : ℕ) (r : Result (List Stmt × ℕ) Rejection)
      → kind_at t.list.now from ≡ Some (token.Word w) → following ≡ from + 1
      → IfOk r (λ read. IsFrom t.list.now following read.1) → IfOk r (λ read. IsStmts (between t following read.1) read.0)
      → IfOk r (λ read. IsBody w (between t from read.1) read.0)
  body w from following (Ok read) there next within inside =
      rw (front t from read.1 (token.Word w) there (omega (arith, next, within.0))) (stmts.body (record { kind = refl }) (rw next at inside))
  body w from following (Err fault) there next within inside = inside

  pub no_stmt : (place : ℕ) → IsOptionalStmt (between t place place) []
  no_stmt place = rw (none t place) stmts.no_stmt

  pub first_stmt : (from next : ℕ) (one all : List Stmt) → IsOptionalStmt (between t from next) one → all ≡ [] ++ one → IsStmts (between t from next) all
  first_stmt from next one all is pushed = rw pushed (stmts.last_stmt is)

  pub more_stmts : (from mid next : ℕ) (list one all : List Stmt)
      → kind_at t.list.now mid ≡ Some (token.Sign sign.Semicolon) → IsStmts (between t from mid) list → IsOptionalStmt (between t (mid + 1) next) one
      → from ≤ mid → mid < next → all ≡ list ++ one → IsStmts (between t from next) all
  more_stmts from mid next list one all semicolon first second before following pushed =
      rw (parted t from mid next (token.Sign sign.Semicolon) semicolon before following, pushed) (IsStmts-more first (record { kind = refl }) second)

  pub all_stmts : (from next : ℕ) (list all : List Stmt) → IsStmts (between t from next) list → all ≡ list → IsStmts (between t from next) all
  all_stmts from next list all is same = rw same is

  -- ---- if

  pub if_block : (from mid next : ℕ) (arms : List BranchArm) (rest : Option (List Stmt)) (otherwise : List Stmt) (pos : Pos)
      → kind_at t.list.now from ≡ Some (token.Word word.If) → IsArms (between t (from + 1) mid) arms → IsEnding (between t mid next) rest
      → from < mid → mid ≤ next → otherwise ≡ unwrap_or rest [] → pos ≡ pos_at t from
      → IsStmt (between t from next) (tree.If arms otherwise pos)
  if_block from mid next arms rest otherwise pos there first second before following same occurs =
      rw (front_join t from mid next (token.Word word.If) there before following, same, occurs) (stmts.if_block (record { kind = refl }) first second)

  pub more_arms : (from mid next : ℕ) (arms all : List BranchArm) (arm : BranchArm)
      → kind_at t.list.now mid ≡ Some (token.Word word.Elsif) → IsArms (between t from mid) arms → IsArm (between t (mid + 1) next) arm
      → from ≤ mid → mid < next → all ≡ arms ++ arm ∷ [] → IsArms (between t from next) all
  more_arms from mid next arms all arm elsif first second before following pushed =
      rw (parted t from mid next (token.Word word.Elsif) elsif before following, pushed) (IsArms-more first (record { kind = refl }) second)

  pub all_arms : (from next : ℕ) (arms all : List BranchArm) → IsArms (between t from next) arms → all ≡ arms → IsArms (between t from next) all
  all_arms from next arms all is same = rw same is

  pub arm : (from mid next : ℕ) (test : Expr) (list : List Stmt) → IsValue (between t from mid) test → IsBody word.Then (between t mid next) list
      → from ≤ mid → mid ≤ next → IsArm (between t from next) (record { test = test; body = list })
  arm from mid next test list first second before following = rw (join t from mid next before following) (stmts.arm first second)

  pub ending : (from mid next : ℕ) (rest : Option (List Stmt)) → IsElse (between t from mid) rest → kind_at t.list.now mid ≡ Some (token.Word word.End)
      → from ≤ mid → next ≡ mid + 1 → IsEnding (between t from next) rest
  ending from mid next rest inside closes before ends =
      rw (ends, ended t from mid (token.Word word.End) closes before) (stmts.ending inside (record { kind = refl }))

  pub no_else : (place : ℕ) → IsElse (between t place place) None
  no_else place = rw (none t place) stmts.no_else

  -- ---- the other statements that contain others. Those that begin with a body have the position of their word

  pub loop_block : (from mid next : ℕ) (kind : TokenKind) (list : List Stmt) (pos : Pos)
      → kind_at t.list.now from ≡ Some kind → IsBody word.Loop (between t from mid) list → kind_at t.list.now mid ≡ Some (token.Word word.End)
      → from < mid → next ≡ mid + 1 → pos ≡ pos_at t from → IsStmt (between t from next) (tree.Loop list pos)
  loop_block from mid next kind list pos there inside closes before ends occurs =
      rw (ends, enclosed t from mid kind (token.Word word.End) there closes before, occurs)
      (stmts.loop_block (subst (λ (ls : List Lexeme). IsBody word.Loop ls list) (front t from mid kind there before) inside) (record { kind = refl }))

  pub case_block : (from mid next : ℕ) (e : Expr) (choice : CaseChoice) (made : Stmt)
      → kind_at t.list.now from ≡ Some (token.Word word.Case) → IsValue (between t (from + 1) mid) e → IsCaseChoice (between t mid next) choice
      → from < mid → mid ≤ next → made ≡ tree.Case e choice.arms choice.rest (pos_at t from) → IsStmt (between t from next) made
  case_block from mid next e choice made there first second before following same =
      rw (front_join t from mid next (token.Word word.Case) there before following, same) (stmts.case_block (record { kind = refl }) first second)

  pub case_choice : (from mid next : ℕ) (arms : List CaseArm) (rest : Option (List Stmt)) → IsCaseArms (between t from mid) arms → IsEnding (between t mid next) rest
      → from ≤ mid → mid ≤ next → IsCaseChoice (between t from next) (record { arms = arms; rest = rest })
  case_choice from mid next arms rest first second before following = rw (join t from mid next before following) (stmts.case_choice first second)

  pub no_case_arm : (place : ℕ) (arms : List CaseArm) → arms ≡ [] → IsCaseArms (between t place place) arms
  no_case_arm place arms empty = rw (none t place, empty) stmts.no_case_arm

  pub more_case_arms : (from mid next : ℕ) (arms all : List CaseArm) (arm : CaseArm)
      → kind_at t.list.now mid ≡ Some (token.Word word.When) → IsCaseArms (between t from mid) arms → IsCaseArm (between t (mid + 1) next) arm
      → from ≤ mid → mid < next → all ≡ arms ++ arm ∷ [] → IsCaseArms (between t from next) all
  more_case_arms from mid next arms all arm when first second before following pushed =
      rw (parted t from mid next (token.Word word.When) when before following, pushed) (IsCaseArms-more first (record { kind = refl }) second)

  pub case_arm : (from mid next : ℕ) (values : List Expr) (list : List Stmt) → IsValues (between t from mid) values → IsBody word.Then (between t mid next) list
      → from ≤ mid → mid ≤ next → IsCaseArm (between t from next) (record { values = values; body = list })
  case_arm from mid next values list first second before following = rw (join t from mid next before following) (stmts.case_arm first second)

  pub more_values : (from mid next : ℕ) (es all : List Expr) (e : Expr)
      → kind_at t.list.now mid ≡ Some (token.Sign sign.Comma) → IsValues (between t from mid) es → IsValue (between t (mid + 1) next) e
      → from ≤ mid → mid < next → all ≡ es ++ e ∷ [] → IsValues (between t from next) all
  more_values from mid next es all e comma first second before following pushed =
      rw (parted t from mid next (token.Sign sign.Comma) comma before following, pushed) (IsValues-more first (record { kind = refl }) second)

  pub typecase_block : (from mid next : ℕ) (one : Local) (choice : TypeChoice) (made : Stmt)
      → kind_at t.list.now from ≡ Some (token.Word word.Typecase) → IsName IsLower (between t (from + 1) mid) one → IsTypeChoice (between t mid next) choice
      → from < mid → mid ≤ next → made ≡ tree.TypeCase one choice.branches choice.rest (pos_at t from) → IsStmt (between t from next) made
  typecase_block from mid next one choice made there first second before following same =
      rw (front_join t from mid next (token.Word word.Typecase) there before following, same) (IsStmt-typecase (record { kind = refl }) first second)

  pub protect_block : (from mid next : ℕ) (kind : TokenKind) (list : List Stmt) (choice : TypeChoice) (made : Stmt)
      → kind_at t.list.now from ≡ Some kind → IsBody word.Protect (between t from mid) list → IsTypeChoice (between t mid next) choice
      → from < mid → mid ≤ next → made ≡ tree.Protect list choice.branches choice.rest (pos_at t from) → IsStmt (between t from next) made
  protect_block from mid next kind list choice made there first second before following same =
      rw (front_join t from mid next kind there before following, same)
      (stmts.protect_block (subst (λ (ls : List Lexeme). IsBody word.Protect ls list) (front t from mid kind there before) first) second)

  pub type_choice : (from mid next : ℕ) (arms : List TypeArm) (rest : Option (List Stmt)) → IsBranches (between t from mid) arms → IsEnding (between t mid next) rest
      → from ≤ mid → mid ≤ next → IsTypeChoice (between t from next) (record { branches = arms; rest = rest })
  type_choice from mid next arms rest first second before following = rw (join t from mid next before following) (stmts.type_choice first second)

  pub no_branch : (place : ℕ) (arms : List TypeArm) → arms ≡ [] → IsBranches (between t place place) arms
  no_branch place arms empty = rw (none t place, empty) stmts.no_branch

  pub more_branches : (from mid next : ℕ) (arms all : List TypeArm) (arm : TypeArm)
      → kind_at t.list.now mid ≡ Some (token.Word word.When) → IsBranches (between t from mid) arms → IsBranch (between t (mid + 1) next) arm
      → from ≤ mid → mid < next → all ≡ arms ++ arm ∷ [] → IsBranches (between t from next) all
  more_branches from mid next arms all arm when first second before following pushed =
      rw (parted t from mid next (token.Word word.When) when before following, pushed) (IsBranches-more first (record { kind = refl }) second)

  pub branch : (from mid next : ℕ) (one : Ty) (list : List Stmt) → IsType (between t from mid) one → IsBody word.Then (between t mid next) list
      → from ≤ mid → mid ≤ next → IsBranch (between t from next) (record { ty = one; body = list })
  branch from mid next one list first second before following = rw (join t from mid next before following) (stmts.branch first second)
