-- Lists of statements and statements that contain others, as their forms read them: a lemma for each alternative.
use Rattle.std.proofs.Common.{◌≡◌, ◌≢◌, ℕ, ◌+◌, List, [], ◌∷◌, ◌++◌, Option, Some, None, unwrap_or, Result, refl, sym, ap, ◌∙◌}
use Rattle.sa_lexer.specs.declared.token.TokenKind.TheVariants as token
use Rattle.sa_lexer.specs.declared.word.Word.{Word}
use Rattle.sa_lexer.specs.declared.word.Word.TheVariants as word
use Rattle.sa_ast.specs.declared.pos.Pos.{Pos}
use Rattle.sa_ast.specs.declared.refusal.Rejection.{Rejection}
use Rattle.sa_ast.specs.declared.ty.Ty.{Ty}
use Rattle.sa_ast.specs.declared.expr.Expr.{Expr}
use Rattle.sa_ast.specs.declared.stmt.Local.{Local}
use Rattle.sa_ast.specs.declared.stmt.BranchArm.{BranchArm}
use Rattle.sa_ast.specs.declared.stmt.CaseArm.{CaseArm}
use Rattle.sa_ast.specs.declared.stmt.TypeArm.{TypeArm}
use Rattle.sa_ast.specs.declared.stmt.Stmt.{Stmt}
use Rattle.sa_ast.specs.declared.stmt.Stmt.TheVariants as tree
use Rattle.sa_parser_expr.specs.declared.tokens.Tokens.{Tokens}
use Rattle.sa_parser_expr.specs.Exactly.{lexemes_from, Takes, ReadsAs}
use Rattle.sa_parser_expr.specs.Forms.{Form, give, refuse, shift, follow, separated, list, make, nest, type, stmts, Reader, following, with_read}
use Rattle.sa_parser_expr.specs.Lexemes.{Lexeme, lexeme_at}
use Rattle.sa_parser_expr.specs.Positions.{kind_at}
use Rattle.sa_parser_expr.specs.Readings.{Reading, Read, Refused}
use Rattle.sa_parser_expr.specs.StatementForms.{value_form, name_form, body_form, else_form, ending_form, arm_form, arms_form, case_arm_form, branch_form}
use Rattle.sa_parser_expr.specs.StatementForms.{case_arms_form, branches_form, if_form, loop_form, case_form, typecase_form, protect_form}
use Rattle.sa_parser_expr.specs.Tests.{is_word}
use Rattle.sa_parser_expr.proofs.Openings.{one_reading, runs, opened_read, opened_refused, word_closed, word_unclosed}
use Rattle.sa_parser_expr.proofs.Runs.{at_level, Runs, taken, takes, gives, refused, met, not_met, follows, stops, makes, shut_word}
use Rattle.sa_parser_expr.proofs.Runs.{Parts, first_part, next_part, all_parts, first_part_refused, next_part_refused}
use Rattle.sa_parser_expr.proofs.Stretches.{pos_at}
use Rattle.sa_parser_expr.proofs.Tested.{word_is, word_stands}
use Rattle.sa_parser.specs.declared.blocks.CaseChoice.{CaseChoice}
use Rattle.sa_parser.specs.declared.blocks.TypeChoice.{TypeChoice}
use Rattle.sa_parser.specs.BlockForms.{case_choice_form, type_choice_form}
use Rattle.sa_parser.proofs.ExactStatements.{instead}

-- ---- two parts, and something made of what is made of both

second-with : {B C D : Type 0} (f : B → C) (g : C → D) (v : Reading B)
    → with_read g (following (λ b more. Read (f b) more) v) ≡ following (λ b more. Read (g (f b)) more) v
second-with f g (Read b rest) = refl
second-with f g (Refused rest) = refl

both-with : {A B C D : Type 0} (f : A → B → C) (g : C → D) (second : Reader B) (v : Reading A)
    → with_read g (following (λ a ms. following (λ b more. Read (f a b) more) (second ms)) v)
    ≡ following (λ a ms. following (λ b more. Read (g (f a b)) more) (second ms)) v
both-with f g second (Read a rest) = second-with (f a) g (second rest)
both-with f g second (Refused rest) = refl

module _ (t : Tokens) where
  -- ---- a word, and what is after it

  pub behind_word : {A : Type 0} (w : Word) (form : Lexeme → Form A) (other : Form A) (at : ℕ) → kind_at t.list.now at ≡ Some (token.Word w) → {v : Reading A}
      → Runs t (form (lexeme_at t at (token.Word w))) (at + 1) v → Runs t (shift (is_word w) form other) at v
  behind_word w form other at there r = met t (token.Word w) there (word_is w) r

  pub no_word : {A : Type 0} (w : Word) (form : Lexeme → Form A) (at : ℕ) → kind_at t.list.now at ≢ Some (token.Word w)
      → Runs t (shift (is_word w) form refuse) at (Refused (lexemes_from t at))
  no_word w form at other = not_met t (shut_word t w at other) (refused t)

  -- ---- bodies

  pub behind_begin : (w : Word) (at : ℕ) → kind_at t.list.now at ≡ Some (token.Word w) → {v : Reading (List Stmt)}
      → Runs t (nest stmts) (at + 1) v → Runs t (body_form w) at v
  unfolding body_form
  behind_begin w at there r = behind_word w (λ _. nest stmts) refuse at there r

  pub no_begin : (w : Word) (at : ℕ) → kind_at t.list.now at ≢ Some (token.Word w) → Runs t (body_form w) at (Refused (lexemes_from t at))
  unfolding body_form
  no_begin w at other = no_word w (λ _. nest stmts) at other

  pub body : (w : Word) (at after : ℕ) (r : Result (List Stmt × ℕ) Rejection) → kind_at t.list.now at ≡ Some (token.Word w) → after ≡ at + 1
      → ReadsAs (nest stmts) t after r → ReadsAs (body_form w) t at r
  body w at after r there next h = instead t (λ v k. behind_begin w at there (rw next at k)) r h

  pub inside : (w : Word) (at : ℕ) → kind_at t.list.now at ≡ Some (token.Word w) → {v : Reading (List Stmt)}
      → Runs t (body_form w) at v → Runs t (nest stmts) (at + 1) v
  inside w at there r = record { is = one_reading t (behind_begin w at there (runs t (nest stmts) (at + 1))) r }

  pub body_read : (w : Word) (at next : ℕ) (list : List Stmt) → Takes (body_form w) t at list next
      → (kind_at t.list.now at ≡ Some (token.Word w)) × Takes (nest stmts) t (at + 1) list next
  unfolding body_form
  body_read w at next list h =
      let opened = opened_read t {test = is_word w} {go = λ _. nest stmts} (taken t h) in
      (opened.first.there ∙ ap Some (word_stands w (lexeme_at t at opened.first.kind) opened.first.met).kind, takes t opened.rest)

  pub body_refused : {A : Type 0} {rest : List Lexeme} (w : Word) (form : Lexeme → Form A) (at : ℕ)
      → ((l : Lexeme) → Runs t (nest stmts) (at + 1) (Refused rest) → Runs t (form l) (at + 1) (Refused rest))
      → Runs t (body_form w) at (Refused rest) → Runs t (shift (is_word w) form refuse) at (Refused rest)
  unfolding body_form
  body_refused w form at each r = opened_refused t (λ s k. each (lexeme_at t at s.kind) k) r

  -- ---- if

  pub if_block : (from mid next : ℕ) (arms : List BranchArm) (rest : Option (List Stmt)) (otherwise : List Stmt) (pos : Pos)
      → kind_at t.list.now from ≡ Some (token.Word word.If) → Takes arms_form t (from + 1) arms mid → Takes ending_form t mid rest next
      → otherwise ≡ unwrap_or rest [] → pos ≡ pos_at t from → Takes (shift (is_word word.If) if_form refuse) t from (tree.If arms otherwise pos) next
  if_block from mid next arms rest otherwise pos there first second same occurs =
      rw (same, occurs) (takes t (behind_word word.If if_form refuse from there (follows t (taken t first) (makes t next (taken t second)))))

  pub next_arm : (from mid next : ℕ) (arms all : List BranchArm) (arm : BranchArm) → Parts t (is_word word.Elsif) arm_form from arms mid
      → kind_at t.list.now mid ≡ Some (token.Word word.Elsif) → Takes arm_form t (mid + 1) arm next → all ≡ arms ++ arm ∷ []
      → Parts t (is_word word.Elsif) arm_form from all next
  next_arm from mid next arms all arm so_far elsif one pushed =
      rw pushed (next_part t (is_word word.Elsif) arm_form so_far (token.Word word.Elsif) elsif (word_is word.Elsif) (taken t one))

  pub all_arms : (from next : ℕ) (arms all : List BranchArm) → Parts t (is_word word.Elsif) arm_form from arms next
      → kind_at t.list.now next ≢ Some (token.Word word.Elsif) → all ≡ arms → Takes arms_form t from all next
  all_arms from next arms all so_far other same = rw same (takes t (all_parts t (is_word word.Elsif) arm_form so_far (shut_word t word.Elsif next other)))

  pub next_arm_refused : (from mid : ℕ) (arms : List BranchArm) {rest : List Lexeme} → Parts t (is_word word.Elsif) arm_form from arms mid
      → kind_at t.list.now mid ≡ Some (token.Word word.Elsif) → Runs t arm_form (mid + 1) (Refused rest) → Runs t arms_form from (Refused rest)
  next_arm_refused from mid arms so_far elsif r =
      next_part_refused t (is_word word.Elsif) arm_form so_far (token.Word word.Elsif) elsif (word_is word.Elsif) r

  pub behind_test : (from mid : ℕ) (test : Expr) → Takes value_form t from test mid → {v : Reading BranchArm}
      → Runs t (make (λ list. record { test = test; body = list }) (body_form word.Then)) mid v → Runs t arm_form from v
  unfolding arm_form
  behind_test from mid test first r = follows t (taken t first) r

  pub no_test : (from : ℕ) {rest : List Lexeme} → Runs t value_form from (Refused rest) → Runs t arm_form from (Refused rest)
  unfolding arm_form
  no_test from r = stops t r

  pub arm : (from mid next : ℕ) (test : Expr) (list : List Stmt) → Takes value_form t from test mid → Takes (body_form word.Then) t mid list next
      → Takes arm_form t from (record { test = test; body = list }) next
  arm from mid next test list first second = takes t (behind_test from mid test first (makes t next (taken t second)))

  pub ending : (from mid next : ℕ) (rest : Option (List Stmt)) → Takes else_form t from rest mid → kind_at t.list.now mid ≡ Some (token.Word word.End)
      → next ≡ mid + 1 → Takes ending_form t from rest next
  unfolding ending_form
  ending from mid next rest first closes ends = rw ends (takes t (word_closed t mid (taken t first) closes))

  pub no_ending : (from mid : ℕ) (rest : Option (List Stmt)) → Takes else_form t from rest mid → kind_at t.list.now mid ≢ Some (token.Word word.End)
      → Runs t ending_form from (Refused (lexemes_from t mid))
  unfolding ending_form
  no_ending from mid rest first other = word_unclosed t mid (taken t first) other

  pub else_refused : (from : ℕ) {rest : List Lexeme} → Runs t else_form from (Refused rest) → Runs t ending_form from (Refused rest)
  unfolding ending_form
  else_refused from r = stops t r

  pub no_else : (at : ℕ) → kind_at t.list.now at ≢ Some (token.Word word.Else) → Takes else_form t at None at
  no_else at other = takes t (not_met t (shut_word t word.Else at other) (gives t))

  pub behind_else : (at : ℕ) → kind_at t.list.now at ≡ Some (token.Word word.Else) → {v : Reading (Option (List Stmt))}
      → Runs t (make Some (nest stmts)) (at + 1) v → Runs t else_form at v
  behind_else at there r = behind_word word.Else (λ _. make Some (nest stmts)) (give None) at there r

  pub else_part : (from next : ℕ) (list : List Stmt) → kind_at t.list.now from ≡ Some (token.Word word.Else) → Takes (body_form word.Else) t from list next
      → Takes else_form t from (Some list) next
  else_part from next list there h = takes t (behind_else from there (makes t next (inside word.Else from there (taken t h))))

  -- ---- loop

  pub loop_block : (from mid next : ℕ) (list : List Stmt) (pos : Pos) → Takes (body_form word.Loop) t from list mid
      → kind_at t.list.now mid ≡ Some (token.Word word.End) → next ≡ mid + 1 → pos ≡ pos_at t from
      → Takes (shift (is_word word.Loop) loop_form refuse) t from (tree.Loop list pos) next
  loop_block from mid next list pos h closes ends occurs =
      let body = body_read word.Loop from mid list h in
      rw (ends, occurs) (takes t (behind_word word.Loop loop_form refuse from body.0 (makes t (mid + 1) (word_closed t mid (taken t body.1) closes))))

  pub loop_refused : (from : ℕ) {rest : List Lexeme} → Runs t (body_form word.Loop) from (Refused rest)
      → Runs t (shift (is_word word.Loop) loop_form refuse) from (Refused rest)
  loop_refused from r = body_refused word.Loop loop_form from (λ l k. stops t (stops t k)) r

  pub loop_unended : (from mid : ℕ) (list : List Stmt) → Takes (body_form word.Loop) t from list mid → kind_at t.list.now mid ≢ Some (token.Word word.End)
      → Runs t (shift (is_word word.Loop) loop_form refuse) from (Refused (lexemes_from t mid))
  loop_unended from mid list h other =
      let body = body_read word.Loop from mid list h in
      behind_word word.Loop loop_form refuse from body.0 (stops t (word_unclosed t mid (taken t body.1) other))

  -- ---- what is after "when" each time

  -- what was read so far: nothing yet, or what follows the first "when"
  pub data Whens {A : Type 0} (item : Form A) (from : ℕ) (all : List A) (next : ℕ) : Type 0 where
    none_yet : next ≡ from → all ≡ [] → Whens item from all next
    some_read : kind_at t.list.now from ≡ Some (token.Word word.When) → Parts t (is_word word.When) item (from + 1) all next → Whens item from all next

  abbrev whens_form : {A : Type 0} → Form A → Form (List A)
  whens_form item = shift (is_word word.When) (λ _. separated (is_word word.When) item) (give [])

  first_when : {A : Type 0} (item : Form A) (from mid next : ℕ) (all whole : List A) (a : A) → mid ≡ from → all ≡ [] → kind_at t.list.now mid ≡ Some (token.Word word.When)
      → Takes item t (mid + 1) a next → whole ≡ all ++ a ∷ [] → Whens item from whole next
  first_when item from mid next all whole a begins empty when one pushed =
      some_read (rw begins at when) (rw (pushed, empty) (first_part t (is_word word.When) item (rw begins at (taken t one))))

  pub next_when : {A : Type 0} (item : Form A) (from mid next : ℕ) (all whole : List A) (a : A) → Whens item from all mid
      → kind_at t.list.now mid ≡ Some (token.Word word.When) → Takes item t (mid + 1) a next → whole ≡ all ++ a ∷ [] → Whens item from whole next
  next_when item from mid next all whole a (none_yet begins empty) when one pushed = first_when item from mid next all whole a begins empty when one pushed
  next_when item from mid next all whole a (some_read first so_far) when one pushed =
      some_read first (rw pushed (next_part t (is_word word.When) item so_far (token.Word word.When) when (word_is word.When) (taken t one)))

  pub all_whens : {A : Type 0} (item : Form A) (from next : ℕ) (all : List A) → Whens item from all next
      → kind_at t.list.now next ≢ Some (token.Word word.When) → Takes (whens_form item) t from all next
  all_whens item from next all (none_yet begins empty) other =
      rw (begins, empty) (takes t (not_met t (shut_word t word.When from (rw begins at other)) (gives t)))
  all_whens item from next all (some_read first so_far) other =
      takes t (behind_word word.When (λ _. separated (is_word word.When) item) (give []) from first
      (all_parts t (is_word word.When) item so_far (shut_word t word.When next other)))

  pub when_refused : {A : Type 0} (item : Form A) (from mid : ℕ) (all : List A) {rest : List Lexeme} → Whens item from all mid
      → kind_at t.list.now mid ≡ Some (token.Word word.When) → Runs t item (mid + 1) (Refused rest) → Runs t (whens_form item) from (Refused rest)
  when_refused item from mid all (none_yet begins empty) when r =
      behind_word word.When (λ _. separated (is_word word.When) item) (give []) from (rw begins at when)
      (first_part_refused t (is_word word.When) item (rw begins at r))
  when_refused item from mid all (some_read first so_far) when r =
      behind_word word.When (λ _. separated (is_word word.When) item) (give []) from first
      (next_part_refused t (is_word word.When) item so_far (token.Word word.When) when (word_is word.When) r)

  pub all_case_arms : (from next : ℕ) (all : List CaseArm) → Whens case_arm_form from all next → kind_at t.list.now next ≢ Some (token.Word word.When)
      → Takes case_arms_form t from all next
  unfolding case_arms_form
  all_case_arms from next all so_far other = all_whens case_arm_form from next all so_far other

  pub case_arm_refused : (from mid : ℕ) (all : List CaseArm) {rest : List Lexeme} → Whens case_arm_form from all mid
      → kind_at t.list.now mid ≡ Some (token.Word word.When) → Runs t case_arm_form (mid + 1) (Refused rest) → Runs t case_arms_form from (Refused rest)
  unfolding case_arms_form
  case_arm_refused from mid all so_far when r = when_refused case_arm_form from mid all so_far when r

  pub all_branches : (from next : ℕ) (all : List TypeArm) → Whens branch_form from all next → kind_at t.list.now next ≢ Some (token.Word word.When)
      → Takes branches_form t from all next
  unfolding branches_form
  all_branches from next all so_far other = all_whens branch_form from next all so_far other

  pub branch_refused : (from mid : ℕ) (all : List TypeArm) {rest : List Lexeme} → Whens branch_form from all mid
      → kind_at t.list.now mid ≡ Some (token.Word word.When) → Runs t branch_form (mid + 1) (Refused rest) → Runs t branches_form from (Refused rest)
  unfolding branches_form
  branch_refused from mid all so_far when r = when_refused branch_form from mid all so_far when r

  -- ---- case

  pub behind_values : (from mid : ℕ) (values : List Expr) → Takes (list value_form) t from values mid → {v : Reading CaseArm}
      → Runs t (make (λ list. record { values = values; body = list }) (body_form word.Then)) mid v → Runs t case_arm_form from v
  unfolding case_arm_form
  behind_values from mid values first r = follows t (taken t first) r

  pub no_values : (from : ℕ) {rest : List Lexeme} → Runs t (list value_form) from (Refused rest) → Runs t case_arm_form from (Refused rest)
  unfolding case_arm_form
  no_values from r = stops t r

  pub case_arm : (from mid next : ℕ) (values : List Expr) (body : List Stmt) → Takes (list value_form) t from values mid → Takes (body_form word.Then) t mid body next
      → Takes case_arm_form t from (record { values = values; body = body }) next
  case_arm from mid next values body first second = takes t (behind_values from mid values first (makes t next (taken t second)))

  pub behind_case_arms : (from mid : ℕ) (arms : List CaseArm) → Takes case_arms_form t from arms mid → {v : Reading CaseChoice}
      → Runs t (make (λ rest. record { arms = arms; rest = rest }) ending_form) mid v → Runs t case_choice_form from v
  unfolding case_choice_form
  behind_case_arms from mid arms first r = follows t (taken t first) r

  pub no_case_arms : (from : ℕ) {rest : List Lexeme} → Runs t case_arms_form from (Refused rest) → Runs t case_choice_form from (Refused rest)
  unfolding case_choice_form
  no_case_arms from r = stops t r

  pub case_choice : (from mid next : ℕ) (arms : List CaseArm) (rest : Option (List Stmt)) → Takes case_arms_form t from arms mid → Takes ending_form t mid rest next
      → Takes case_choice_form t from (record { arms = arms; rest = rest }) next
  case_choice from mid next arms rest first second = takes t (behind_case_arms from mid arms first (makes t next (taken t second)))

  -- what is chosen from, in its statement
  chosen_case : (e : Expr) (pos : Pos) (at : ℕ) {v : Reading CaseChoice} → Runs t case_choice_form at v
      → Runs t (follow case_arms_form (λ arms. make (λ rest. tree.Case e arms rest pos) ending_form)) at (with_read (λ choice. tree.Case e choice.arms choice.rest pos) v)
  unfolding case_choice_form
  chosen_case e pos at r = record {
    is = sym (both-with (λ arms rest. record { arms = arms; rest = rest }) (λ (choice : CaseChoice). tree.Case e choice.arms choice.rest pos) (at_level t ending_form)
        (at_level t case_arms_form (lexemes_from t at)))
        ∙ ap (with_read (λ (choice : CaseChoice). tree.Case e choice.arms choice.rest pos)) r.is;
  }

  pub behind_case : (from : ℕ) → kind_at t.list.now from ≡ Some (token.Word word.Case) → {v : Reading Stmt}
      → Runs t (follow value_form (λ e. follow case_arms_form (λ arms. make (λ rest. tree.Case e arms rest (pos_at t from)) ending_form))) (from + 1) v
      → Runs t (shift (is_word word.Case) case_form refuse) from v
  behind_case from there r = behind_word word.Case case_form refuse from there r

  pub case_refused : (from mid : ℕ) (e : Expr) {rest : List Lexeme} → kind_at t.list.now from ≡ Some (token.Word word.Case) → Takes value_form t (from + 1) e mid
      → Runs t case_choice_form mid (Refused rest) → Runs t (shift (is_word word.Case) case_form refuse) from (Refused rest)
  case_refused from mid e there first r = behind_case from there (follows t (taken t first) (chosen_case e (pos_at t from) mid r))

  pub case_block : (from mid next : ℕ) (e : Expr) (choice : CaseChoice) (made : Stmt) → kind_at t.list.now from ≡ Some (token.Word word.Case)
      → Takes value_form t (from + 1) e mid → Takes case_choice_form t mid choice next → made ≡ tree.Case e choice.arms choice.rest (pos_at t from)
      → Takes (shift (is_word word.Case) case_form refuse) t from made next
  case_block from mid next e choice made there first second same =
      rw same (takes t (behind_case from there (follows t (taken t first) (chosen_case e (pos_at t from) mid (taken t second)))))

  -- ---- typecase and protect

  pub behind_type : (from mid : ℕ) (one : Ty) → Takes (nest type) t from one mid → {v : Reading TypeArm}
      → Runs t (make (λ list. record { ty = one; body = list }) (body_form word.Then)) mid v → Runs t branch_form from v
  unfolding branch_form
  behind_type from mid one first r = follows t (taken t first) r

  pub no_type : (from : ℕ) {rest : List Lexeme} → Runs t (nest type) from (Refused rest) → Runs t branch_form from (Refused rest)
  unfolding branch_form
  no_type from r = stops t r

  pub branch : (from mid next : ℕ) (one : Ty) (body : List Stmt) → Takes (nest type) t from one mid → Takes (body_form word.Then) t mid body next
      → Takes branch_form t from (record { ty = one; body = body }) next
  branch from mid next one body first second = takes t (behind_type from mid one first (makes t next (taken t second)))

  pub behind_branches : (from mid : ℕ) (branches : List TypeArm) → Takes branches_form t from branches mid → {v : Reading TypeChoice}
      → Runs t (make (λ rest. record { branches = branches; rest = rest }) ending_form) mid v → Runs t type_choice_form from v
  unfolding type_choice_form
  behind_branches from mid branches first r = follows t (taken t first) r

  pub no_branches : (from : ℕ) {rest : List Lexeme} → Runs t branches_form from (Refused rest) → Runs t type_choice_form from (Refused rest)
  unfolding type_choice_form
  no_branches from r = stops t r

  pub type_choice : (from mid next : ℕ) (branches : List TypeArm) (rest : Option (List Stmt)) → Takes branches_form t from branches mid
      → Takes ending_form t mid rest next → Takes type_choice_form t from (record { branches = branches; rest = rest }) next
  type_choice from mid next branches rest first second = takes t (behind_branches from mid branches first (makes t next (taken t second)))

  chosen_type : (made : List TypeArm → Option (List Stmt) → Stmt) (at : ℕ) {v : Reading TypeChoice} → Runs t type_choice_form at v
      → Runs t (follow branches_form (λ branches. make (λ rest. made branches rest) ending_form)) at (with_read (λ choice. made choice.branches choice.rest) v)
  unfolding type_choice_form
  chosen_type made at r = record {
    is = sym (both-with (λ branches rest. record { branches = branches; rest = rest }) (λ (choice : TypeChoice). made choice.branches choice.rest) (at_level t ending_form)
        (at_level t branches_form (lexemes_from t at)))
        ∙ ap (with_read (λ (choice : TypeChoice). made choice.branches choice.rest)) r.is;
  }

  pub behind_typecase : (from : ℕ) → kind_at t.list.now from ≡ Some (token.Word word.Typecase) → {v : Reading Stmt}
      → Runs t (follow name_form (λ name. follow branches_form (λ branches. make (λ rest. tree.TypeCase name branches rest (pos_at t from)) ending_form))) (from + 1) v
      → Runs t (shift (is_word word.Typecase) typecase_form refuse) from v
  behind_typecase from there r = behind_word word.Typecase typecase_form refuse from there r

  pub typecase_refused : (from mid : ℕ) (name : Local) {rest : List Lexeme} → kind_at t.list.now from ≡ Some (token.Word word.Typecase)
      → Takes name_form t (from + 1) name mid → Runs t type_choice_form mid (Refused rest) → Runs t (shift (is_word word.Typecase) typecase_form refuse) from (Refused rest)
  typecase_refused from mid name there first r =
      behind_typecase from there (follows t (taken t first) (chosen_type (λ branches rest. tree.TypeCase name branches rest (pos_at t from)) mid r))

  pub typecase_block : (from mid next : ℕ) (name : Local) (choice : TypeChoice) (made : Stmt) → kind_at t.list.now from ≡ Some (token.Word word.Typecase)
      → Takes name_form t (from + 1) name mid → Takes type_choice_form t mid choice next → made ≡ tree.TypeCase name choice.branches choice.rest (pos_at t from)
      → Takes (shift (is_word word.Typecase) typecase_form refuse) t from made next
  typecase_block from mid next name choice made there first second same =
      rw same (takes t (behind_typecase from there
      (follows t (taken t first) (chosen_type (λ branches rest. tree.TypeCase name branches rest (pos_at t from)) mid (taken t second)))))

  pub protect_refused : (from : ℕ) {rest : List Lexeme} → Runs t (body_form word.Protect) from (Refused rest)
      → Runs t (shift (is_word word.Protect) protect_form refuse) from (Refused rest)
  protect_refused from r = body_refused word.Protect protect_form from (λ l k. stops t k) r

  pub choice_refused : (from mid : ℕ) (body : List Stmt) {rest : List Lexeme} → Takes (body_form word.Protect) t from body mid
      → Runs t type_choice_form mid (Refused rest) → Runs t (shift (is_word word.Protect) protect_form refuse) from (Refused rest)
  choice_refused from mid body h r =
      let begun = body_read word.Protect from mid body h in
      behind_word word.Protect protect_form refuse from begun.0
      (follows t (taken t begun.1) (chosen_type (λ branches rest. tree.Protect body branches rest (pos_at t from)) mid r))

  pub protect_block : (from mid next : ℕ) (body : List Stmt) (choice : TypeChoice) (made : Stmt) → Takes (body_form word.Protect) t from body mid
      → Takes type_choice_form t mid choice next → made ≡ tree.Protect body choice.branches choice.rest (pos_at t from)
      → Takes (shift (is_word word.Protect) protect_form refuse) t from made next
  protect_block from mid next body choice made h second same =
      let begun = body_read word.Protect from mid body h in
      rw same (takes t (behind_word word.Protect protect_form refuse from begun.0
      (follows t (taken t begun.1) (chosen_type (λ branches rest. tree.Protect body branches rest (pos_at t from)) mid (taken t second)))))
