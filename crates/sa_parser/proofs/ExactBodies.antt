-- Lists of statements, as their forms read them, and which form of a statement its first token chooses.
use Rattle.std.proofs.Common.{◌≡◌, ◌≢◌, ℕ, ◌+◌, Bool, true, false, List, [], ◌∷◌, ◌++◌, Option, Some, None, ◌⊎◌, inl, inr, refl, sym, ap, ◌∙◌, append_assoc}
use Rattle.std.proofs.lemmas.List.{append-nil}
use Rattle.sa_lexer.specs.declared.token.TokenKind.{TokenKind}
use Rattle.sa_lexer.specs.declared.token.TokenKind.TheVariants as token
use Rattle.sa_lexer.specs.declared.sign.Sign.{Sign}
use Rattle.sa_lexer.specs.declared.sign.Sign.TheVariants as sign
use Rattle.sa_lexer.specs.declared.word.Word.{Word}
use Rattle.sa_lexer.specs.declared.word.Word.TheVariants as word
use Rattle.sa_ast.specs.declared.stmt.Stmt.{Stmt}
use Rattle.sa_ast.specs.declared.stmt.Stmt.TheVariants as tree
use Rattle.sa_parser_expr.specs.declared.tokens.Tokens.{Tokens}
use Rattle.sa_parser_expr.specs.Exactly.{lexemes_from, Takes}
use Rattle.sa_parser_expr.specs.ExpressionForms.{first_form, items_or, result_or, class_call_form, placed_post_form, post_form, power_form, unary_form}
use Rattle.sa_parser_expr.specs.ExpressionForms.{operation_form, product_form, sum_form, comparison_form, expr_form}
use Rattle.sa_parser_expr.specs.Forms.{Form, refuse, shift, make, separated, nest, stmts, opens}
use Rattle.sa_parser_expr.specs.Grammar.{form_of}
use Rattle.sa_parser_expr.specs.Lexemes.{Lexeme, lexeme_at}
use Rattle.sa_parser_expr.specs.Positions.{kind_at}
use Rattle.sa_parser_expr.specs.Readings.{Reading, Read, Refused}
use Rattle.sa_parser_expr.specs.StatementForms.{value_form, optional_value_form, simple_form, leave_or, if_form, loop_form, case_form, typecase_form, protect_form}
use Rattle.sa_parser_expr.specs.StatementForms.{stmt_form, optional_stmt_form, joined, stmts_form}
use Rattle.sa_parser_expr.specs.Tests.{is_sign, is_word}
use Rattle.sa_parser_expr.specs.TypeForms.{type_form}
use Rattle.sa_parser_expr.proofs.Openings.{one_reading, runs}
use Rattle.sa_parser_expr.proofs.Runs.{Runs, taken, takes, gives, not_met, another, stops, makes, nests, first_one, second_one, meets_by, shut_by, shut_sign, shut_word}
use Rattle.sa_parser_expr.proofs.Runs.{Parts, first_part, next_part, all_parts, first_part_refused, next_part_refused}
use Rattle.sa_parser_expr.proofs.Shifts.{Shut}
use Rattle.sa_parser_expr.proofs.Stretches.{pos_at}
use Rattle.sa_parser_expr.proofs.Tested.{sign_is}
use Rattle.sa_parser.specs.Starts.{begins_statement}
use Rattle.sa_parser.proofs.ExactBlocks.{behind_word}
use Rattle.sa_parser.proofs.ExactStatements.{lexeme, behind_return, behind_yield, quits, behind_raise, behind_assert, stays}

-- ---- what opens the form of statements

word_opens : (w : Word) → opens stmt_form (lexeme (token.Word w)) ≡ begins_statement (Some (token.Word w))
unfolding type_form first_form items_or result_or class_call_form placed_post_form post_form power_form unary_form operation_form product_form sum_form comparison_form expr_form simple_form stmt_form
word_opens word.And = refl
word_opens _ = refl

sign_opens : (s : Sign) → opens stmt_form (lexeme (token.Sign s)) ≡ begins_statement (Some (token.Sign s))
unfolding type_form first_form items_or result_or class_call_form placed_post_form post_form power_form unary_form operation_form product_form sum_form comparison_form expr_form simple_form stmt_form
sign_opens sign.Comma = refl
sign_opens _ = refl

kind_opens : (k : TokenKind) → opens stmt_form (lexeme k) ≡ begins_statement (Some k)
unfolding type_form first_form items_or result_or class_call_form placed_post_form post_form power_form unary_form operation_form product_form sum_form comparison_form expr_form simple_form stmt_form
kind_opens (token.Word w) = word_opens w
kind_opens (token.Sign s) = sign_opens s
kind_opens _ = refl

stmt_opens : (l : Lexeme) → opens stmt_form l ≡ begins_statement (Some l.kind)
unfolding type_form first_form items_or result_or class_call_form placed_post_form post_form power_form unary_form operation_form product_form sum_form comparison_form expr_form simple_form stmt_form
stmt_opens l = kind_opens l.kind

some_begins : (found : Option TokenKind) → begins_statement found ≡ true → (kind : TokenKind) × (found ≡ Some kind)
some_begins None begins = absurd (cc)
some_begins (Some kind) begins = (kind, refl)

joined-more : {A : Type 0} (lists : List (List A)) (one : List A) → joined (lists ++ one ∷ []) ≡ joined lists ++ one
joined-more [] one = append-nil one
joined-more (first ∷ lists) one = ap (λ rest. first ++ rest) (joined-more lists one) ∙ sym (append_assoc first (joined lists) one)

module _ (t : Tokens) where
  -- ---- a statement that may be absent

  -- where something begins there is a token
  pub begun : (at : ℕ) → begins_statement (kind_at t.list.now at) ≡ true → (kind : TokenKind) × (kind_at t.list.now at ≡ Some kind)
  begun at begins = some_begins (kind_at t.list.now at) begins

  pub stmt_there : (at : ℕ) → begins_statement (kind_at t.list.now at) ≡ true → {v : Reading (List Stmt)}
      → Runs t (make (λ s. s ∷ []) stmt_form) at v → Runs t optional_stmt_form at v
  unfolding optional_stmt_form
  stmt_there at begins r =
      let there = begun at begins in
      first_one t (meets_by t (opens stmt_form) at there.0 there.1 (stmt_opens (lexeme_at t at there.0) ∙ ap begins_statement (sym there.1) ∙ begins)) r

  pub no_stmt : (at : ℕ) → begins_statement (kind_at t.list.now at) ≡ false → Takes optional_stmt_form t at [] at
  unfolding optional_stmt_form
  no_stmt at none =
      takes t (second_one t (shut_by t (opens stmt_form) at (λ kind there. stmt_opens (lexeme_at t at kind) ∙ ap begins_statement (sym there) ∙ none)) (gives t))

  -- ---- lists that are appended

  module _ {A : Type 0} (test : Lexeme → Bool) (item : Form (List A)) where
    -- what was read up to an index
    pub record Joins (from : ℕ) (all : List A) (next : ℕ) : Type 0 where
      pub lists : List (List A)
      pub parts : Parts t test item from lists next
      pub same : all ≡ joined lists

    pub first_joined : (from next : ℕ) (one all : List A) → Takes item t from one next → all ≡ one → Joins from all next
    first_joined from next one all first same = record {
      lists = one ∷ [];
      parts = first_part t test item (taken t first);
      same = same ∙ sym (append-nil one);
    }

    pub next_joined : (from mid next : ℕ) (all one whole : List A) → Joins from all mid → (kind : TokenKind) → kind_at t.list.now mid ≡ Some kind
        → test (lexeme_at t mid kind) ≡ true → Takes item t (mid + 1) one next → whole ≡ all ++ one → Joins from whole next
    next_joined from mid next all one whole so_far kind there meets second pushed = record {
      lists = so_far.lists ++ one ∷ [];
      parts = next_part t test item so_far.parts kind there meets (taken t second);
      same = pushed ∙ ap (λ before. before ++ one) so_far.same ∙ sym (joined-more so_far.lists one);
    }

    pub all_joined : (from next : ℕ) (all whole : List A) → Joins from all next → Shut test (lexemes_from t next) → whole ≡ all
        → Runs t (make joined (separated test item)) from (Read whole (lexemes_from t next))
    all_joined from next all whole so_far shut same = rw (same, so_far.same) (makes t next (all_parts t test item so_far.parts shut))

    pub first_join_refused : (from : ℕ) {rest : List Lexeme} → Runs t item from (Refused rest) → Runs t (make joined (separated test item)) from (Refused rest)
    first_join_refused from r = stops t (first_part_refused t test item r)

    pub next_join_refused : (from mid : ℕ) (all : List A) {rest : List Lexeme} → Joins from all mid → (kind : TokenKind) → kind_at t.list.now mid ≡ Some kind
        → test (lexeme_at t mid kind) ≡ true → Runs t item (mid + 1) (Refused rest) → Runs t (make joined (separated test item)) from (Refused rest)
    next_join_refused from mid all so_far kind there meets r = stops t (next_part_refused t test item so_far.parts kind there meets r)

  -- ---- lists of statements

  -- the statements that were read up to an index
  abbrev pub StmtsRead : ℕ → List Stmt → ℕ → Type 0
  StmtsRead from list next = Joins (is_sign sign.Semicolon) optional_stmt_form from list next

  pub first_stmt : (from next : ℕ) (one list : List Stmt) → Takes optional_stmt_form t from one next → list ≡ [] ++ one → StmtsRead from list next
  first_stmt from next one list first pushed = first_joined (is_sign sign.Semicolon) optional_stmt_form from next one list first pushed

  pub next_stmt : (from mid next : ℕ) (list one whole : List Stmt) → StmtsRead from list mid → kind_at t.list.now mid ≡ Some (token.Sign sign.Semicolon)
      → Takes optional_stmt_form t (mid + 1) one next → whole ≡ list ++ one → StmtsRead from whole next
  next_stmt from mid next list one whole so_far semicolon second pushed =
      next_joined (is_sign sign.Semicolon) optional_stmt_form from mid next list one whole so_far (token.Sign sign.Semicolon) semicolon (sign_is sign.Semicolon) second pushed

  as_stmts : {from : ℕ} {v : Reading (List Stmt)} → Runs t (make joined (separated (is_sign sign.Semicolon) optional_stmt_form)) from v → Runs t (nest stmts) from v
  unfolding form_of stmts_form
  as_stmts r = nests t stmts r

  pub all_stmts : (from next : ℕ) (list whole : List Stmt) → StmtsRead from list next → kind_at t.list.now next ≢ Some (token.Sign sign.Semicolon)
      → whole ≡ list → Takes (nest stmts) t from whole next
  all_stmts from next list whole so_far other same =
      takes t (as_stmts (all_joined (is_sign sign.Semicolon) optional_stmt_form from next list whole so_far (shut_sign t sign.Semicolon next other) same))

  pub first_refused : (from : ℕ) {rest : List Lexeme} → Runs t optional_stmt_form from (Refused rest) → Runs t (nest stmts) from (Refused rest)
  first_refused from r = as_stmts (first_join_refused (is_sign sign.Semicolon) optional_stmt_form from r)

  pub next_refused : (from mid : ℕ) (list : List Stmt) {rest : List Lexeme} → StmtsRead from list mid → kind_at t.list.now mid ≡ Some (token.Sign sign.Semicolon)
      → Runs t optional_stmt_form (mid + 1) (Refused rest) → Runs t (nest stmts) from (Refused rest)
  next_refused from mid list so_far semicolon r =
      as_stmts (next_join_refused (is_sign sign.Semicolon) optional_stmt_form from mid list so_far (token.Sign sign.Semicolon) semicolon (sign_is sign.Semicolon) r)

  -- ---- which statement

  -- what is read after the word, where there is one
  following : {A : Type 0} (w : Word) (form : Lexeme → Form A) (at : ℕ) → kind_at t.list.now at ≡ Some (token.Word w) → {v : Reading A}
      → Runs t (shift (is_word w) form refuse) at v → Runs t (form (lexeme_at t at (token.Word w))) (at + 1) v
  following w form at there r = record { is = one_reading t (behind_word t w form refuse at there (runs t (form (lexeme_at t at (token.Word w))) (at + 1))) r }

  pub of_if : (at : ℕ) → kind_at t.list.now at ≡ Some (token.Word word.If) → {v : Reading Stmt} → Runs t (shift (is_word word.If) if_form refuse) at v → Runs t stmt_form at v
  unfolding stmt_form
  of_if at there r = behind_word t word.If if_form _ at there (following word.If if_form at there r)

  pub of_loop : (at : ℕ) → kind_at t.list.now at ≡ Some (token.Word word.Loop) → {v : Reading Stmt} → Runs t (shift (is_word word.Loop) loop_form refuse) at v → Runs t stmt_form at v
  unfolding stmt_form
  of_loop at there r = another t (token.Word word.Loop) there refl (behind_word t word.Loop loop_form _ at there (following word.Loop loop_form at there r))

  pub of_case : (at : ℕ) → kind_at t.list.now at ≡ Some (token.Word word.Case) → {v : Reading Stmt} → Runs t (shift (is_word word.Case) case_form refuse) at v → Runs t stmt_form at v
  unfolding stmt_form
  of_case at there r =
      let kind = token.Word word.Case in
      another t kind there refl (another t kind there refl (behind_word t word.Case case_form _ at there (following word.Case case_form at there r)))

  pub of_typecase : (at : ℕ) → kind_at t.list.now at ≡ Some (token.Word word.Typecase) → {v : Reading Stmt}
      → Runs t (shift (is_word word.Typecase) typecase_form refuse) at v → Runs t stmt_form at v
  unfolding stmt_form
  of_typecase at there r =
      let kind = token.Word word.Typecase in
      another t kind there refl (another t kind there refl (another t kind there refl
      (behind_word t word.Typecase typecase_form _ at there (following word.Typecase typecase_form at there r))))

  pub of_protect : (at : ℕ) → kind_at t.list.now at ≡ Some (token.Word word.Protect) → {v : Reading Stmt}
      → Runs t (shift (is_word word.Protect) protect_form refuse) at v → Runs t stmt_form at v
  unfolding stmt_form
  of_protect at there r =
      let kind = token.Word word.Protect in
      another t kind there refl (another t kind there refl (another t kind there refl (another t kind there refl
      (behind_word t word.Protect protect_form _ at there (following word.Protect protect_form at there r)))))

  -- after the words that open the others
  after_words : (w : Word) (at : ℕ) → kind_at t.list.now at ≡ Some (token.Word w) → is_word word.If (lexeme (token.Word w)) ≡ false → is_word word.Loop (lexeme (token.Word w)) ≡ false
      → is_word word.Case (lexeme (token.Word w)) ≡ false → is_word word.Typecase (lexeme (token.Word w)) ≡ false → is_word word.Protect (lexeme (token.Word w)) ≡ false
      → {v : Reading Stmt} → Runs t (leave_or simple_form) at v → Runs t stmt_form at v
  unfolding stmt_form
  after_words w at there no_if no_loop no_case no_typecase no_protect r =
      let kind = token.Word w in
      another t kind there no_if (another t kind there no_loop (another t kind there no_case (another t kind there no_typecase (another t kind there no_protect r))))

  pub of_return : (at : ℕ) → kind_at t.list.now at ≡ Some (token.Word word.Return) → {v : Reading Stmt} → Runs t (leave_or refuse) at v → Runs t stmt_form at v
  of_return at there r =
      after_words word.Return at there refl refl refl refl refl
      (behind_return t simple_form at there
      (record { is = one_reading t (behind_return t refuse at there (runs t (make (λ value. tree.Return value (pos_at t at)) optional_value_form) (at + 1))) r }))

  pub of_yield : (at : ℕ) → kind_at t.list.now at ≡ Some (token.Word word.Yield) → {v : Reading Stmt} → Runs t (leave_or refuse) at v → Runs t stmt_form at v
  of_yield at there r =
      after_words word.Yield at there refl refl refl refl refl
      (behind_yield t simple_form at there
      (record { is = one_reading t (behind_yield t refuse at there (runs t (make (λ value. tree.Yield value (pos_at t at)) optional_value_form) (at + 1))) r }))

  pub of_quit : (at : ℕ) → kind_at t.list.now at ≡ Some (token.Word word.Quit) → {v : Reading Stmt} → Runs t (leave_or refuse) at v → Runs t stmt_form at v
  of_quit at there r =
      after_words word.Quit at there refl refl refl refl refl
      (record { is = (quits t simple_form at there).is ∙ one_reading t (quits t refuse at there) r })

  pub of_raise : (at : ℕ) → kind_at t.list.now at ≡ Some (token.Word word.Raise) → {v : Reading Stmt} → Runs t (leave_or refuse) at v → Runs t stmt_form at v
  of_raise at there r =
      after_words word.Raise at there refl refl refl refl refl
      (behind_raise t simple_form at there
      (record { is = one_reading t (behind_raise t refuse at there (runs t (make (λ e. tree.Raise e (pos_at t at)) value_form) (at + 1))) r }))

  pub of_assert : (at : ℕ) → kind_at t.list.now at ≡ Some (token.Word word.Assert) → {v : Reading Stmt} → Runs t (leave_or refuse) at v → Runs t stmt_form at v
  of_assert at there r =
      after_words word.Assert at there refl refl refl refl refl
      (behind_assert t simple_form at there
      (record { is = one_reading t (behind_assert t refuse at there (runs t (make (λ e. tree.Assert e (pos_at t at)) value_form) (at + 1))) r }))

  -- the words that a statement begins with which leaves
  pub data Leaves : Word → Type 0 where
    by_return : Leaves word.Return
    by_yield : Leaves word.Yield
    by_quit : Leaves word.Quit
    by_raise : Leaves word.Raise
    by_assert : Leaves word.Assert

  pub leaves : (w : Word) → (w ≡ word.Return) ⊎ ((w ≡ word.Yield) ⊎ ((w ≡ word.Quit) ⊎ ((w ≡ word.Raise) ⊎ (w ≡ word.Assert)))) → Leaves w
  leaves w (inl is) = rw is by_return
  leaves w (inr (inl is)) = rw is by_yield
  leaves w (inr (inr (inl is))) = rw is by_quit
  leaves w (inr (inr (inr (inl is)))) = rw is by_raise
  leaves w (inr (inr (inr (inr is)))) = rw is by_assert

  pub of_leave : (w : Word) (at : ℕ) → Leaves w → kind_at t.list.now at ≡ Some (token.Word w) → {v : Reading Stmt} → Runs t (leave_or refuse) at v → Runs t stmt_form at v
  of_leave _ at by_return there r = of_return at there r
  of_leave _ at by_yield there r = of_yield at there r
  of_leave _ at by_quit there r = of_quit at there r
  of_leave _ at by_raise there r = of_raise at there r
  of_leave _ at by_assert there r = of_assert at there r

  pub of_simple : (at : ℕ) → kind_at t.list.now at ≢ Some (token.Word word.If) → kind_at t.list.now at ≢ Some (token.Word word.Loop)
      → kind_at t.list.now at ≢ Some (token.Word word.Case) → kind_at t.list.now at ≢ Some (token.Word word.Typecase) → kind_at t.list.now at ≢ Some (token.Word word.Protect)
      → kind_at t.list.now at ≢ Some (token.Word word.Return) → kind_at t.list.now at ≢ Some (token.Word word.Yield)
      → kind_at t.list.now at ≢ Some (token.Word word.Quit) → kind_at t.list.now at ≢ Some (token.Word word.Raise) → kind_at t.list.now at ≢ Some (token.Word word.Assert)
      → {v : Reading Stmt} → Runs t simple_form at v → Runs t stmt_form at v
  unfolding stmt_form
  of_simple at no_if no_loop no_case no_typecase no_protect no_return no_yield no_quit no_raise no_assert r =
      not_met t (shut_word t word.If at no_if) (not_met t (shut_word t word.Loop at no_loop) (not_met t (shut_word t word.Case at no_case)
      (not_met t (shut_word t word.Typecase at no_typecase) (not_met t (shut_word t word.Protect at no_protect)
      (stays t simple_form at no_return no_yield no_quit no_raise no_assert r)))))
