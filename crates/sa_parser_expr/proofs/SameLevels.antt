-- Two levels greater than the number of lexemes read the same.
use Rattle.std.proofs.Common.{◌≡◌, ℕ, zero, suc, ◌<◌, ◌≤◌, Bool, true, false, cond, List, [], ◌∷◌, length, refl, ap, ◌∙◌, arith, Option}
use Rattle.sa_lexer.specs.declared.token.TokenKind.{TokenKind}
use Rattle.sa_ast.specs.declared.expr.Operator.{Operator}
use Rattle.sa_ast.specs.declared.expr.Expr.{Expr}
use Rattle.sa_parser_expr.specs.Lexemes.{Lexeme}
use Rattle.sa_parser_expr.specs.Enclosures.{Where, outside, in_array}
use Rattle.sa_parser_expr.specs.Readings.{Reading, Read, Refused}
use Rattle.sa_parser_expr.specs.Tests.{logical_kind, comparing_kind, adding_kind, multiplying_kind}
use Rattle.sa_parser_expr.specs.Forms.{Form, give, refuse, shift, either, follow, separated, repeat, placed, nest, type, expr, unary, power, post, stmts, opens}
use Rattle.sa_parser_expr.specs.Forms.{Reader, following, with_read, pos_of, listed, repeated, run, Nested, Ast}
use Rattle.sa_parser_expr.specs.TypeForms.{type_form}
use Rattle.sa_parser_expr.specs.ExpressionForms.{first_form, items_or, result_or, class_call_form, placed_post_form, post_form, power_form, unary_form}
use Rattle.sa_parser_expr.specs.ExpressionForms.{operation_form, product_form, sum_form, comparison_form, expr_form}
use Rattle.sa_parser_expr.specs.StatementForms.{assign_form, simple_form, stmt_form, optional_stmt_form, stmts_form}
use Rattle.sa_parser_expr.specs.Grammar.{form_of, nested_to}
use Rattle.sa_parser_expr.proofs.Shorter.{NoLonger, NoLonger-run, behind_one}
use Rattle.sa_parser_expr.specs.declared.grammar.ConditionScope.{ConditionScope}
use Rattle.sa_parser_expr.specs.declared.grammar.ConditionScope.TheVariants.{Plain, PostClause}

-- ---- readers that read the same of lists of less than so many lexemes

pub cond-both : {A : Type 0} (b : Bool) {x y z w : A} → x ≡ y → z ≡ w → cond b x z ≡ cond b y w
cond-both true e f = e
cond-both false e f = f

following-same : {A B : Type 0} (go other : A → Reader B) (ls : List Lexeme) (v : Reading A) → NoLonger ls v
    → ((a : A) (ms : List Lexeme) → length ms ≤ length ls → go a ms ≡ other a ms) → following go v ≡ following other v
following-same go other ls (Read a mid) h e = e a mid h
following-same go other ls (Refused rest) h e = refl

module _ {A : Type 0} (most : ℕ) (test : Lexeme → Bool) (item other : Reader A) (short : (ls : List Lexeme) → NoLonger ls (item ls)) (each : (ls : List Lexeme) → length ls < most → item ls ≡ other ls) where
  behind_one-same : (f g : ℕ) (a : A) (size : ℕ) → ((ms : List Lexeme) → length ms < size → listed f test item ms ≡ listed g test other ms) → (ms : List Lexeme) → length ms ≤ size
      → behind_one f test item a ms ≡ behind_one g test other a ms
  behind_one-same f g a size e [] h = refl
  behind_one-same f g a size e (l ∷ ms) h = cond-both (test l) (ap (with_read (λ others. a ∷ others)) (e ms (omega arith))) refl

  pub listed-same : (f g : ℕ) (ls : List Lexeme) → length ls < most → length ls < f → length ls < g → listed f test item ls ≡ listed g test other ls
  listed-same zero g ls h i j = absurd (omega arith)
  listed-same (suc f) zero ls h i j = absurd (omega arith)
  listed-same (suc f) (suc g) ls h i j =
      following-same (behind_one f test item) (behind_one g test other) ls (item ls) (short ls)
      (λ a ms le. behind_one-same f g a (length ls) (λ ms lt. listed-same f g ms (omega arith) (omega arith) (omega arith)) ms le)
      ∙ ap (following (behind_one g test other)) (each ls h)

  -- where the first one is the same, of one lexeme more
  listed-first : (f g : ℕ) (ls : List Lexeme) → item ls ≡ other ls → length ls ≤ most → length ls ≤ f → length ls ≤ g → listed (suc f) test item ls ≡ listed (suc g) test other ls
  listed-first f g ls first h i j =
      following-same (behind_one f test item) (behind_one g test other) ls (item ls) (short ls)
      (λ a ms le. behind_one-same f g a (length ls) (λ ms lt. listed-same f g ms (omega arith) (omega arith) (omega arith)) ms le)
      ∙ ap (following (behind_one g test other)) first

module _ {A : Type 0} (most : ℕ) (test : Lexeme → Bool) (step other : A → Lexeme → Reader A) (short : (a : A) (l : Lexeme) (ls : List Lexeme) → NoLonger ls (step a l ls))
    (each : (a : A) (l : Lexeme) (ls : List Lexeme) → length ls < most → step a l ls ≡ other a l ls) where
  pub repeated-same : (f g : ℕ) (a : A) (ls : List Lexeme) → length ls ≤ most → length ls < f → length ls < g → repeated f test step a ls ≡ repeated g test other a ls
  repeated-same zero g a ls h i j = absurd (omega arith)
  repeated-same (suc f) zero a ls h i j = absurd (omega arith)
  repeated-same (suc f) (suc g) a [] h i j = refl
  repeated-same (suc f) (suc g) a (l ∷ ls) h i j =
      cond-both (test l)
      (following-same (repeated f test step) (repeated g test other) ls (step a l ls) (short a l ls) (λ b ms le. repeated-same f g b ms (omega arith) (omega arith) (omega arith))
      ∙ ap (following (repeated g test other)) (each a l ls (omega arith)))
      refl

-- the first lexeme is taken before a production nests
abbrev Guarded : {A : Type 0} → Form A → Type 0
Guarded (give a) = Unit {0}
Guarded refuse = Unit {0}
Guarded (shift test go other) = Guarded other
Guarded (either one other) = Guarded one × Guarded other
Guarded (follow {A = A} first next) = Guarded first × ((a : A) → Guarded (next a))
Guarded (separated test item) = Guarded item
Guarded (repeat test step a) = Unit {0}
Guarded (placed form) = Guarded form
Guarded (nest n) = ⊥

module _ (most m n : ℕ) (below_m : most ≤ m) (below_n : most ≤ n) (M N : (x : Nested) → Reader (Ast x))
    (short : (x : Nested) (ls : List Lexeme) → NoLonger ls (M x ls)) (below : (x : Nested) (ls : List Lexeme) → length ls < most → M x ls ≡ N x ls) where
  run-same : {A : Type 0} (form : Form A) (ls : List Lexeme) → length ls < most → run m M form ls ≡ run n N form ls
  run-same (give a) ls h = refl
  run-same refuse ls h = refl
  run-same (shift test go other) [] h = run-same other [] h
  run-same (shift test go other) (l ∷ ls) h = cond-both (test l) (run-same (go l) ls (omega arith)) (run-same other (l ∷ ls) h)
  run-same (either one other) [] h = run-same other [] h
  run-same (either one other) (l ∷ ls) h = cond-both (opens one l) (run-same one (l ∷ ls) h) (run-same other (l ∷ ls) h)
  run-same (follow first next) ls h =
      following-same (λ a. run m M (next a)) (λ a. run n N (next a)) ls (run m M first ls) (NoLonger-run m M short first ls) (λ a ms le. run-same (next a) ms (omega arith))
      ∙ ap (following (λ a. run n N (next a))) (run-same first ls h)
  run-same (separated test item) ls h =
      listed-same most test (run m M item) (run n N item) (λ ms. NoLonger-run m M short item ms) (λ ms lt. run-same item ms lt) (suc m) (suc n) ls h (omega arith) (omega arith)
  run-same (repeat test step a) ls h =
      repeated-same most test (λ tree l. run m M (step tree l)) (λ tree l. run n N (step tree l)) (λ tree l ms. NoLonger-run m M short (step tree l) ms)
      (λ tree l ms lt. run-same (step tree l) ms lt) (suc m) (suc n) a ls (omega arith) (omega arith) (omega arith)
  run-same (placed form) ls h = ap (following (λ a more. Read (pos_of ls, a) more)) (run-same form ls h)
  run-same (nest x) ls h = below x ls h

  -- a guarded form may have one lexeme more
  guarded-same : {A : Type 0} (form : Form A) → Guarded form → (ls : List Lexeme) → length ls ≤ most → run m M form ls ≡ run n N form ls
  guarded-same (give a) g ls h = refl
  guarded-same refuse g ls h = refl
  guarded-same (shift test go other) g [] h = guarded-same other g [] h
  guarded-same (shift test go other) g (l ∷ ls) h = cond-both (test l) (run-same (go l) ls (omega arith)) (guarded-same other g (l ∷ ls) h)
  guarded-same (either one other) g [] h = guarded-same other g.1 [] h
  guarded-same (either one other) g (l ∷ ls) h = cond-both (opens one l) (guarded-same one g.0 (l ∷ ls) h) (guarded-same other g.1 (l ∷ ls) h)
  guarded-same (follow first next) g ls h =
      following-same (λ a. run m M (next a)) (λ a. run n N (next a)) ls (run m M first ls) (NoLonger-run m M short first ls) (λ a ms le. guarded-same (next a) (g.1 a) ms (omega arith))
      ∙ ap (following (λ a. run n N (next a))) (guarded-same first g.0 ls h)
  guarded-same (separated test item) g ls h =
      listed-first most test (run m M item) (run n N item) (λ ms. NoLonger-run m M short item ms) (λ ms lt. run-same item ms lt) m n ls (guarded-same item g ls h) h (omega arith) (omega arith)
  guarded-same (repeat test step a) g ls h =
      repeated-same most test (λ tree l. run m M (step tree l)) (λ tree l. run n N (step tree l)) (λ tree l ms. NoLonger-run m M short (step tree l) ms)
      (λ tree l ms lt. run-same (step tree l) ms lt) (suc m) (suc n) a ls h (omega arith) (omega arith)
  guarded-same (placed form) g ls h = ap (following (λ a more. Read (pos_of ls, a) more)) (guarded-same form g ls h)
  guarded-same (nest x) g ls h = absurd g

-- ---- the productions that nest

guarded_type : Guarded type_form
unfolding type_form
guarded_type = tt

guarded_first : (s : ConditionScope) (x : Where) → Guarded (first_form s x)
unfolding first_form items_or result_or class_call_form
guarded_first Plain outside = (guarded_type, λ t. tt)
guarded_first Plain in_array = (guarded_type, λ t. tt)
guarded_first PostClause outside = (guarded_type, λ t. tt)
guarded_first PostClause in_array = (guarded_type, λ t. tt)

guarded_post : (s : ConditionScope) (x : Where) → Guarded (post_form s x)
unfolding post_form placed_post_form
guarded_post s x = ((guarded_first s x, λ so_far. tt), λ whole. tt)

guarded_power : (s : ConditionScope) (x : Where) → Guarded (power_form s x)
unfolding power_form
guarded_power s x = (guarded_post s x, λ a. tt)

guarded_unary : (s : ConditionScope) (x : Where) → Guarded (unary_form s x)
unfolding unary_form
guarded_unary s x = guarded_power s x

guarded_operation : (operators : TokenKind → Option Operator) (operand : Form Expr) → Guarded operand → Guarded (operation_form operators operand)
unfolding operation_form
guarded_operation operators operand h = (h, λ a. tt)

guarded_expr : (s : ConditionScope) (x : Where) → Guarded (expr_form s x)
unfolding expr_form comparison_form sum_form product_form
guarded_expr s x =
    guarded_operation logical_kind (comparison_form s x) (guarded_operation comparing_kind (sum_form s x)
    (guarded_operation adding_kind (product_form s x) (guarded_operation multiplying_kind (unary_form s x) (guarded_unary s x))))

guarded_assign : (a : Expr) → Guarded (assign_form a)
unfolding assign_form
guarded_assign a = tt

guarded_stmts : Guarded stmts_form
unfolding stmts_form optional_stmt_form stmt_form simple_form
guarded_stmts = ((((guarded_expr Plain outside, λ a. guarded_assign a), λ s. tt), tt), λ all. tt)

guarded : (x : Nested) → Guarded (form_of x)
unfolding form_of
guarded type = guarded_type
guarded (expr s x) = guarded_expr s x
guarded (unary s x) = guarded_unary s x
guarded (power s x) = guarded_power s x
guarded (post s x) = guarded_post s x
guarded stmts = guarded_stmts

pub short_to : (n : ℕ) (x : Nested) (ls : List Lexeme) → NoLonger ls (nested_to n x ls)
unfolding nested_to
short_to zero x ls = omega arith
short_to (suc n) x ls = NoLonger-run n (nested_to n) (short_to n) (form_of x) ls

pub levels_same : (most m n : ℕ) → most ≤ m → most ≤ n → (x : Nested) (ls : List Lexeme) → length ls < most → nested_to m x ls ≡ nested_to n x ls
unfolding nested_to
levels_same zero m n h i x ls lt = absurd (omega arith)
levels_same (suc most) zero n h i x ls lt = absurd (omega arith)
levels_same (suc most) (suc m) zero h i x ls lt = absurd (omega arith)
levels_same (suc most) (suc m) (suc n) h i x ls lt =
    guarded-same most m n (omega arith) (omega arith) (nested_to m) (nested_to n) (short_to m) (levels_same most m n (omega arith) (omega arith)) (form_of x) (guarded x) ls (omega arith)

pub forms_same : (most m n : ℕ) → most ≤ m → most ≤ n → {A : Type 0} (form : Form A) (ls : List Lexeme) → length ls < most → run m (nested_to m) form ls ≡ run n (nested_to n) form ls
forms_same most m n h i form ls lt = run-same most m n h i (nested_to m) (nested_to n) (short_to m) (levels_same most m n h i) form ls lt
