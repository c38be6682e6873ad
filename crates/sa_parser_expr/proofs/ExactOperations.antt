-- Operators and what is between them, as their forms read it: a lemma for each alternative that a reader decides by a token.
use Rattle.std.proofs.Common.{◌≡◌, ◌≢◌, ℕ, ◌+◌, List, Option, Some, None, Result, Ok, Err, refl, sym, ap, ◌∙◌}
use Rattle.std.specs.Option.{option_and_then}
use Rattle.std.specs.Prelude.{is_some}
use Rattle.sa_lexer.specs.declared.token.TokenKind.{TokenKind}
use Rattle.sa_lexer.specs.declared.token.TokenKind.TheVariants as token
use Rattle.sa_lexer.specs.declared.sign.Sign.TheVariants as sign
use Rattle.sa_ast.specs.declared.expr.Expr.{Expr}
use Rattle.sa_ast.specs.declared.expr.Expr.TheVariants as tree
use Rattle.sa_ast.specs.declared.expr.Operator.{Operator}
use Rattle.sa_ast.specs.declared.expr.Operator.TheVariants.{Pow}
use Rattle.sa_ast.specs.declared.pos.Pos.{Pos}
use Rattle.sa_ast.specs.declared.refusal.Rejection.{Rejection}
use Rattle.sa_parser_expr.specs.declared.grammar.ConditionScope.{ConditionScope}
use Rattle.sa_parser_expr.specs.declared.operators.Precedence.{Precedence}
use Rattle.sa_parser_expr.specs.declared.operators.Precedence.TheVariants.{Logical, Comparing, Adding, Multiplying}
use Rattle.sa_parser_expr.specs.declared.tokens.Tokens.{Tokens}
use Rattle.sa_parser_expr.specs.Enclosures.{Where}
use Rattle.sa_parser_expr.specs.Exactly.{lexemes_from, Takes, ReadsAs, operators_of, operator_at, operation_of, operand_of}
use Rattle.sa_parser_expr.specs.ExpressionForms.{post_form, power_form, unary_form, operation_form, product_form, sum_form, comparison_form, expr_form}
use Rattle.sa_parser_expr.specs.Forms.{Form, make, nest, unary, power}
use Rattle.sa_parser_expr.specs.Grammar.{form_of}
use Rattle.sa_parser_expr.specs.Lexemes.{Lexeme, lexeme_at}
use Rattle.sa_parser_expr.specs.Positions.{kind_at}
use Rattle.sa_parser_expr.specs.Readings.{Reading, Read, Refused}
use Rattle.sa_parser_expr.specs.Tests.{prefix_kind, or_any, is_operator, operator_of}
use Rattle.sa_parser_expr.proofs.Runs.{Runs, Turns, taken, takes, handed_on, gives, met, not_met, follows, stops, makes, nests, shut_by, shut_sign, no_turn, next_turn, turn_refused, all_turned}
use Rattle.sa_parser_expr.proofs.Shifts.{Shut}
use Rattle.sa_parser_expr.proofs.Stretches.{pos_at}
use Rattle.sa_parser_expr.proofs.Tested.{sign_is}

-- what an operation makes of the AST so far, of an operator and of the operand after it
abbrev operand_behind : (TokenKind → Option Operator) → Form Expr → Expr → Lexeme → Form Expr
operand_behind operators operand a o = make (λ b. tree.Binary (operator_of operators o) a b o.pos) operand

module _ (t : Tokens) where
  -- ---- operators by what is at an index

  -- one of these is there
  pub record Operates (operators : TokenKind → Option Operator) (at : ℕ) (op : Operator) : Type 0 where
    pub kind : TokenKind
    pub there : kind_at t.list.now at ≡ Some kind
    pub which : operators kind ≡ Some op

  by_kind : (operators : TokenKind → Option Operator) (at : ℕ) (op : Operator) (there : Option TokenKind) → kind_at t.list.now at ≡ there
      → Some op ≡ option_and_then operators there → Operates operators at op
  by_kind operators at op None occurs h = absurd (cc)
  by_kind operators at op (Some kind) occurs h = record { kind = kind; there = occurs; which = sym h }

  pub operates : (operators : TokenKind → Option Operator) (at : ℕ) (op : Operator) → Some op ≡ operator_at operators t at → Operates operators at op
  operates operators at op h = by_kind operators at op (kind_at t.list.now at) refl h

  pub no_operator : (operators : TokenKind → Option Operator) (at : ℕ) → None ≡ operator_at operators t at
      → Shut (is_operator operators) (lexemes_from t at)
  no_operator operators at h =
      shut_by t (is_operator operators) at (λ kind there. ap is_some (sym (ap (option_and_then operators) there) ∙ sym h))

  -- ---- operations, of any operators and operands

  module _ (operators : TokenKind → Option Operator) (operand : Form Expr) where
    -- what was read of an operation up to an index: an operand, and iterations of an operator and one more
    pub record Operated (from : ℕ) (so_far : Expr) (next : ℕ) : Type 0 where
      pub first : Expr
      pub mid : ℕ
      pub begun : Runs t operand from (Read first (lexemes_from t mid))
      pub turns : Turns t (is_operator operators) (operand_behind operators operand) first mid so_far next

    pub first_operand : {from next : ℕ} {a : Expr} → Takes operand t from a next → Operated from a next
    first_operand {next = next} {a = a} h = record {
      first = a;
      mid = next;
      begun = taken t h;
      turns = no_turn t (is_operator operators) (operand_behind operators operand) a next;
    }

    -- after an operator, with what it makes
    step : {mid : ℕ} {op : Operator} (a : Expr) (o : Operates operators mid op) {v : Reading Expr}
        → Runs t (make (λ b. tree.Binary op a b (pos_at t mid)) operand) (mid + 1) v
        → Runs t (operand_behind operators operand a (lexeme_at t mid o.kind)) (mid + 1) v
    step a o r = rw (ap or_any o.which) r

    pub next_operand : {from mid next : ℕ} {op : Operator} {a b e : Expr} → Operated from a mid → Operates operators mid op
        → Takes operand t (mid + 1) b next → e ≡ tree.Binary op a b (pos_at t mid) → Operated from e next
    next_operand {next = next} {a = a} begun o h made = record {
      first = begun.first;
      mid = begun.mid;
      begun = begun.begun;
      turns = rw made
          (next_turn t (is_operator operators) (operand_behind operators operand) begun.turns o.kind o.there (ap is_some o.which)
          (step a o (makes t next (taken t h))));
    }

    all_operands : {from next : ℕ} {a : Expr} → Operated from a next → Shut (is_operator operators) (lexemes_from t next)
        → Runs t (operation_form operators operand) from (Read a (lexemes_from t next))
    unfolding operation_form
    all_operands begun other =
        follows t begun.begun (all_turned t (is_operator operators) (operand_behind operators operand) begun.turns other)

    first_operand_refused : {from : ℕ} {rest : List Lexeme} → Runs t operand from (Refused rest)
        → Runs t (operation_form operators operand) from (Refused rest)
    unfolding operation_form
    first_operand_refused r = stops t r

    next_operand_refused : {from mid : ℕ} {op : Operator} {a : Expr} {rest : List Lexeme} → Operated from a mid → Operates operators mid op
        → Runs t operand (mid + 1) (Refused rest) → Runs t (operation_form operators operand) from (Refused rest)
    unfolding operation_form
    next_operand_refused {a = a} begun o r =
        follows t begun.begun
        (turn_refused t (is_operator operators) (operand_behind operators operand) begun.turns o.kind o.there (ap is_some o.which)
        (step a o (stops t r)))

  -- ---- operations of each precedence

  -- what was read up to an index of an operation of this precedence
  abbrev pub OperatedBy : Precedence → ConditionScope → Where → ℕ → Expr → ℕ → Type 0
  OperatedBy p s x from so_far next = Operated (operators_of p) (operand_of p s x) from so_far next

  -- an operation of a precedence is one of its operators and operands
  of_precedence : (p : Precedence) (s : ConditionScope) (x : Where) {at : ℕ} {v : Reading Expr}
      → Runs t (operation_form (operators_of p) (operand_of p s x)) at v → Runs t (operation_of p s x) at v
  unfolding expr_form comparison_form sum_form product_form
  of_precedence Logical s x r = r
  of_precedence Comparing s x r = r
  of_precedence Adding s x r = r
  of_precedence Multiplying s x r = r

  pub all_operated : (p : Precedence) (s : ConditionScope) (x : Where) {from next : ℕ} {a : Expr} → OperatedBy p s x from a next
      → None ≡ operator_at (operators_of p) t next → Takes (operation_of p s x) t from a next
  all_operated p s x {next = next} begun other =
      takes t (of_precedence p s x (all_operands (operators_of p) (operand_of p s x) begun (no_operator (operators_of p) next other)))

  pub no_first_operand : (p : Precedence) (s : ConditionScope) (x : Where) {from : ℕ} {rest : List Lexeme}
      → Runs t (operand_of p s x) from (Refused rest) → Runs t (operation_of p s x) from (Refused rest)
  no_first_operand p s x r = of_precedence p s x (first_operand_refused (operators_of p) (operand_of p s x) r)

  pub no_next_operand : (p : Precedence) (s : ConditionScope) (x : Where) {from mid : ℕ} {op : Operator} {a : Expr} {rest : List Lexeme}
      → OperatedBy p s x from a mid → Operates (operators_of p) mid op → Runs t (operand_of p s x) (mid + 1) (Refused rest)
      → Runs t (operation_of p s x) from (Refused rest)
  no_next_operand p s x begun o r = of_precedence p s x (next_operand_refused (operators_of p) (operand_of p s x) begun o r)

  -- ---- operators before an operand

  -- a form that reads what another one does
  as_another : {A : Type 0} {one other : Form A} {at : ℕ} → ((v : Reading A) → Runs t one at v → Runs t other at v)
      → (r : Result (A × ℕ) Rejection) → ReadsAs one t at r → ReadsAs other t at r
  as_another same (Ok read) h = takes t (same (Read read.0 (lexemes_from t read.1)) (taken t h))
  as_another {one = one} {at = at} same (Err e) h = handed_on t one at e refl h (λ rest r. same (Refused rest) r)

  pub behind_prefix : (s : ConditionScope) (x : Where) (at : ℕ) {op : Operator} → Operates prefix_kind at op → {v : Reading Expr}
      → Runs t (make (λ e. tree.Unary op e (pos_at t at)) (nest (unary s x))) (at + 1) v → Runs t (unary_form s x) at v
  unfolding unary_form
  behind_prefix s x at o r = met t o.kind o.there (ap is_some o.which) (rw (ap or_any o.which) r)

  without_prefix : (s : ConditionScope) (x : Where) (at : ℕ) → None ≡ operator_at prefix_kind t at → {v : Reading Expr}
      → Runs t (power_form s x) at v → Runs t (unary_form s x) at v
  unfolding unary_form
  without_prefix s x at none r = not_met t (no_operator prefix_kind at none) r

  pub as_power : (s : ConditionScope) (x : Where) (at : ℕ) → None ≡ operator_at prefix_kind t at → (r : Result (Expr × ℕ) Rejection)
      → ReadsAs (power_form s x) t at r → ReadsAs (unary_form s x) t at r
  as_power s x at none r h = as_another (λ v runs. without_prefix s x at none runs) r h

  pub nested_unary : (s : ConditionScope) (x : Where) {at : ℕ} {v : Reading Expr} → Runs t (unary_form s x) at v → Runs t (nest (unary s x)) at v
  unfolding form_of
  nested_unary s x r = nests t (unary s x) r

  pub prefixed : (s : ConditionScope) (x : Where) (at next : ℕ) (op : Operator) (e boxed : Expr) (pos : Pos)
      → Some op ≡ operator_at prefix_kind t at → Takes (unary_form s x) t (at + 1) e next → boxed ≡ e → pos ≡ pos_at t at
      → Takes (unary_form s x) t at (tree.Unary op boxed pos) next
  prefixed s x at next op e boxed pos there inside same occurs =
      rw (same, occurs)
      (takes t (behind_prefix s x at (operates prefix_kind at op there) (makes t next (nested_unary s x (taken t inside)))))

  -- ---- powers

  pub nested_power : (s : ConditionScope) (x : Where) {at : ℕ} {v : Reading Expr} → Runs t (power_form s x) at v → Runs t (nest (power s x)) at v
  unfolding form_of
  nested_power s x r = nests t (power s x) r

  pub no_base : (s : ConditionScope) (x : Where) {from : ℕ} {rest : List Lexeme} → Runs t (post_form s x) from (Refused rest)
      → Runs t (power_form s x) from (Refused rest)
  unfolding power_form
  no_base s x r = stops t r

  pub not_raised : (s : ConditionScope) (x : Where) (from next : ℕ) (a : Expr) → Takes (post_form s x) t from a next
      → kind_at t.list.now next ≢ Some (token.Sign sign.Caret) → Takes (power_form s x) t from a next
  unfolding power_form
  not_raised s x from next a base other = takes t (follows t (taken t base) (not_met t (shut_sign t sign.Caret next other) (gives t)))

  pub behind_caret : (s : ConditionScope) (x : Where) (from mid : ℕ) (a : Expr) → Takes (post_form s x) t from a mid
      → kind_at t.list.now mid ≡ Some (token.Sign sign.Caret) → {v : Reading Expr}
      → Runs t (make (λ b. tree.Binary Pow a b (pos_at t mid)) (nest (power s x))) (mid + 1) v → Runs t (power_form s x) from v
  unfolding power_form
  behind_caret s x from mid a base caret r = follows t (taken t base) (met t (token.Sign sign.Caret) caret (sign_is sign.Caret) r)

  pub raised : (s : ConditionScope) (x : Where) (from mid next : ℕ) (a b e : Expr) → Takes (post_form s x) t from a mid
      → kind_at t.list.now mid ≡ Some (token.Sign sign.Caret) → Takes (power_form s x) t (mid + 1) b next
      → e ≡ tree.Binary Pow a b (pos_at t mid) → Takes (power_form s x) t from e next
  raised s x from mid next a b e base caret exponent made =
      rw made (takes t (behind_caret s x from mid a base caret (makes t next (nested_power s x (taken t exponent)))))
