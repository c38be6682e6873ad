-- The forms of what follows a first, and of operators, are complete.
use Rattle.std.proofs.Common.{◌≡◌, ℕ, suc, ◌+◌, ◌<◌, Bool, true, false, ◌||◌, is_some, List, [], ◌∷◌, ◌++◌, length, refl, sym, ap, arith, length-append, Option, Some}
use Rattle.std.proofs.lemmas.Bool.{or_left, or_right}
use Rattle.sa_lexer.specs.declared.token.TokenKind.{TokenKind}
use Rattle.sa_lexer.specs.declared.sign.Sign.TheVariants as sign
use Rattle.sa_ast.specs.declared.pos.Pos.{Pos}
use Rattle.sa_ast.specs.declared.expr.Operator.{Operator}
use Rattle.sa_ast.specs.declared.expr.ExprReceiver.TheVariants.{Of}
use Rattle.sa_ast.specs.declared.expr.Expr.{Expr}
use Rattle.sa_ast.specs.declared.expr.Expr.TheVariants as tree
use Rattle.sa_parser_expr.specs.declared.grammar.ConditionScope.{ConditionScope}
use Rattle.sa_parser_expr.specs.Lexemes.{Lexeme, IsSign}
use Rattle.sa_parser_expr.specs.Expressions as exprs
use Rattle.sa_parser_expr.specs.Expressions.{IsCall, IsExprs, IsPost, IsPower, IsUnary, IsOperator, IsOperand, IsOperation, IsExpr}
use Rattle.sa_parser_expr.specs.Enclosures.{Enclosure, Where, outside, enclosure_of}
use Rattle.sa_parser_expr.specs.Readings.{Read}
use Rattle.sa_parser_expr.specs.Tests.{is_sign, is_sign_kind, or_any, is_operator, operator_of}
use Rattle.sa_parser_expr.specs.Forms.{Form, placed, make, Reader, pos_of, Nested, Ast, unary, power}
use Rattle.sa_parser_expr.specs.ExpressionForms.{first_form, goes_on, going_form, placed_post_form, post_form, power_form, unary_form}
use Rattle.sa_parser_expr.specs.ExpressionForms.{operation_form, product_form, sum_form, comparison_form, expr_form}
use Rattle.sa_parser_expr.proofs.Tested.{sign_met, other_sign}
use Rattle.sa_grammar.proofs.Sound.{place_of_front}
use Rattle.sa_grammar.proofs.Complete.{Reads, reads-give, reads-met, reads-other, reads-follow, reads-make, reads-placed, reads-as, reads-joined}
use Rattle.sa_grammar.proofs.Complete.{Gathers, gathers-first, gathers-more, reads-gathered}
use Rattle.sa_grammar.proofs.Operators.{Precedence, Logical, Comparing, Adding, Multiplying, AreOperators, prefix_met}
use Rattle.sa_grammar.proofs.Operators.{logical_operators, comparing_operators, adding_operators, multiplying_operators}
use Rattle.sa_grammar.proofs.ExpressionStarts.{power_starts, prefix_shut}
use Rattle.sa_grammar.proofs.ExpressionEnds.{Ends, after_first, goes_on_kind, after_post, after_power, after_product, after_sum, after_comparison, after_expr}
use Rattle.sa_grammar.proofs.ExpressionEnds.{ends_left, ends_right, kind_ends, first_shuts_paren}
use Rattle.sa_grammar.proofs.ExpressionsSound.{Spells, post_some}
use Rattle.sa_grammar.proofs.ExpressionsComplete.{EndsOf, nest_read, call_read, places_read, first_read}

-- the operators of a precedence don't continue their operands
multiplying_ends : (op : Operator) (o : Lexeme) → IsOperator Multiplying op o → (rest : List Lexeme) → Ends after_power (o ∷ rest)
multiplying_ends op o (exprs.multiplying (exprs.star is)) rest = kind_ends after_power o rest is.kind refl
multiplying_ends op o (exprs.multiplying (exprs.slash is)) rest = kind_ends after_power o rest is.kind refl
multiplying_ends op o (exprs.multiplying (exprs.percent is)) rest = kind_ends after_power o rest is.kind refl

adding_ends : (op : Operator) (o : Lexeme) → IsOperator Adding op o → (rest : List Lexeme) → Ends after_product (o ∷ rest)
adding_ends op o (exprs.adding (exprs.plus is)) rest = kind_ends after_product o rest is.kind refl
adding_ends op o (exprs.adding (exprs.minus is)) rest = kind_ends after_product o rest is.kind refl

comparing_ends : (op : Operator) (o : Lexeme) → IsOperator Comparing op o → (rest : List Lexeme) → Ends after_sum (o ∷ rest)
comparing_ends op o (exprs.comparing (exprs.equal is)) rest = kind_ends after_sum o rest is.kind refl
comparing_ends op o (exprs.comparing (exprs.not_equal is)) rest = kind_ends after_sum o rest is.kind refl
comparing_ends op o (exprs.comparing (exprs.less is)) rest = kind_ends after_sum o rest is.kind refl
comparing_ends op o (exprs.comparing (exprs.less_equal is)) rest = kind_ends after_sum o rest is.kind refl
comparing_ends op o (exprs.comparing (exprs.greater is)) rest = kind_ends after_sum o rest is.kind refl
comparing_ends op o (exprs.comparing (exprs.greater_equal is)) rest = kind_ends after_sum o rest is.kind refl

logical_ends : (op : Operator) (o : Lexeme) → IsOperator Logical op o → (rest : List Lexeme) → Ends after_comparison (o ∷ rest)
logical_ends op o (exprs.logical (exprs.and_word is)) rest = kind_ends after_comparison o rest is.kind refl
logical_ends op o (exprs.logical (exprs.or_word is)) rest = kind_ends after_comparison o rest is.kind refl

module _ (level : ℕ) (nested : (n : Nested) → Reader (Ast n))
    (inside : (n : Nested) (ls : List Lexeme) (t : Ast n) (rest : List Lexeme) → Spells n ls t → length ls < level → EndsOf n rest → nested n (ls ++ rest) ≡ Read t rest) where
  -- ---- what follows a first

  call_goes : {s : ConditionScope} (b : Bool) → b ≡ true → (place : Pos) (a : Expr) {ms : List Lexeme} {e : Expr} (rest : List Lexeme) → IsCall s (Of a) ms e → length ms < suc level
      → Ends after_first rest → Reads level nested (going_form b s (place, a)) (ms ++ rest) (place, e) rest
  unfolding going_form
  call_goes false is place a rest called small ends = absurd (cc)
  call_goes true is place a rest called small ends = reads-make (call_read level nested inside rest called small (first_shuts_paren rest ends))

  index_goes : {s : ConditionScope} (b : Bool) → b ≡ false → (place : Pos) (a : Expr) {ms : List Lexeme} {places : List Expr} (closed : Lexeme) (rest : List Lexeme)
      → IsExprs s (enclosure_of outside) ms places → IsSign sign.RightBracket closed → length (ms ++ closed ∷ []) < level
      → Reads level nested (going_form b s (place, a)) ((ms ++ closed ∷ []) ++ rest) (place, tree.Index (Some a) places place) rest
  unfolding going_form
  index_goes true is place a closed rest among closes small = absurd (cc)
  index_goes false is place a closed rest among closes small = reads-make (places_read level nested inside closed rest among closes small)

  post_gathers : (s : ConditionScope) (x : Where) (y : Enclosure) → y ≡ enclosure_of x → {ls : List Lexeme} {e : Expr} → IsPost s y ls e → length ls < suc level
      → Gathers level nested (Ends after_first) (placed (first_form s x)) goes_on (λ so_far l. going_form (is_sign sign.Dot l) s so_far) ls (pos_of ls, e)
  post_gathers s x y same (exprs.first {ls = ls} {e = e} h) small =
      gathers-first level nested (Ends after_first) (placed (first_form s x)) goes_on (λ so_far l. going_form (is_sign sign.Dot l) s so_far) ls (pos_of ls, e)
      (λ rest ends. reads-as (ap (λ place. (place, e)) (place_of_front (IsPost s y) post_some ls rest e (exprs.first h)))
      (reads-placed (first_read level nested inside s x y same rest h small ends)))
  post_gathers s x y same (exprs.call_on {ls = ls} {ms = ms} {dot = dot} {a = a} {e = e} h is called) small =
      let sum : length (ls ++ dot ∷ ms) ≡ length ls + suc (length ms) = length-append ls (dot ∷ ms) in
      gathers-more level nested (Ends after_first) (placed (first_form s x)) goes_on (λ so_far l. going_form (is_sign sign.Dot l) s so_far)
      ls (pos_of ls, a) (post_gathers s x y same h (omega arith)) (omega arith) dot ms (pos_of (ls ++ dot ∷ ms), e)
      (or_left (is_sign sign.Dot dot) (is_sign sign.LeftBracket dot) (sign_met is)) (λ rest. kind_ends after_first dot rest is.kind refl)
      (λ rest ends. reads-as (ap (λ place. (place, e)) (sym (place_of_front (IsPost s y) post_some ls (dot ∷ ms) a h)))
      (call_goes (is_sign sign.Dot dot) (sign_met is) (pos_of ls) a rest called (omega arith) ends))
  post_gathers s x y same (exprs.index_of {l = l} {ls = ls} {a = a} {places = places} h (exprs.places {opening = begun} {closing = closed} {ls = ms} entered among closes)) small =
      let sum : length ((l ∷ ls) ++ begun ∷ (ms ++ closed ∷ [])) ≡ suc (length ls) + suc (length (ms ++ closed ∷ [])) = length-append (l ∷ ls) (begun ∷ (ms ++ closed ∷ [])) in
      gathers-more level nested (Ends after_first) (placed (first_form s x)) goes_on (λ so_far l. going_form (is_sign sign.Dot l) s so_far)
      (l ∷ ls) (l.pos, a) (post_gathers s x y same h (omega arith)) (omega arith) begun (ms ++ closed ∷ []) (l.pos, tree.Index (Some a) places l.pos)
      (or_right (is_sign sign.Dot begun) (is_sign sign.LeftBracket begun) (sign_met entered)) (λ rest. kind_ends after_first begun rest entered.kind refl)
      (λ rest ends. index_goes (is_sign sign.Dot begun) (other_sign sign.Dot refl entered) l.pos a closed rest among closes (omega arith))

  pub post_read : (s : ConditionScope) (x : Where) {ls : List Lexeme} {e : Expr} (rest : List Lexeme) → IsPost s (enclosure_of x) ls e → length ls < suc level → Ends after_post rest
      → Reads level nested (post_form s x) (ls ++ rest) e rest
  unfolding post_form placed_post_form
  post_read s x {ls = ls} {e = e} rest h small ends =
      reads-make {f = λ whole. whole.1}
      (reads-gathered level nested (Ends after_first) (placed (first_form s x)) goes_on (λ so_far l. going_form (is_sign sign.Dot l) s so_far) ls (pos_of ls, e) rest
      (post_gathers s x (enclosure_of x) refl h small) small (ends_left after_first goes_on_kind rest ends) (ends_right after_first goes_on_kind rest ends))

  -- ---- operators

  pub power_read : (s : ConditionScope) (x : Where) {ls : List Lexeme} {e : Expr} (rest : List Lexeme) → IsPower s (enclosure_of x) ls e → length ls < suc level → Ends after_power rest
      → Reads level nested (power_form s x) (ls ++ rest) e rest
  unfolding power_form
  power_read s x rest (exprs.post h) small ends =
      reads-follow (post_read s x rest h small (ends_left after_post (is_sign_kind sign.Caret) rest ends)) (reads-other (ends_right after_post (is_sign_kind sign.Caret) rest ends) reads-give)
  power_read s x rest (exprs.raised {ls = ls} {ms = ms} {o = o} {b = b} h is k) small ends =
      let sum : length (ls ++ o ∷ ms) ≡ length ls + suc (length ms) = length-append ls (o ∷ ms) in
      reads-joined ls (o ∷ ms) rest
      (reads-follow (post_read s x (o ∷ (ms ++ rest)) h (omega arith) (kind_ends after_post o (ms ++ rest) is.kind refl))
      (reads-met (sign_met is) (reads-make (nest_read level nested inside (power s x) ms b rest k (omega arith) ends))))

  pub unary_read : (s : ConditionScope) (x : Where) {ls : List Lexeme} {e : Expr} (rest : List Lexeme) → IsUnary s (enclosure_of x) ls e → length ls < suc level → Ends after_power rest
      → Reads level nested (unary_form s x) (ls ++ rest) e rest
  unfolding unary_form
  unary_read s x rest (exprs.prefix {ls = ls} {o = o} {e = e} is h) small ends =
      reads-met (ap is_some (prefix_met is))
      (reads-as (ap (λ op. tree.Unary (or_any op) e o.pos) (prefix_met is)) (reads-make (nest_read level nested inside (unary s x) ls e rest h (omega arith) ends)))
  unary_read s x rest (exprs.power {ls = ls} h) small ends = reads-other (prefix_shut s ls rest (power_starts h)) (power_read s x rest h small ends)

module _ (level : ℕ) (nested : (n : Nested) → Reader (Ast n)) {s : ConditionScope} {p : Precedence} {x : Enclosure} {operators : TokenKind → Option Operator} (are : AreOperators p operators)
    (operand : Form Expr) (after : TokenKind → Bool) (operator_ends : (op : Operator) (o : Lexeme) → IsOperator p op o → (rest : List Lexeme) → Ends after (o ∷ rest))
    (each : (ls : List Lexeme) (e : Expr) (rest : List Lexeme) → IsOperand s p x ls e → length ls < suc level → Ends after rest → Reads level nested operand (ls ++ rest) e rest) where
  operation_gathers : {ls : List Lexeme} {e : Expr} → IsOperation s p x ls e → length ls < suc level
      → Gathers level nested (Ends after) operand (is_operator operators) (λ a o. make (λ b. tree.Binary (operator_of operators o) a b o.pos) operand) ls e
  operation_gathers (exprs.operand {ls = ls} {e = e} h) small =
      gathers-first level nested (Ends after) operand (is_operator operators) (λ a o. make (λ b. tree.Binary (operator_of operators o) a b o.pos) operand) ls e
      (λ rest ends. each ls e rest h small ends)
  operation_gathers (exprs.operation {ls = ls} {ms = ms} {o = o} {op = op} {a = a} {b = b} h is k) small =
      let sum : length (ls ++ o ∷ ms) ≡ length ls + suc (length ms) = length-append ls (o ∷ ms) in
      gathers-more level nested (Ends after) operand (is_operator operators) (λ a o. make (λ b. tree.Binary (operator_of operators o) a b o.pos) operand)
      ls a (operation_gathers h (omega arith)) (omega arith) o ms (tree.Binary op a b o.pos) (ap is_some (are.met is)) (operator_ends op o is)
      (λ rest ends. reads-as (ap (λ op. tree.Binary (or_any op) a b o.pos) (are.met is)) (reads-make (each ms b rest k (omega arith) ends)))

  operation_read : (ls : List Lexeme) (e : Expr) (rest : List Lexeme) → IsOperation s p x ls e → length ls < suc level → Ends (λ k. after k || is_some (operators k)) rest
      → Reads level nested (operation_form operators operand) (ls ++ rest) e rest
  unfolding operation_form
  operation_read ls e rest h small ends =
      reads-gathered level nested (Ends after) operand (is_operator operators) (λ a o. make (λ b. tree.Binary (operator_of operators o) a b o.pos) operand) ls e rest
      (operation_gathers h small) small (ends_left after (λ k. is_some (operators k)) rest ends) (ends_right after (λ k. is_some (operators k)) rest ends)

module _ (level : ℕ) (nested : (n : Nested) → Reader (Ast n))
    (inside : (n : Nested) (ls : List Lexeme) (t : Ast n) (rest : List Lexeme) → Spells n ls t → length ls < level → EndsOf n rest → nested n (ls ++ rest) ≡ Read t rest)
    (s : ConditionScope) (x : Where) where
  unary_operand : (ls : List Lexeme) (e : Expr) (rest : List Lexeme) → IsOperand s Multiplying (enclosure_of x) ls e → length ls < suc level → Ends after_power rest
      → Reads level nested (unary_form s x) (ls ++ rest) e rest
  unary_operand ls e rest (exprs.of_multiplying h) small ends = unary_read level nested inside s x rest h small ends

  product_operand : (ls : List Lexeme) (e : Expr) (rest : List Lexeme) → IsOperand s Adding (enclosure_of x) ls e → length ls < suc level → Ends after_product rest
      → Reads level nested (product_form s x) (ls ++ rest) e rest
  unfolding product_form
  product_operand ls e rest (exprs.of_adding h) small ends =
      operation_read level nested multiplying_operators (unary_form s x) after_power multiplying_ends unary_operand ls e rest h small ends

  sum_operand : (ls : List Lexeme) (e : Expr) (rest : List Lexeme) → IsOperand s Comparing (enclosure_of x) ls e → length ls < suc level → Ends after_sum rest
      → Reads level nested (sum_form s x) (ls ++ rest) e rest
  unfolding sum_form
  sum_operand ls e rest (exprs.of_comparing h) small ends =
      operation_read level nested adding_operators (product_form s x) after_product adding_ends product_operand ls e rest h small ends

  comparison_operand : (ls : List Lexeme) (e : Expr) (rest : List Lexeme) → IsOperand s Logical (enclosure_of x) ls e → length ls < suc level → Ends after_comparison rest
      → Reads level nested (comparison_form s x) (ls ++ rest) e rest
  unfolding comparison_form
  comparison_operand ls e rest (exprs.of_logical h) small ends =
      operation_read level nested comparing_operators (sum_form s x) after_sum comparing_ends sum_operand ls e rest h small ends

  pub expr_read : (ls : List Lexeme) (e : Expr) (rest : List Lexeme) → IsExpr s (enclosure_of x) ls e → length ls < suc level → Ends after_expr rest
      → Reads level nested (expr_form s x) (ls ++ rest) e rest
  unfolding expr_form
  expr_read ls e rest (exprs.logical_operation h) small ends =
      operation_read level nested logical_operators (comparison_form s x) after_comparison logical_ends comparison_operand ls e rest h small ends
