-- Tests and options taken apart, and expressions that give values.
use Rattle.std.proofs.Common.{◌≡◌, ℕ, Bool, true, false, ◌&&◌, if◌then◌else◌, Option, Some, None, option_and_then, is_some, refl, sym, ap, subst, ◌∙◌, true≢false}
use Rattle.std.specs.Prelude.{IsTrue}
use Rattle.std.specs.Option.{option_map_or}
use Rattle.sa_typed.specs.declared.expr.TypedExpr.{TypedExpr}
use Rattle.sa_typed.specs.Copy.{expr_of}
use Rattle.sa_typed.specs.Tree.{Expr}
use Rattle.sa_typing.specs.declared.expr_type.ExprType.{ExprType}
use Rattle.sa_typing.specs.declared.expr_type.ExprType.TheVariants.{NoValue, Of, BoxedOf}
use Rattle.sa_typing.specs.declared.context.TypingContext.{TypingContext}
use Rattle.sa_typing.specs.Builtins.{bool_type}
use Rattle.sa_typing.specs.Expressions.{is_assignable_expr, type_of_expr}
use Rattle.sa_typing.specs.Forms.{is_test, is_assignable_type}
use Rattle.sa_typing.specs.ExprType.{is_assignable, is_plain, is_value}
use Rattle.sa_typing.specs.Contexts.{Env}
use Rattle.sa_typing.specs.Rows.{Rows}
use Rattle.sa_lower_expr.specs.Typed.{HasValue, IsTyped, gives_value}

-- ---- tests and options

pub first_of : (b c : Bool) → IsTrue (b && c) → IsTrue b
first_of true c h = refl
first_of false c h = h

pub second_of : (b c : Bool) → IsTrue (b && c) → IsTrue c
second_of true c h = h
second_of false c h = absurd (true≢false (sym h))

-- where a chain of options has something, so has its first, and the rest of it
pub then_some : {A B : Type 0} (k : A → Option B) (o : Option A) → IsTrue (is_some (option_and_then k o)) → (x : A) × (o ≡ Some x) × IsTrue (is_some (k x))
then_some k None h = absurd (true≢false (sym h))
then_some k (Some x) h = (x, refl, h)

pub if_some : {A : Type 0} (b : Bool) (x : A) → IsTrue (is_some (if b then Some x else None)) → IsTrue b
if_some true x h = refl
if_some false x h = h

-- ---- values

pub goes_value : (w : Rows) (g : ExprType) (ty : ℕ) → IsTrue (is_assignable w g ty) → IsTrue (is_value g)
goes_value w NoValue ty h = h
goes_value w (Of own) ty h = refl
goes_value w (BoxedOf own) ty h = refl

pub plain_value : (g : ExprType) (ty : ℕ) → IsTrue (is_plain ty g) → IsTrue (is_value g)
plain_value NoValue ty h = h
plain_value (Of own) ty h = refl
plain_value (BoxedOf own) ty h = refl

value_some : (o : Option ExprType) → IsTrue (option_map_or is_value o false) → IsTrue (is_some o)
value_some None h = h
value_some (Some g) h = refl

module _ (f : Env) (at : TypingContext) where
  -- what an expression gives is a value
  pub has_value : (e : TypedExpr) (g : ExprType) → type_of_expr f at (expr_of e) ≡ Some g → IsTrue (is_value g) → HasValue f at e
  unfolding HasValue gives_value
  has_value e g is v = ap (λ (o : Option ExprType). option_map_or is_value o false) is ∙ v

  pub typed_as : (e : TypedExpr) (x : Expr) → expr_of e ≡ x → IsTyped f at e → IsTrue (is_some (type_of_expr f at x))
  unfolding IsTyped
  typed_as e x is h = subst (λ (y : Expr). IsTrue (is_some (type_of_expr f at y))) is h

  pub goes_has : (w : Rows) (ty : ℕ) (e : TypedExpr) (o : Option ExprType) → type_of_expr f at (expr_of e) ≡ o → IsTrue (is_assignable_type w ty o) → HasValue f at e
  goes_has w ty e None is h = absurd (true≢false (sym h))
  goes_has w ty e (Some g) is h = has_value e g is (goes_value w g ty h)

  -- what is assignable to a type gives a value
  pub going_has : (ty : ℕ) (e : TypedExpr) → IsTrue (is_assignable_expr f at ty (expr_of e)) → HasValue f at e
  going_has ty e h = goes_has f.rows ty e (type_of_expr f at (expr_of e)) refl h

  test_value : (e : TypedExpr) (o : Option ExprType) → type_of_expr f at (expr_of e) ≡ o → IsTrue (is_test o) → HasValue f at e
  test_value e None is h = absurd (true≢false (sym h))
  test_value e (Some g) is h = has_value e g is (plain_value g bool_type h)

  -- a test gives one
  pub test_has : (e : TypedExpr) → IsTrue (is_test (type_of_expr f at (expr_of e))) → HasValue f at e
  test_has e h = test_value e (type_of_expr f at (expr_of e)) refl h

  -- an expression whose type is known is well typed
  pub type_known : (e : TypedExpr) → IsTrue (is_some (type_of_expr f at (expr_of e))) → IsTyped f at e
  unfolding IsTyped
  type_known e h = h

  -- one that gives a value is
  pub value_typed : (e : TypedExpr) → HasValue f at e → IsTyped f at e
  unfolding HasValue gives_value IsTyped
  value_typed e h = value_some (type_of_expr f at (expr_of e)) h

  -- its value is in a variable
  pub not_missing : (e : TypedExpr) (var : Option ℕ) → HasValue f at e → is_some var ≡ gives_value f at e → var ≡ None → ⊥
  unfolding HasValue
  not_missing e var h is none = true≢false (sym h ∙ sym is ∙ ap (λ (v : Option ℕ). is_some v) none)
