-- Expressions: the value that each gives, case by case.
use Rattle.std.specs.Prelude.{ℕ, ◌+◌, Bool, true, false, not, if◌then◌else◌, List, [], ◌∷◌, map, length, Option, Some, None, is_none}
use Rattle.sa_ast.specs.declared.pos.Pos.{Pos}
use Rattle.sa_ast.specs.declared.ty.Mode.{Mode}
use Rattle.sa_ast.specs.declared.ty.Mode.TheVariants as mode
use Rattle.sa_typed.specs.declared.feature.TypedCallee.{TypedCallee}
use Rattle.sa_typed.specs.declared.feature.TypedCallee.TheVariants as called
use Rattle.sa_typed.specs.declared.feature.Site.{Site}
use Rattle.sa_typed.specs.declared.feature.Target.TheVariants as target
use Rattle.sa_typed.specs.Tree as tree
use Rattle.sa_typed.specs.Tree.{Expr, VoidValue, SelfRef, Var, Exception, IsVoid, New, NewArray, Array, Call, IterCall, Bind}
use Rattle.sa_typed.specs.Tree.{Reversed, And, Or, Box, Exprs, no_exprs, expr, Arg, Variable, Open, Args, no_args, arg}
use Rattle.sa_semantics.specs.Sequence.{◌>>=◌, ◌>>◌, pure, look, or_stuck, at_index, stuck}
use Rattle.sa_semantics.specs.Value.{Value, Int, Truth, Char, Text, Ref, Bound, is_void, as_int, as_truth}
use Rattle.sa_semantics.specs.Program.{Program, void_of}
use Rattle.sa_semantics.specs.State.{Continuation, SiteInstances, Instance, Completion}
use Rattle.sa_semantics.specs.Steps.{Eval, charge, object_size, add_object, plain, read}
use Rattle.sa_semantics.specs.Builtin.{new_array}
use Rattle.sa_semantics.specs.Calls.{ResolvedCall, callee, pass_args, reached, call, boxed_from, boxed_where, wide_arguments, is_once, only_given}
use Rattle.sa_semantics.specs.Instances.{CallSite, find_instance, this_feature, start, resume}

-- ---- arguments

abbrev pub is_read : Mode → Bool
is_read mode.Inout = true
is_read _ = false

-- by the arguments, the variables that get a value back
abbrev pub variables_of : Args → List (Option ℕ)
variables_of no_args = []
variables_of (arg (Variable mode var) more) = Some var ∷ variables_of more
variables_of (arg _ more) = None ∷ variables_of more

-- by the arguments, the first value, or else the second
abbrev pub either : List (Option Value) → List (Option Value) → List (Option Value)
either (None ∷ first) (v ∷ second) = v ∷ either first second
either (Some v ∷ first) (_ ∷ second) = Some v ∷ either first second
either first _ = first

abbrev pub every : Mode → Bool
every _ = true

abbrev pub not_once : Mode → Bool
not_once mode = not (is_once mode)

-- ---- tests

abbrev pub truth_of : Value → Eval Bool
truth_of v = or_stuck (as_truth v)

-- ---- new objects

module _ (p : Program) (at : Pos) where
  abbrev pub new_object : ℕ → Eval Value
  new_object ty = do
    t ← at_index p.types ty
    charge at (object_size (length t.attrs) 0)
    number ← add_object (plain ty (map (void_of p) t.attrs) [])
    pure (Ref number)

  -- an array that has these elements
  abbrev pub array_of : ℕ → List Value → Eval Value
  array_of ty elements = do
    t ← at_index p.types ty
    charge at (object_size (length t.attrs) (length elements))
    number ← add_object (plain ty (map (void_of p) t.attrs) elements)
    pure (Ref number)

  abbrev pub bound_value : ℕ → ResolvedCall → List (Option Value) → Eval Value
  bound_value ty c given = do
    class ← or_stuck c.class
    charge at (object_size (1 + length (only_given given)) 0)
    number ← add_object (record {
      ty = ty;
      fields = c.self ∷ only_given given;
      elements = [];
      binding = Some (record { target = c.target; class = class; is_open = map is_none given });
    })
    pure (Bound number)

  -- The values that a bind stores, which a bind of a signature boxes. No bind is of the call of a bound value.
  abbrev pub bound_values : TypedCallee → ResolvedCall → List (Option Value) → Eval (List (Option Value))
  bound_values (called.Static target class) c given = pure given
  bound_values (called.Dispatch k) c given = boxed_where p at (wide_arguments p c.class c.target) given
  bound_values called.Bound c given = stuck

  abbrev pub bound : TypedCallee → ℕ → Value → List (Option Value) → Eval Value
  bound called ty v given = do
    c ← callee p at called v
    kept ← bound_values called c given
    bound_value ty c kept

-- ---- iter calls

module _ (p : Program) (go : Continuation → Eval Completion) (site : ℕ) (at : Pos) where
  abbrev pub call_site : Eval CallSite
  call_site = do
    caller ← look (λ s. s.here)
    feature ← or_stuck caller.feature
    pure (record { caller = caller; feature = feature; site = site; at = at })

  abbrev pub this_site : Eval Site
  this_site = do
    k ← this_feature
    f ← at_index p.features k
    at_index f.sites site

  -- Self and the `once` arguments are evaluated at a start alone, and before the others.
  abbrev pub iter_call : Eval Value → Eval (List (Option Value))
      → Eval (List (Option Value)) → List (Option ℕ) → Option (Instance × SiteInstances) → Eval Value
  iter_call self once others back None = do
    v ← self
    first ← once
    second ← others
    s ← this_site
    c ← callee p at s.called v
    h ← pass_args p at s.called c (either first second) back
    here ← call_site
    start p go here c h
  iter_call self once others back (Some e) = do
    given ← others
    s ← this_site
    h ← pass_args p at s.called
        (record { target = target.Feature e.0.feature; class = None; self = e.0.self; through = e.0.through }) given back
    here ← call_site
    resume p go here e.0 e.1 h

-- ---- expressions

module _ (p : Program) (go : Continuation → Eval Completion) where
  abbrev mutual
    pub evaluate : Expr → Eval Value
    evaluate (tree.Int z) = pure (Int z)
    evaluate (tree.Truth b) = pure (Truth b)
    evaluate (tree.Char byte) = pure (Char byte)
    evaluate (tree.Text bytes) = pure (Text bytes)
    evaluate (VoidValue ty) = pure (void_of p ty)
    evaluate SelfRef = look (λ s. s.here.self)
    evaluate (Var var) = read var
    evaluate Exception = look (λ s. s.here.exception) >>= or_stuck
    evaluate (IsVoid of) = evaluate of >>= (λ v. pure (Truth (is_void v)))
    evaluate (New ty at) = new_object p at ty
    evaluate (NewArray ty size at) = do
      v ← evaluate size
      count ← or_stuck (as_int v)
      new_array p ty at count
    evaluate (Array ty elements at) = evaluate_all elements >>= array_of p at ty
    evaluate (Call called on arguments at) = do
      v ← evaluate on
      given ← evaluate_args every arguments
      call p go at called v given (variables_of arguments)
    evaluate (IterCall site on arguments at) = do
      sites ← look (λ s. s.here.sites)
      iter_call p go site at (evaluate on) (evaluate_args is_once arguments)
          (evaluate_args not_once arguments) (variables_of arguments) (find_instance site sites)
    evaluate (Bind called on arguments ty at) = do
      v ← evaluate on
      given ← evaluate_args every arguments
      bound p at called ty v given
    evaluate (Reversed target first second at) = do
      v ← evaluate first
      self ← evaluate second
      r ← reached p go at target None self (Some v ∷ [])
      pure r.0
    evaluate (And first second) = evaluate first >>= truth_of >>= (λ b. if b then evaluate second else pure (Truth false))
    evaluate (Or first second) = evaluate first >>= truth_of >>= (λ b. if b then pure (Truth true) else evaluate second)
    evaluate (Box ty of at) = evaluate of >>= boxed_from p at ty

    pub evaluate_all : Exprs → Eval (List Value)
    evaluate_all no_exprs = pure []
    evaluate_all (expr e more) = do
      v ← evaluate e
      vs ← evaluate_all more
      pure (v ∷ vs)

    -- the arguments of such modes, and none at the others, nor where the callee alone sets a variable
    pub evaluate_args : (Mode → Bool) → Args → Eval (List (Option Value))
    evaluate_args test no_args = pure []
    evaluate_args test (arg a more) = do
      v ← evaluate_arg test a
      vs ← evaluate_args test more
      pure (v ∷ vs)

    pub evaluate_arg : (Mode → Bool) → Arg → Eval (Option Value)
    evaluate_arg test (tree.Value mode e) = if test mode then (evaluate e >>= (λ v. pure (Some v))) else pure None
    evaluate_arg test (Variable mode var) =
        if test mode then (if is_read mode then (read var >>= (λ v. pure (Some v))) else pure None) else pure None
    evaluate_arg test Open = pure None

  -- a test of a condition
  abbrev pub evaluate_truth : Expr → Eval Bool
  evaluate_truth e = evaluate e >>= truth_of

  -- whether one of the tests is true; those after it aren't evaluated
  abbrev pub evaluate_tests : Exprs → Eval Bool
  evaluate_tests no_exprs = pure false
  evaluate_tests (expr e more) = evaluate_truth e >>= (λ b. if b then pure true else evaluate_tests more)
