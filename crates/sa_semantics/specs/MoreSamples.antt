-- More small typed programs: initialisers, boxing in its order, faults that nothing catches, and programs to which no rule applies.
use Rattle.std.specs.Prelude.{ℕ, true, false, [], ◌∷◌, Some, codes}
use Rattle.sa_ast.specs.declared.fault_kind.FaultKind.{FaultKind}
use Rattle.sa_ast.specs.declared.ty.Mode.TheVariants.{In, Out, Once}
use Rattle.sa_typed.specs.declared.feature.TypedCallee.TheVariants.{Static, Dispatch}
use Rattle.sa_typed.specs.declared.feature.Target.TheVariants as target
use Rattle.sa_typed.specs.Copy.{arg_list, stmt_list, arm_list}
use Rattle.sa_typed.specs.Tree as tree
use Rattle.sa_typed.specs.Tree.{Break, Stmt, VoidValue, SelfRef, Var, New, Call, IterCall, Variable, Assign}
use Rattle.sa_typed.specs.Tree.{ExprStmt, ExitLoop, TypeCase, Protect, Yield, Fault, no_else, otherwise}
use Rattle.sa_prelude.specs.declared.feature.BuiltinFeature.TheVariants.{IntPlus}
use Rattle.sa_semantics.specs.Value.{int_type}
use Rattle.sa_semantics.specs.Program.{Program}
use Rattle.sa_semantics.specs.Samples.{here, int, with_one, plus, main_type, own_type, ob_type, put, put_int, call, get_shared}
use Rattle.sa_semantics.specs.Samples.{loop, class_row, immutable_row, abstract_row, routine, iter, program, text, get_x}

-- ---- initialisers

-- immutable class P is attr x:INT; shared s:INT := x + 1; shared o:$OB := self; end;
-- class MAIN is main is #OUT + P::s; y:$OB := P::o; typecase y when P then #OUT + "P"; else #OUT + "v"; end; end; end
abbrev pub initialises : Program
initialises = record (program (immutable_row (int_type ∷ []) (ob_type ∷ []) ∷ []) (
    routine [] (ob_type ∷ own_type ∷ []) [] (
    put_int (get_shared 0) ∷ Assign 0 (get_shared 1)
    ∷ TypeCase 0 (arm_list ((own_type, 1, stmt_list (put (text (codes "P")) ∷ [])) ∷ []))
    (otherwise (stmt_list (put (text (codes "v")) ∷ []))) here ∷ [])
    ∷ [])) {
      shareds = record { ty = int_type; class = own_type; start = Some (plus (get_x SelfRef) (int 1)) }
          ∷ record { ty = ob_type; class = own_type; start = Some (tree.Box own_type SelfRef here) } ∷ [];
    }

-- ---- boxing

-- typecase v when INT then #OUT + v; end
abbrev pub put_if_int : ℕ → ℕ → Stmt
put_if_int var narrowed =
    TypeCase var (arm_list ((int_type, narrowed, stmt_list (put_int (Var narrowed) ∷ [])) ∷ [])) (otherwise (stmt_list [])) here

-- abstract class $A is f(out a:INT, out b:$OB); end;
-- class C < $A is create:SAME is return new; end; f(out a:INT, out b:INT) is a := 1; b := 2; end; end;
-- a:$A := #C; x,y:$OB; a.f(out x, out y); typecase x when INT then #OUT + x; end; typecase y when INT then #OUT + y; end
abbrev pub boxes_in_two_stages : Program
boxes_in_two_stages = record (program (abstract_row (ob_type ∷ []) ∷ class_row [] (ob_type ∷ own_type ∷ []) ∷ []) (
    routine [] (own_type ∷ ob_type ∷ ob_type ∷ int_type ∷ []) [] (
    Assign 0 (New 11 here) ∷ Assign 1 (VoidValue ob_type) ∷ Assign 2 (VoidValue ob_type)
    ∷ ExprStmt (Call (Dispatch 0) (Var 0) (arg_list (Variable Out 1 ∷ Variable Out 2 ∷ [])) here)
    ∷ put_if_int 1 3 ∷ put_if_int 2 3 ∷ [])
    ∷ routine (Out ∷ Out ∷ []) (int_type ∷ int_type ∷ []) [] (Assign 0 (int 1) ∷ Assign 1 (int 2) ∷ [])
    ∷ []))
    { signatures = record { impls = record { ty = 11; target = target.Feature 1 } ∷ []; wide_args = false ∷ true ∷ []; wide = false } ∷ [] }

-- immutable class P is attr x,y,z:INT; end; abstract class $A is g!(a:INT, once b:P):INT; end;
-- class C < $A is create:SAME is return new; end; g!(a:$OB, once b:$OB):INT is yield 1; end; end;
-- c:$A := #C; p:P; loop #OUT + c.g!(7, p); break!; end
abbrev pub boxes_once_first : Program
boxes_once_first = record (program (
    abstract_row (ob_type ∷ []) ∷ class_row [] (ob_type ∷ own_type ∷ [])
    ∷ immutable_row (int_type ∷ int_type ∷ int_type ∷ []) (ob_type ∷ []) ∷ []) (
    routine [] (own_type ∷ 12 ∷ []) (record { owner = 0; called = Dispatch 0; pos = here } ∷ []) (
    Assign 0 (New 11 here) ∷ Assign 1 (VoidValue 12)
    ∷ loop (put_int (IterCall 0 (Var 0) (arg_list (tree.Value In (int 7) ∷ tree.Value Once (Var 1) ∷ [])) here) ∷ ExitLoop Break ∷ []) ∷ [])
    ∷ iter (In ∷ Once ∷ []) (ob_type ∷ ob_type ∷ []) [] (Yield (Some (int 1)) ∷ [])
    ∷ [])) {
      signatures = record { impls = record { ty = 11; target = target.Feature 1 } ∷ []; wide_args = false ∷ false ∷ []; wide = false }
          ∷ [];
    }

-- ---- faults

-- protect STATEMENT else #OUT + "c"; end, where the statement is a fault of a kind
abbrev pub catches_stop : FaultKind → Program
catches_stop kind = program [] (
    routine [] [] [] (Protect (stmt_list (Fault kind here ∷ [])) (arm_list []) (otherwise (stmt_list (put (text (codes "c")) ∷ []))) ∷ [])
    ∷ [])

-- ---- programs that the checker doesn't give

-- a value is assigned to a variable that the feature doesn't have
abbrev pub writes_no_variable : Program
writes_no_variable = program [] (routine [] [] [] (Assign 0 (int 1) ∷ []) ∷ [])

-- an argument is missing
abbrev pub lacks_argument : Program
lacks_argument = program [] (
    routine [] [] [] (ExprStmt (call 1 []) ∷ [])
    ∷ routine (In ∷ []) (int_type ∷ []) [] [] ∷ [])

-- there is one argument more than the built-in feature takes
abbrev pub has_argument_more : Program
has_argument_more = program [] (
    routine [] (int_type ∷ []) [] (
    Assign 0 (Call (Static (target.Builtin IntPlus) int_type) (int 1)
    (arg_list (tree.Value In (int 2) ∷ tree.Value In (int 3) ∷ [])) here) ∷ []) ∷ [])

-- what is boxed is of a reference class
abbrev pub boxes_reference : Program
boxes_reference = program [] (routine [] (ob_type ∷ []) [] (Assign 0 (tree.Box int_type (VoidValue main_type) here) ∷ []) ∷ [])

-- class C is attr a:INT; end; the second attribute of a C is set
abbrev pub sets_no_attribute : Program
sets_no_attribute = program (class_row (int_type ∷ []) (ob_type ∷ []) ∷ []) (
    routine [] [] [] (ExprStmt (Call (Static (target.Set 1) own_type) (New own_type here) (arg_list (with_one (int 1))) here) ∷ []) ∷ [])
