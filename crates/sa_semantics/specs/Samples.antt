-- Small typed programs, each the typed AST of the source above it.
use Rattle.std.specs.Prelude.{ℕ, pos, negsuc, Bool, true, false, List, [], ◌∷◌, ◌++◌, Some, None, codes}
use Rattle.sa_ast.specs.declared.class.ClassKind.TheVariants as kind
use Rattle.sa_ast.specs.declared.fault_kind.FaultKind.TheVariants as fault_kind
use Rattle.sa_ast.specs.declared.pos.Pos.{Pos}
use Rattle.sa_ast.specs.declared.ty.Mode.{Mode}
use Rattle.sa_ast.specs.declared.ty.Mode.TheVariants.{In, Out, Inout, Once}
use Rattle.sa_typed.specs.declared.feature.TypedCallee.TheVariants.{Static, Dispatch, Bound}
use Rattle.sa_typed.specs.declared.feature.Site.{Site}
use Rattle.sa_typed.specs.declared.feature.Target.TheVariants as target
use Rattle.sa_typed.specs.Copy.{expr_list, arg_list, stmt_list, test_list, arm_list}
use Rattle.sa_typed.specs.Tree as tree
use Rattle.sa_typed.specs.Tree.{Expr, VoidValue, SelfRef, Var, Exception, IsVoid, New, Call, IterCall, Bind, Or}
use Rattle.sa_typed.specs.Tree.{Arg, Variable, Open, Break, While, Stmt, Assign, ExprStmt, If, Loop, ExitLoop, TypeCase}
use Rattle.sa_typed.specs.Tree.{Protect, Return, Yield, Quit, Raise, Fault, no_stmts, no_else, otherwise}
use Rattle.sa_prelude.specs.declared.feature.BuiltinFeature.{BuiltinFeature}
use Rattle.sa_prelude.specs.declared.feature.BuiltinFeature.TheVariants.{IntPlus, IntMinus, IntDiv, IntMod, IntIsEq, IntIsLt, IntChar}
use Rattle.sa_prelude.specs.declared.feature.BuiltinFeature.TheVariants.{OutPut, OutPutInt, OutPutChar, InGetByte}
use Rattle.sa_prelude.specs.declared.feature.BuiltinFeature.TheVariants.{ArefAsize, ArefAget, ArefAset, ArrayCreate}
use Rattle.sa_semantics.specs.Value.{bool_type, int_type, str_type, fault_type}
use Rattle.sa_semantics.specs.Program.{TypeRow, Feature, Program}

-- ---- short names for nodes, all of which have the same position

abbrev pub here : Pos
here = record { file = 1; at = 0 }

abbrev pub minus_one : Expr
minus_one = tree.Int (negsuc 0)

abbrev pub int : ℕ → Expr
int n = tree.Int (pos n)

abbrev pub with_one : Expr → List Arg
with_one e = tree.Value In e ∷ []

-- a call of a built-in feature of a type, by the index of the type
abbrev pub builtin : ℕ → BuiltinFeature → Expr → List Arg → Expr
builtin ty feature on arguments = Call (Static (target.Builtin feature) ty) on (arg_list arguments) here

abbrev pub plus : Expr → Expr → Expr
plus a b = builtin int_type IntPlus a (with_one b)

abbrev pub div : Expr → Expr → Expr
div a b = builtin int_type IntDiv a (with_one b)

abbrev pub is_eq : Expr → Expr → Expr
is_eq a b = builtin int_type IntIsEq a (with_one b)

abbrev pub is_lt : Expr → Expr → Expr
is_lt a b = builtin int_type IntIsLt a (with_one b)

-- MAIN and OUT
abbrev pub main_type : ℕ
main_type = 8

abbrev pub out_type : ℕ
out_type = 9

-- the first type of a program's own
abbrev pub own_type : ℕ
own_type = 10

abbrev pub put : Expr → Stmt
put e = ExprStmt (builtin out_type OutPut (VoidValue out_type) (with_one e))

abbrev pub put_int : Expr → Stmt
put_int e = ExprStmt (builtin out_type OutPutInt (VoidValue out_type) (with_one e))

-- a call of a feature of MAIN
abbrev pub call : ℕ → List Arg → Expr
call k arguments = Call (Static (target.Feature k) main_type) SelfRef (arg_list arguments) here

-- a shared, by its index
abbrev pub get_shared : ℕ → Expr
get_shared k = Call (Static (target.GetShared k) main_type) SelfRef (arg_list []) here

abbrev pub set_shared : ℕ → Expr → Expr
set_shared k e = Call (Static (target.SetShared k) main_type) SelfRef (arg_list (with_one e)) here

-- #ARRAY{INT}(n), where ARRAY{INT} is the first type of the program's own
abbrev pub new_array : Expr → Expr
new_array n = builtin own_type ArrayCreate (VoidValue own_type) (with_one n)

abbrev pub loop : List Stmt → Stmt
loop body = Loop 0 (stmt_list body)

abbrev pub when : Expr → List Stmt → Stmt
when test body = If (test_list ((expr_list (test ∷ []), stmt_list body) ∷ [])) no_stmts

-- ---- short names for programs

abbrev pub class_row : List ℕ → List ℕ → TypeRow
class_row attrs above = record { kind = kind.Reference; attrs = attrs; elem = None; above = above; wide_args = []; wide = false }

abbrev pub immutable_row : List ℕ → List ℕ → TypeRow
immutable_row attrs above = record { kind = kind.Immutable; attrs = attrs; elem = None; above = above; wide_args = []; wide = false }

-- a bound type, where these arguments have abstract types
abbrev pub bound_row : List Bool → TypeRow
bound_row wide = record (class_row [] (0 ∷ [])) { wide_args = wide }

abbrev pub abstract_row : List ℕ → TypeRow
abstract_row above = record { kind = kind.Abstract; attrs = []; elem = None; above = above; wide_args = []; wide = false }

-- `$OB`, `$STR`, `$IS_EQ`, BOOL, INT, CHAR, STR, FAULT, MAIN and OUT
abbrev pub base_types : List TypeRow
base_types =
    abstract_row [] ∷ abstract_row (0 ∷ []) ∷ abstract_row (0 ∷ [])
    ∷ immutable_row [] (0 ∷ 1 ∷ 2 ∷ []) ∷ immutable_row [] (0 ∷ 1 ∷ 2 ∷ []) ∷ immutable_row [] (0 ∷ 1 ∷ 2 ∷ [])
    ∷ class_row [] (0 ∷ 1 ∷ 2 ∷ []) ∷ class_row (int_type ∷ int_type ∷ []) (0 ∷ 1 ∷ []) ∷ class_row [] (0 ∷ []) ∷ class_row [] (0 ∷ []) ∷ []

abbrev pub ob_type : ℕ
ob_type = 0

abbrev pub routine : List Mode → List ℕ → List Site → List Stmt → Feature
routine modes vars sites body = record { iter = false; modes = modes; vars = vars; sites = sites; body = stmt_list body; pos = here }

abbrev pub iter : List Mode → List ℕ → List Site → List Stmt → Feature
iter modes vars sites body = record { iter = true; modes = modes; vars = vars; sites = sites; body = stmt_list body; pos = here }

-- a site of the loop 0 that calls a feature of a type
abbrev pub site : ℕ → ℕ → Site
site k ty = record { owner = 0; called = Static (target.Feature k) ty; pos = here }

abbrev pub program : List TypeRow → List Feature → Program
program types features =
    record { types = base_types ++ types; features = features; signatures = []; shareds = []; main = 0; newlines = []; faults_raise = true }

-- ---- features of the prelude

-- upto!(once n:INT):INT is if n < self then quit; end; i ::= self;
--   loop yield i; if i = n then quit; end; i := i + 1; end; end
abbrev pub upto : Feature
upto = iter (Once ∷ []) (int_type ∷ int_type ∷ []) [] (
    when (is_lt (Var 0) SelfRef) (Quit ∷ [])
    ∷ Assign 1 SelfRef
    ∷ loop (Yield (Some (Var 1)) ∷ when (is_eq (Var 1) (Var 0)) (Quit ∷ []) ∷ Assign 1 (plus (Var 1) (int 1)) ∷ [])
    ∷ [])

-- a call of it at a site
abbrev pub up : ℕ → Expr → Expr → Expr
up k from to = IterCall k from (arg_list (tree.Value Once to ∷ [])) here

-- plus(i:INT):SAME is put_int(i); return self; end
abbrev pub plus_int : Feature
plus_int = routine (In ∷ []) (int_type ∷ []) [] (put_int (Var 0) ∷ Return (Some SelfRef) ∷ [])

-- plus(s:STR):SAME is put(s); return self; end
abbrev pub plus_text : Feature
plus_text = routine (In ∷ []) (str_type ∷ []) [] (put (Var 0) ∷ Return (Some SelfRef) ∷ [])

abbrev pub text : List ℕ → Expr
text bytes = tree.Text bytes

-- their calls, where they are the features 2 and 3
abbrev pub then_int : Expr → Expr → Expr
then_int on e = Call (Static (target.Feature 2) out_type) on (arg_list (with_one e)) here

abbrev pub then_text : Expr → List ℕ → Expr
then_text on bytes = Call (Static (target.Feature 3) out_type) on (arg_list (with_one (text bytes))) here

-- ---- iters

-- loop #OUT + 1.upto!(3) + " " + 5.upto!(6) + "\n"; end
abbrev pub two_sites : Program
two_sites = program [] (
    routine [] [] (site 1 int_type ∷ site 1 int_type ∷ []) (
    loop (
    ExprStmt
    (then_text (then_int (then_text (then_int (VoidValue out_type) (up 0 (int 1) (int 3))) (codes " ")) (up 1 (int 5) (int 6))) (codes "\n"))
    ∷ []) ∷ [])
    ∷ upto ∷ plus_int ∷ plus_text ∷ [])

-- s ::= 0; loop s := s + 1.upto!(2); end; #OUT + s
abbrev pub summing : Program
summing = program [] (
    routine [] (int_type ∷ []) (site 1 int_type ∷ []) (
    Assign 0 (int 0) ∷ loop (Assign 0 (plus (Var 0) (up 0 (int 1) (int 2))) ∷ []) ∷ put_int (Var 0) ∷ [])
    ∷ upto ∷ [])

-- class MAIN is shared n:INT; lim:INT is n := n + 1; return 2; end;
--   main is loop i ::= 1.upto!(lim); end; #OUT + n; end; end
abbrev pub once_alone : Program
once_alone = record (program [] (
    routine [] (int_type ∷ []) (site 1 int_type ∷ []) (loop (Assign 0 (up 0 (int 1) (call 2 [])) ∷ []) ∷ put_int (get_shared 0) ∷ [])
    ∷ upto
    ∷ routine [] [] [] (ExprStmt (set_shared 0 (plus (get_shared 0) (int 1))) ∷ Return (Some (int 2)) ∷ [])
    ∷ [])) { shareds = record { ty = int_type; class = main_type; start = None } ∷ [] }

-- class MAIN is add!(x:INT):INT is s:INT; loop s := s + x; yield s; end; end;
--   main is loop i ::= 1.upto!(3); #OUT + add!(i) + " "; end; end; end
abbrev pub arguments_anew : Program
arguments_anew = program [] (
    routine [] (int_type ∷ []) (site 1 int_type ∷ site 2 main_type ∷ []) (
    loop (Assign 0 (up 0 (int 1) (int 3)) ∷ put_int (IterCall 1 SelfRef (arg_list (with_one (Var 0))) here) ∷ put (text (codes " ")) ∷ []) ∷ [])
    ∷ upto
    ∷ iter (In ∷ []) (int_type ∷ int_type ∷ []) [] (
    Assign 1 (VoidValue int_type) ∷ loop (Assign 1 (plus (Var 1) (Var 0)) ∷ Yield (Some (Var 1)) ∷ []) ∷ [])
    ∷ [])

-- loop i ::= 1.upto!(2); loop #OUT + 1.upto!(2) + " "; end; end
abbrev pub nested_loops : Program
nested_loops = program [] (
    routine [] (int_type ∷ []) (site 1 int_type ∷ record { owner = 1; called = Static (target.Feature 1) int_type; pos = here } ∷ []) (
    loop (Assign 0 (up 0 (int 1) (int 2)) ∷ Loop 1 (stmt_list (put_int (up 1 (int 1) (int 2)) ∷ put (text (codes " ")) ∷ [])) ∷ []) ∷ [])
    ∷ upto ∷ [])

-- class MAIN is outer!:INT is loop yield 1.upto!(3); end; end;
--   main is loop x ::= outer!; #OUT + x; while!(x < 2); end; end; end
abbrev pub abandoned : Program
abandoned = program [] (
    routine [] (int_type ∷ []) (site 2 main_type ∷ []) (
    loop (Assign 0 (IterCall 0 SelfRef (arg_list []) here) ∷ put_int (Var 0) ∷ ExitLoop (While (is_lt (Var 0) (int 2))) ∷ []) ∷ [])
    ∷ upto
    ∷ iter [] [] (site 1 int_type ∷ []) (loop (Yield (Some (up 0 (int 1) (int 3))) ∷ []) ∷ [])
    ∷ [])

-- b ::= bind(1.upto!(_)); loop #OUT + b.call!(3) + " "; end
abbrev pub bound_iter : Program
bound_iter = program (bound_row (false ∷ []) ∷ []) (
    routine [] (own_type ∷ []) (record { owner = 0; called = Bound; pos = here } ∷ []) (
    Assign 0 (Bind (Static (target.Feature 1) int_type) (int 1) (arg_list (Open ∷ [])) own_type here)
    ∷ loop (put_int (up 0 (Var 0) (int 3)) ∷ put (text (codes " ")) ∷ []) ∷ [])
    ∷ upto ∷ [])

-- ---- copies out

-- class MAIN is double(inout n:INT, out old:INT):INT is old := n; n := n + n; return 1; end;
--   main is x ::= 21; y:INT; #OUT + double(inout x, out y) + x + y; end; end
abbrev pub copies_at_return : Program
copies_at_return = program [] (
    routine [] (int_type ∷ int_type ∷ []) [] (
    Assign 0 (int 21) ∷ Assign 1 (VoidValue int_type)
    ∷ put_int (call 1 (Variable Inout 0 ∷ Variable Out 1 ∷ [])) ∷ put_int (Var 0) ∷ put_int (Var 1) ∷ [])
    ∷ routine (Inout ∷ Out ∷ []) (int_type ∷ int_type ∷ []) [] (
    Assign 1 (Var 0) ∷ Assign 0 (plus (Var 0) (Var 0)) ∷ Return (Some (int 1)) ∷ [])
    ∷ [])

-- class MAIN is twice!(inout n:INT, out was:INT):BOOL is
--     loop if was = 0 then was := n; end; n := n + n; yield n < 9; end; end;
--   main is x ::= 1; y:INT; loop b ::= twice!(inout x, out y); #OUT + y; while!(b); end; #OUT + x; end; end
abbrev pub copies_at_yield : Program
copies_at_yield = program [] (
    routine [] (int_type ∷ int_type ∷ bool_type ∷ []) (site 1 main_type ∷ []) (
    Assign 0 (int 1) ∷ Assign 1 (VoidValue int_type)
    ∷ loop (Assign 2 (IterCall 0 SelfRef (arg_list (Variable Inout 0 ∷ Variable Out 1 ∷ [])) here) ∷ put_int (Var 1) ∷ ExitLoop (While (Var 2)) ∷ [])
    ∷ put_int (Var 0) ∷ [])
    ∷ iter (Inout ∷ Out ∷ []) (int_type ∷ int_type ∷ []) [] (
    loop (when (is_eq (Var 1) (int 0)) (Assign 1 (Var 0) ∷ []) ∷ Assign 0 (plus (Var 0) (Var 0)) ∷ Yield (Some (is_lt (Var 0) (int 9))) ∷ [])
    ∷ [])
    ∷ [])

-- class MAIN is f(out n:INT) is n := 7; end; main is x:$OB; f(out x); typecase x when INT then #OUT + x; end; end; end
abbrev pub copies_boxed : Program
copies_boxed = program [] (
    routine [] (ob_type ∷ int_type ∷ []) [] (
    Assign 0 (VoidValue ob_type) ∷ ExprStmt (call 1 (Variable Out 0 ∷ []))
    ∷ TypeCase 0 (arm_list ((int_type, 1, stmt_list (put_int (Var 1) ∷ [])) ∷ [])) no_else here ∷ [])
    ∷ routine (Out ∷ []) (int_type ∷ []) [] (Assign 0 (int 7) ∷ [])
    ∷ [])

-- ---- bound values

-- class MAIN is f(a:INT, b:INT):INT is return a - b; end; main is g ::= bind(f(_, 2)); #OUT + g.call(9); end; end
abbrev pub bound_routine : Program
bound_routine = program (bound_row (false ∷ []) ∷ []) (
    routine [] (own_type ∷ []) [] (
    Assign 0 (Bind (Static (target.Feature 1) main_type) SelfRef (arg_list (Open ∷ tree.Value In (int 2) ∷ [])) own_type here)
    ∷ put_int (Call Bound (Var 0) (arg_list (with_one (int 9))) here) ∷ [])
    ∷ routine (In ∷ In ∷ []) (int_type ∷ int_type ∷ []) [] (Return (Some (builtin int_type IntMinus (Var 0) (with_one (Var 1)))) ∷ [])
    ∷ [])

-- class MAIN is count!(step:INT):INT is s:INT; loop s := s + step; step := 100; yield s; end; end;
--   main is b ::= bind(count!(2)); loop x ::= b.call!; #OUT + x + " "; while!(x < 6); end; end; end
abbrev pub bound_anew : Program
bound_anew = program (bound_row [] ∷ []) (
    routine [] (own_type ∷ int_type ∷ []) (record { owner = 0; called = Bound; pos = here } ∷ []) (
    Assign 0 (Bind (Static (target.Feature 1) main_type) SelfRef (arg_list (with_one (int 2))) own_type here)
    ∷ loop (
    Assign 1 (IterCall 0 (Var 0) (arg_list []) here)
    ∷ put_int (Var 1) ∷ put (text (codes " ")) ∷ ExitLoop (While (is_lt (Var 1) (int 6))) ∷ []) ∷ [])
    ∷ iter (In ∷ []) (int_type ∷ int_type ∷ []) [] (
    Assign 1 (VoidValue int_type)
    ∷ loop (Assign 1 (plus (Var 1) (Var 0)) ∷ Assign 0 (int 100) ∷ Yield (Some (Var 1)) ∷ []) ∷ [])
    ∷ [])

-- ---- faults

-- #OUT + "a"; x ::= 2147483647; x := x + 1
abbrev pub overflows : Program
overflows =
    program [] (routine [] (int_type ∷ []) [] (put (text (codes "a")) ∷ Assign 0 (int 2147483647) ∷ Assign 0 (plus (Var 0) (int 1)) ∷ []) ∷ [])

-- x ::= (-2147483647-1) / (-1)
abbrev pub overflows_by_division : Program
overflows_by_division = program [] (
    routine [] (int_type ∷ []) [] (
    Assign 0 (div (plus (tree.Int (negsuc 2147483646)) (tree.Int (negsuc 0))) (tree.Int (negsuc 0))) ∷ [])
    ∷ [])

-- x ::= 1/0
abbrev pub divides_by_zero : Program
divides_by_zero = program [] (routine [] (int_type ∷ []) [] (Assign 0 (div (int 1) (int 0)) ∷ []) ∷ [])

-- #OUT + (-7)/2 + " " + (-7)%2
abbrev pub divides : Program
divides = program [] (routine [] [] [] (
    put_int (div (tree.Int (negsuc 6)) (int 2)) ∷ put (text (codes " "))
    ∷ put_int (builtin int_type IntMod (tree.Int (negsuc 6)) (with_one (int 2))) ∷ []) ∷ [])

-- the types with ARRAY{INT}
abbrev pub array_types : List TypeRow
array_types = record { kind = kind.Reference; attrs = []; elem = Some int_type; above = ob_type ∷ []; wide_args = []; wide = false } ∷ []

-- a ::= #ARRAY{INT}(2); a[1] := 7; #OUT + a[1] + a.size; x ::= a[2]
abbrev pub passes_the_end : Program
passes_the_end = program array_types (routine [] (own_type ∷ int_type ∷ []) [] (
    Assign 0 (new_array (int 2))
    ∷ ExprStmt (builtin own_type ArefAset (Var 0) (tree.Value In (int 1) ∷ tree.Value In (int 7) ∷ []))
    ∷ put_int (builtin own_type ArefAget (Var 0) (with_one (int 1)))
    ∷ put_int (builtin own_type ArefAsize (Var 0) [])
    ∷ Assign 1 (builtin own_type ArefAget (Var 0) (with_one (int 2))) ∷ []) ∷ [])

-- a ::= #ARRAY{INT}(n)
abbrev pub makes_array : Expr → Program
makes_array n = program array_types (routine [] (own_type ∷ []) [] (Assign 0 (new_array n) ∷ []) ∷ [])

-- class C is attr a:INT; end; class MAIN is g:INT is #OUT + "g"; return 1; end; main is c:C; c.a := g; end; end
abbrev pub reads_void : Program
reads_void = program (class_row (int_type ∷ []) (ob_type ∷ []) ∷ []) (
    routine [] (own_type ∷ []) [] (
    Assign 0 (VoidValue own_type) ∷ ExprStmt (Call (Static (target.Set 0) own_type) (Var 0) (arg_list (with_one (call 1 []))) here) ∷ [])
    ∷ routine [] [] [] (put (text (codes "g")) ∷ Return (Some (int 1)) ∷ [])
    ∷ [])

-- class MAIN is r(n:INT):INT is if n = 1 then return 1; end; return r(n-1); end; main is x ::= r(N); end; end
abbrev pub recursive : ℕ → Program
recursive n = program [] (
    routine [] (int_type ∷ []) [] (Assign 0 (call 1 (with_one (int n))) ∷ [])
    ∷ routine (In ∷ []) (int_type ∷ []) [] (
    when (is_eq (Var 0) (int 1)) (Return (Some (int 1)) ∷ [])
    ∷ Return (Some (call 1 (with_one (builtin int_type IntMinus (Var 0) (with_one (int 1)))))) ∷ [])
    ∷ [])

-- ---- protect

-- class MAIN is it!:INT is yield 1; yield 2; raise "x"; end;
--   main is protect loop #OUT + it! + " "; end; when STR then #OUT + "caught " + exception; end; end; end
abbrev pub catches : Program
catches = program [] (
    routine [] [] (site 1 main_type ∷ []) (
    Protect (stmt_list (loop (put_int (IterCall 0 SelfRef (arg_list []) here) ∷ put (text (codes " ")) ∷ []) ∷ []))
    (arm_list ((str_type, 0, stmt_list (put (text (codes "caught ")) ∷ put Exception ∷ [])) ∷ [])) no_else ∷ [])
    ∷ iter [] [] [] (Yield (Some (int 1)) ∷ Yield (Some (int 2)) ∷ Raise (text (codes "x")) here ∷ [])
    ∷ [])

-- protect x ::= 1/0; #OUT + "no"; when FAULT then STATEMENTS end
abbrev pub catches_fault : List Stmt → Program
catches_fault statements = program [] (
    routine [] (int_type ∷ []) [] (
    Protect (stmt_list (Assign 0 (div (int 1) (int 0)) ∷ put (text (codes "no")) ∷ []))
    (arm_list ((fault_type, 0, stmt_list statements) ∷ [])) no_else ∷ []) ∷ [])

-- of FAULT: str:STR is case kind when 1 then return "overflow"; when 2 then return "division by zero"; else return "other"; end; end
abbrev pub fault_str : Feature
fault_str = routine [] (int_type ∷ []) [] (
    Assign 0 (Call (Static (target.Get 0) fault_type) SelfRef (arg_list []) here)
    ∷ If (test_list (
    (expr_list (is_eq (Var 0) (int 1) ∷ []), stmt_list (Return (Some (text (codes "overflow"))) ∷ []))
    ∷ (expr_list (is_eq (Var 0) (int 2) ∷ []), stmt_list (Return (Some (text (codes "division by zero"))) ∷ []))
    ∷ [])) (stmt_list (Return (Some (text (codes "other"))) ∷ []))
    ∷ Fault fault_kind.NoReturn here ∷ [])

-- the program with the feature, as the implementation of the signature `str` of `$STR` by FAULT
abbrev pub with_str : Program → Program
with_str p = record p {
  features = p.features ++ fault_str ∷ [];
  signatures = record { impls = record { ty = fault_type; target = target.Feature 1 } ∷ []; wide_args = []; wide = false } ∷ [];
}

-- an attribute of the exception
abbrev pub of_fault : ℕ → Expr
of_fault a = Call (Static (target.Get a) fault_type) Exception (arg_list []) here

-- #OUT + exception.kind + " " + exception.line + " " + exception, where the exception's text is that of its `str`
abbrev pub reports_fault : Program
reports_fault = with_str (catches_fault (
    put_int (of_fault 0) ∷ put (text (codes " ")) ∷ put_int (of_fault 1)
    ∷ put (text (codes " ")) ∷ put (Call (Dispatch 0) Exception (arg_list []) here) ∷ []))

-- raise exception
abbrev pub raises_again : Program
raises_again = catches_fault (Raise Exception here ∷ [])

-- protect raise "a"; when STR then
--   protect protect raise "b"; when STR then raise "c"; end; when STR then #OUT + exception; end;
--   #OUT + exception; end
abbrev pub raises_in_branches : Program
raises_in_branches = program [] (
    routine [] [] [] (
    Protect (stmt_list (Raise (text (codes "a")) here ∷ [])) (arm_list ((
      str_type,
      0,
      stmt_list (
          Protect (stmt_list (
          Protect (stmt_list (Raise (text (codes "b")) here ∷ []))
          (arm_list ((str_type, 0, stmt_list (Raise (text (codes "c")) here ∷ [])) ∷ [])) no_else ∷ []))
          (arm_list ((str_type, 0, stmt_list (put Exception ∷ [])) ∷ [])) no_else
          ∷ put Exception ∷ []),
    ) ∷ [])) no_else ∷ [])
    ∷ [])

-- class MAIN is it!:INT is yield 1; x ::= 1/0; end;
--   main is protect loop #OUT + it!; end; else #OUT + "c"; end; end; end
abbrev pub catches_fault_of_iter : Program
catches_fault_of_iter = program [] (
    routine [] [] (site 1 main_type ∷ []) (
    Protect (stmt_list (loop (put_int (IterCall 0 SelfRef (arg_list []) here) ∷ []) ∷ []))
    (arm_list []) (otherwise (stmt_list (put (text (codes "c")) ∷ []))) ∷ [])
    ∷ iter [] (int_type ∷ []) [] (Yield (Some (int 1)) ∷ Assign 0 (div (int 1) (int 0)) ∷ [])
    ∷ [])

-- class MAIN is inner!:INT is loop yield 1; end; end;
--   outer!:INT is loop x ::= inner!; yield x; raise "x"; end; end;
--   main is protect loop y ::= outer!; z ::= inner!; end; when STR then #OUT + "c"; end; end; end
abbrev pub raises_through : Program
raises_through = program [] (
    routine [] (int_type ∷ int_type ∷ []) (site 2 main_type ∷ site 1 main_type ∷ []) (
    Protect (stmt_list (loop (Assign 0 (IterCall 0 SelfRef (arg_list []) here) ∷ Assign 1 (IterCall 1 SelfRef (arg_list []) here) ∷ []) ∷ []))
    (arm_list ((str_type, 0, stmt_list (put (text (codes "c")) ∷ [])) ∷ [])) no_else ∷ [])
    ∷ iter [] [] [] (loop (Yield (Some (int 1)) ∷ []) ∷ [])
    ∷ iter [] (int_type ∷ []) (site 1 main_type ∷ []) (
    loop (Assign 0 (IterCall 0 SelfRef (arg_list []) here) ∷ Yield (Some (Var 0)) ∷ Raise (text (codes "x")) here ∷ []) ∷ [])
    ∷ [])

-- ---- dispatch and boxing

-- abstract class $A is f(x:INT):$OB; end;
-- class C < $A is create:SAME is return new; end; f(x:$OB):INT is typecase x when INT then return x + 1; end; end; end;
-- a:$A := #C; y ::= a.f(41); typecase y when INT then #OUT + y; end; #OUT + void(y)
abbrev pub dispatches : Program
dispatches = record (program (abstract_row (ob_type ∷ []) ∷ class_row [] (ob_type ∷ own_type ∷ []) ∷ []) (
    routine [] (own_type ∷ ob_type ∷ int_type ∷ []) [] (
    Assign 0 (New 11 here)
    ∷ Assign 1 (Call (Dispatch 0) (Var 0) (arg_list (with_one (int 41))) here)
    ∷ TypeCase 1 (arm_list ((int_type, 2, stmt_list (put_int (Var 2) ∷ [])) ∷ [])) no_else here
    ∷ when (IsVoid (Var 1)) (put (text (codes "void")) ∷ []) ∷ [])
    ∷ routine (In ∷ []) (ob_type ∷ int_type ∷ []) [] (
    TypeCase 0 (arm_list ((int_type, 1, stmt_list (Return (Some (plus (Var 1) (int 1))) ∷ [])) ∷ [])) no_else here
    ∷ Fault fault_kind.NoReturn here ∷ [])
    ∷ [])) { signatures = record { impls = record { ty = 11; target = target.Feature 1 } ∷ []; wide_args = false ∷ []; wide = true } ∷ [] }

-- abstract class $A is f!(x:INT):$OB; end; class C < $A is create:SAME is return new; end; f!(x:$OB):INT is
--   loop typecase x when INT then yield x + 1; end; end; end; end;
-- a:$A := #C; i ::= 0; loop y ::= a.f!(i); typecase y when INT then #OUT + y; i := y; end; while!(i < 3); end
abbrev pub dispatches_iter : Program
dispatches_iter = record (program (abstract_row (ob_type ∷ []) ∷ class_row [] (ob_type ∷ own_type ∷ []) ∷ []) (
    routine [] (own_type ∷ int_type ∷ ob_type ∷ int_type ∷ []) (record { owner = 0; called = Dispatch 0; pos = here } ∷ []) (
    Assign 0 (New 11 here) ∷ Assign 1 (int 0)
    ∷ loop (
    Assign 2 (IterCall 0 (Var 0) (arg_list (with_one (Var 1))) here)
    ∷ TypeCase 2 (arm_list ((int_type, 3, stmt_list (put_int (Var 3) ∷ Assign 1 (Var 3) ∷ [])) ∷ [])) no_else here
    ∷ ExitLoop (While (is_lt (Var 1) (int 3))) ∷ []) ∷ [])
    ∷ iter (In ∷ []) (ob_type ∷ int_type ∷ []) [] (
    loop (TypeCase 0 (arm_list ((int_type, 1, stmt_list (Yield (Some (plus (Var 1) (int 1))) ∷ [])) ∷ [])) no_else here ∷ []) ∷ [])
    ∷ [])) { signatures = record { impls = record { ty = 11; target = target.Feature 1 } ∷ []; wide_args = false ∷ []; wide = true } ∷ [] }

-- the same with `a:$A` void
abbrev pub dispatches_on_void : Program
dispatches_on_void = program (abstract_row (ob_type ∷ []) ∷ []) (
    routine [] (own_type ∷ []) [] (Assign 0 (VoidValue own_type) ∷ ExprStmt (Call (Dispatch 0) (Var 0) (arg_list (with_one (int 41))) here) ∷ []) ∷ [])

-- ---- immutable classes

-- the first attribute of a value of the program's own type, and its change
abbrev pub get_x : Expr → Expr
get_x on = Call (Static (target.Get 0) own_type) on (arg_list []) here

abbrev pub set_x : Expr → Expr → Expr
set_x on e = Call (Static (target.Set 0) own_type) on (arg_list (with_one e)) here

-- immutable class P is attr x,y:INT; end; p:P; p.x := 1; q ::= p; q.x := 5; #OUT + p.x + " " + q.x
abbrev pub copies_immutable : Program
copies_immutable = program (immutable_row (int_type ∷ int_type ∷ []) (ob_type ∷ []) ∷ []) (
    routine [] (own_type ∷ own_type ∷ []) [] (
    Assign 0 (VoidValue own_type) ∷ Assign 0 (set_x (Var 0) (int 1)) ∷ Assign 1 (Var 0) ∷ Assign 1 (set_x (Var 1) (int 5))
    ∷ put_int (get_x (Var 0)) ∷ put (text (codes " ")) ∷ put_int (get_x (Var 1)) ∷ []) ∷ [])

-- ---- input

-- #OUT + "q"; loop b ::= #IN.get_byte; if b < 0 or b = 10 then break!; end; #OUT + b.char; end
abbrev pub reads_line : Program
reads_line = program [] (
    routine [] (int_type ∷ []) [] (
    put (text (codes "q"))
    ∷ loop (
    Assign 0 (builtin out_type InGetByte (VoidValue out_type) [])
    ∷ when (Or (is_lt (Var 0) (int 0)) (is_eq (Var 0) (int 10))) (ExitLoop Break ∷ [])
    ∷ ExprStmt (builtin out_type OutPutChar (VoidValue out_type) (with_one (builtin int_type IntChar (Var 0) []))) ∷ [])
    ∷ []) ∷ [])
