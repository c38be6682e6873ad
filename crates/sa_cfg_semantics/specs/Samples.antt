-- Small control-flow graphs, each as the source above it is lowered.
use Rattle.std.specs.Prelude.{ℕ, pos, true, false, List, [], ◌∷◌, ◌++◌, map, length, Option, Some, None}
use Rattle.sa_ast.specs.declared.class.ClassKind.{ClassKind}
use Rattle.sa_ast.specs.declared.class.ClassKind.TheVariants as kind
use Rattle.sa_ast.specs.declared.pos.Pos.{Pos}
use Rattle.sa_ast.specs.declared.ty.Mode.{Mode}
use Rattle.sa_ast.specs.declared.ty.Mode.TheVariants.{In, Inout, Once}
use Rattle.sa_cfg.specs.declared.body.BasicBlock.{BasicBlock}
use Rattle.sa_cfg.specs.declared.body.CfgBody.{CfgBody}
use Rattle.sa_cfg.specs.declared.body.BodyParam.{BodyParam}
use Rattle.sa_cfg.specs.declared.call.CallTarget.{CallTarget}
use Rattle.sa_cfg.specs.declared.call.CallTarget.TheVariants.{Body, Builtin, Get, Dispatch, Bound}
use Rattle.sa_cfg.specs.declared.call.CallOperation.{CallOperation}
use Rattle.sa_cfg.specs.declared.call.FaultExit.{FaultExit}
use Rattle.sa_cfg.specs.declared.call.CallOperand.{CallOperand}
use Rattle.sa_cfg.specs.declared.call.Handler.{Handler}
use Rattle.sa_cfg.specs.declared.program.BoundLayout.{BoundLayout}
use Rattle.sa_cfg.specs.declared.program.CfgProgram.{CfgProgram}
use Rattle.sa_cfg.specs.declared.program.TypeLayout.{TypeLayout}
use Rattle.sa_cfg.specs.declared.operation.Constant.TheVariants as const
use Rattle.sa_cfg.specs.declared.operation.Terminator.{Terminator}
use Rattle.sa_cfg.specs.declared.operation.Terminator.TheVariants.{Jump, Branch, Return, Suspend, Quit, Raise}
use Rattle.sa_cfg.specs.declared.operation.CfgOperation.{CfgOperation}
use Rattle.sa_cfg.specs.declared.operation.CfgOperation.TheVariants.{Const, Move, SelfRef, Turn, New, Box, BoxFor, Unbox, TypeIs}
use Rattle.sa_cfg.specs.declared.operation.CfgOperation.TheVariants.{Call, Bind, HasInstance, Start, Resume, HasFrame, Enter, Release}
use Rattle.sa_prelude.specs.declared.feature.BuiltinFeature.{BuiltinFeature}
use Rattle.sa_prelude.specs.declared.feature.BuiltinFeature.TheVariants.{IntPlus, IntIsLt, OutPutInt}
use Rattle.sa_semantics.specs.Value.{int_type, fault_type}

-- ---- short names for control-flow graphs, all of whose faults have the same position

abbrev pub here : Pos
here = record { file = 1; at = 0 }

-- The first temporaries hold a raise that leaves the body, and block 1 of each body is its exit.
abbrev pub leaving : Handler
leaving = record { block = 1; value = 200; place = 201; kind = 202 }

abbrev pub fails_to : Handler → FaultExit
fails_to to = record { place = 0; line = 1; raised = to }

abbrev pub fails : FaultExit
fails = fails_to leaving

abbrev pub block : List CfgOperation → Terminator → BasicBlock
block steps exit = record { steps = steps; exit = exit }

-- block 0, and then those from block 2 on
abbrev pub blocks : BasicBlock → List BasicBlock → List BasicBlock
blocks first more = first ∷ block [] (Raise 200 201 202) ∷ more

abbrev pub args : Mode → List ℕ → List CallOperand
args mode vars = map (λ var. record { mode = mode; var = Some var }) vars

abbrev pub plan : CallTarget → ℕ → ℕ → List CallOperand → Option ℕ → CallOperation
plan callee class recv args value = record { callee = callee; class = class; recv = recv; args = args; value = value; fail = fails }

abbrev pub int : ℕ → ℕ → CfgOperation
int to n = Const to (const.Int (pos n))

-- a void receiver
abbrev pub of_type : ℕ → ℕ → CfgOperation
of_type to ty = Const to (const.Void ty)

-- a call of a built-in feature of INT
abbrev pub on_ints : BuiltinFeature → ℕ → ℕ → ℕ → CfgOperation
on_ints feature to a b = Call (plan (Builtin feature) int_type a (args In (b ∷ [])) (Some to))

abbrev pub plus : ℕ → ℕ → ℕ → CfgOperation
plus = on_ints IntPlus

abbrev pub is_lt : ℕ → ℕ → ℕ → CfgOperation
is_lt = on_ints IntIsLt

-- MAIN, OUT and the first type of a program's own
abbrev pub main_type : ℕ
main_type = 8

abbrev pub out_type : ℕ
out_type = 9

abbrev pub own_type : ℕ
own_type = 10

abbrev pub put_int : ℕ → ℕ → CfgOperation
put_int out var = Call (plan (Builtin OutPutInt) out_type out (args In (var ∷ [])) None)

abbrev pub layout : ClassKind → List ℕ → TypeLayout
layout kind attrs = record { kind = kind; attrs = attrs; array = false; elem = None; above = [] }

abbrev pub layouts : List TypeLayout
layouts =
    layout kind.Abstract [] ∷ layout kind.Abstract [] ∷ layout kind.Abstract [] ∷
    layout kind.Immutable [] ∷ layout kind.Immutable [] ∷ layout kind.Immutable [] ∷ layout kind.Reference [] ∷
    layout kind.Reference (int_type ∷ int_type ∷ []) ∷ layout kind.Reference [] ∷ layout kind.Reference [] ∷ layout kind.Reference [] ∷ []

abbrev pub body : Option ℕ → List BodyParam → ℕ → List BasicBlock → CfgBody
body feature formals variables blocks =
    record { feature = feature; iter = false; formals = formals; variable_count = variables; temporaries = 220; sites = 0; saved = []; blocks = blocks }

abbrev pub formal : Mode → ℕ → BodyParam
formal mode ty = record { mode = mode; ty = ty }

-- it calls the feature 0, which is `main`
abbrev pub last_body : CfgBody
last_body = body None [] 0 (blocks (block (of_type 203 main_type ∷ Call (plan (Body 0) main_type 203 [] None) ∷ []) (Return None)) [])

abbrev pub program : List CfgBody → List ℕ → List BoundLayout → CfgProgram
program bodies targets binds = record {
  bodies = bodies ++ last_body ∷ [];
  texts = [];
  positions = here ∷ [];
  types = map (λ t. length t.attrs) layouts;
  targets = targets;
  layouts = layouts;
  shareds = [];
  binds = binds;
}

-- ---- sums

-- main is x ::= 2147483647; #OUT + (x + 1); end
abbrev pub overflowing : CfgProgram
overflowing = program (body (Some 0) [] 1 (blocks (block (
    int 203 2147483647 ∷ Move 0 203 ∷
    of_type 203 out_type ∷ int 204 1 ∷ plus 205 0 204 ∷ put_int 203 205 ∷ []) (Return None)) []) ∷ []) [] []

-- main is protect x ::= 2147483647; x := x + 1; when FAULT then #OUT + exception.kind; end; end
abbrev pub caught : CfgProgram
caught = program (body (Some 0) [] 1 (blocks (block (
    int 203 2147483647 ∷ Move 0 203 ∷
    int 203 1 ∷
    Call (record {
      callee = Builtin IntPlus;
      class = int_type;
      recv = 0;
      args = args In (203 ∷ []);
      value = Some 204;
      fail = fails_to (record { block = 3; value = 210; place = 211; kind = 212 });
    }) ∷
    Move 0 204 ∷ []) (Jump 2)) (
    block [] (Return None) ∷
    block (TypeIs 203 210 fault_type ∷ []) (Branch 203 4 5) ∷
    block (of_type 203 out_type ∷ Call (plan (Get 0) fault_type 210 [] (Some 204)) ∷ put_int 203 204 ∷ []) (Jump 2) ∷
    block [] (Raise 210 211 212) ∷ [])) ∷ []) [] []

-- main is s ::= 0; i ::= 1; loop while!(i < 11); s := s + i; i := i + 1; end; #OUT + s; end
abbrev pub summing : CfgProgram
summing = program (body (Some 0) [] 2 (blocks (block (int 203 0 ∷ Move 0 203 ∷ int 203 1 ∷ Move 1 203 ∷ []) (Jump 2)) (
    block (Turn ∷ int 203 11 ∷ is_lt 204 1 203 ∷ []) (Branch 204 4 3) ∷
    block (of_type 203 out_type ∷ put_int 203 0 ∷ []) (Return None) ∷
    block (plus 203 0 1 ∷ Move 0 203 ∷ int 203 1 ∷ plus 204 1 203 ∷ Move 1 204 ∷ []) (Jump 2) ∷ [])) ∷ []) [] []

-- ---- calls

-- main is #OUT + twice(21); end
-- twice(n:INT):INT is return n + n; end
abbrev pub calling : CfgProgram
calling = program (
    body (Some 0) [] 0 (blocks (block (
    of_type 203 out_type ∷ SelfRef 204 ∷ int 205 21 ∷ Call (plan (Body 1) main_type 204 (args In (205 ∷ [])) (Some 206)) ∷
    put_int 203 206 ∷ []) (Return None)) []) ∷
    body (Some 1) (formal In int_type ∷ []) 1 (blocks (block (plus 203 0 0 ∷ []) (Return (Some 203))) []) ∷ []) [] []

-- main is deeper; end
-- deeper is deeper; end
abbrev pub deep : CfgProgram
deep = program (body (Some 0) [] 0 (blocks (block (SelfRef 203 ∷ Call (plan (Body 0) main_type 203 [] None) ∷ []) (Return None)) []) ∷ []) [] []

-- The implementation gives an INT, and the signature a $OB, so that the implementation has an adapter.
-- main is a:$A := #B; x:$OB := a.f; typecase x when INT then #OUT + x; end; end
-- f:INT is return 7; end, in a class B < $A
abbrev pub boxing_of : CfgOperation → CfgProgram
boxing_of first = program (
    body (Some 0) [] 3 (blocks (block (
    first ∷ Move 0 203 ∷ Call (plan (Dispatch 0) 0 0 [] (Some 203)) ∷ Move 1 203 ∷ TypeIs 203 1 int_type ∷ []) (Branch 203 2 3)) (
    block (Unbox 2 1 int_type ∷ of_type 203 out_type ∷ put_int 203 2 ∷ []) (Jump 3) ∷
    block [] (Return None) ∷ [])) ∷
    body (Some 1) [] 0 (blocks (block (int 203 7 ∷ []) (Return (Some 203))) []) ∷
    body None [] 0 (blocks (block (
    SelfRef 203 ∷ Call (plan (Body 1) own_type 203 [] (Some 204)) ∷ Box 205 204 int_type fails ∷ []) (Return (Some 205))) []) ∷ [])
    (2 ∷ []) []

abbrev pub boxing : CfgProgram
boxing = boxing_of (New 203 own_type fails)

-- the same with `a` void
abbrev pub void_receiver : CfgProgram
void_receiver = boxing_of (of_type 203 0)

abbrev pub one_implementation : List (List ℕ)
one_implementation = (own_type ∷ []) ∷ []

-- main is r ::= bind(twice(_)); #OUT + r.call(21); end
-- twice(n:INT):INT is return n + n; end
abbrev pub binding : CfgProgram
binding = program (
    body (Some 0) [] 1 (blocks (block (
    SelfRef 203 ∷ Bind (plan (Body 1) main_type 203 (record { mode = In; var = None } ∷ []) (Some 204)) 0 ∷ Move 0 204 ∷
    of_type 203 out_type ∷ int 204 21 ∷ Call (plan Bound 0 0 (args In (204 ∷ [])) (Some 205)) ∷ put_int 203 205 ∷ []) (Return None)) []) ∷
    body (Some 1) (formal In int_type ∷ []) 1 (blocks (block (plus 203 0 0 ∷ []) (Return (Some 203))) []) ∷ [])
    [] (record { ty = own_type; callee = Body 1; class = main_type; «open» = true ∷ [] } ∷ [])

-- The bind chooses the implementation.
-- main is a:$A := #B; r ::= bind(a.twice(_)); #OUT + r.call(21); end
-- twice(n:INT):INT is return n + n; end, in a class B < $A
abbrev pub choosing_of : CfgOperation → CfgProgram
choosing_of first = program (
    body (Some 0) [] 2 (blocks (block (
    first ∷ Move 0 203 ∷ Bind (plan (Dispatch 0) 0 0 (record { mode = In; var = None } ∷ []) (Some 203)) 0 ∷ Move 1 203 ∷
    of_type 203 out_type ∷ int 204 21 ∷ Call (plan Bound 0 1 (args In (204 ∷ [])) (Some 205)) ∷ put_int 203 205 ∷ []) (Return None)) []) ∷
    body (Some 1) (formal In int_type ∷ []) 1 (blocks (block (plus 203 0 0 ∷ []) (Return (Some 203))) []) ∷ [])
    (1 ∷ []) (record { ty = own_type; callee = Dispatch 0; class = 0; «open» = true ∷ [] } ∷ [])

abbrev pub choosing : CfgProgram
choosing = choosing_of (New 203 own_type fails)

-- the same with `a` void
abbrev pub choosing_void : CfgProgram
choosing_void = choosing_of (of_type 203 0)

-- The implementation takes a $OB where the signature has an INT, so that it has an adapter, and the bind boxes what it stores.
-- main is a:$A := #B; r ::= bind(a.f(7)); #OUT + r.call; #OUT + r.call; end
-- f(x:$OB):INT is typecase x when INT then return x; end; return 0; end, in a class B < $A
abbrev pub keeping : CfgProgram
keeping = program (
    body (Some 0) [] 2 (blocks (block (
    New 203 own_type fails ∷ Move 0 203 ∷ int 203 7 ∷ BoxFor 204 203 int_type 0 (own_type ∷ []) fails ∷
    Bind (plan (Dispatch 0) 0 0 (args In (204 ∷ [])) (Some 205)) 0 ∷ Move 1 205 ∷
    of_type 203 out_type ∷ Call (plan Bound 0 1 [] (Some 204)) ∷ put_int 203 204 ∷
    of_type 203 out_type ∷ Call (plan Bound 0 1 [] (Some 204)) ∷ put_int 203 204 ∷ []) (Return None)) []) ∷
    body (Some 1) (formal In 0 ∷ []) 2 (blocks (block (TypeIs 203 0 int_type ∷ []) (Branch 203 2 3)) (
    block (Unbox 1 0 int_type ∷ []) (Return (Some 1)) ∷
    block (int 203 0 ∷ []) (Return (Some 203)) ∷ [])) ∷
    body None (formal In int_type ∷ []) 1 (blocks (block (
    SelfRef 203 ∷ Box 204 0 int_type fails ∷
    Call (plan (Body 1) own_type 203 (args In (204 ∷ [])) (Some 205)) ∷ []) (Return (Some 205))) []) ∷ [])
    (2 ∷ []) (record { ty = own_type; callee = Dispatch 0; class = 0; «open» = false ∷ [] } ∷ [])

-- ---- iters

abbrev pub iter_body : Option ℕ → List BodyParam → ℕ → List BasicBlock → CfgBody
iter_body feature formals variables blocks =
    record { feature = feature; iter = true; formals = formals; variable_count = variables; temporaries = 220; sites = 0; saved = []; blocks = blocks }

-- upto!(once n:INT):INT is i ::= 0; loop while!(i < n); yield i; i := i + 1; end; end
abbrev pub upto : CfgBody
upto = iter_body (Some 1) (formal Once int_type ∷ []) 2 (blocks (block (int 203 0 ∷ Move 1 203 ∷ []) (Jump 2)) (
    block (Turn ∷ is_lt 203 1 0 ∷ []) (Branch 203 4 3) ∷
    block [] Quit ∷
    block [] (Suspend (Some 1) (Some 5)) ∷
    block (int 203 1 ∷ plus 204 1 203 ∷ Move 1 204 ∷ []) (Jump 2) ∷ []))

-- A raise out of the loop releases its instances before it leaves.
abbrev pub out_of_loop : Handler
out_of_loop = record { block = 8; value = 200; place = 201; kind = 202 }

abbrev pub iter_plan : CallTarget → List ℕ → CallOperation
iter_plan callee vars =
    record { callee = callee; class = main_type; recv = 206; args = args Once vars; value = Some 208; fail = fails_to out_of_loop }

-- The first operations, and then a loop each round of which has a call of an iter and what comes after it; where the loop is left, its
-- instance is released, and the body ends by the last terminator.
abbrev pub loop_blocks : List CfgOperation → List CfgOperation → CallOperation → List CfgOperation → Terminator → Terminator → List BasicBlock
loop_blocks first operands plan round exit last = blocks (block first (Jump 2)) (
    block (Turn ∷ of_type 203 out_type ∷ HasInstance 204 0 ∷ []) (Branch 204 4 5) ∷
    block [] last ∷
    block (Resume 0 plan 205 ∷ []) (Jump 6) ∷
    block (operands ++ Start 0 plan 205 ∷ []) (Jump 6) ∷
    block [] (Branch 205 9 7) ∷
    block round exit ∷
    block (Release (0 ∷ []) ∷ []) (Jump 1) ∷
    block (Release (0 ∷ []) ∷ []) (Jump 3) ∷ [])

abbrev pub looping_from : List CfgOperation → List CfgOperation → CallOperation → List CfgOperation → Terminator → CfgBody
looping_from first operands plan round exit =
    record (body (Some 0) [] 1 (loop_blocks first operands plan round exit (Return None))) { sites = 1 }

abbrev pub looping : CfgOperation → CallTarget → List CfgOperation → Terminator → CfgBody
looping receiver callee = looping_from [] (receiver ∷ int 207 3 ∷ []) (iter_plan callee (207 ∷ []))

-- main is loop #OUT + upto!(3); end; end
abbrev pub counting : CfgProgram
counting = program (looping (SelfRef 206) (Body 1) (put_int 203 208 ∷ []) (Jump 2) ∷ upto ∷ []) [] []

-- main is loop #OUT + upto!(3); break!; end; end
abbrev pub breaking : CfgProgram
breaking = program (looping (SelfRef 206) (Body 1) (put_int 203 208 ∷ []) (Jump 9) ∷ upto ∷ []) [] []

-- The call is dispatched, and the signature gives a $OB.
-- main is a:$A := #B; loop x:$OB := a.upto!(3); typecase x when INT then #OUT + x; end; end; end
abbrev pub boxing_iter : CfgProgram
boxing_iter = program (
    looping (New 206 own_type fails) (Dispatch 0) (Unbox 0 208 int_type ∷ put_int 203 0 ∷ []) (Jump 2) ∷ upto ∷
    iter_body None (formal Once int_type ∷ []) 1 (blocks (block (HasFrame 203 ∷ []) (Branch 203 3 2)) (
    block (SelfRef 204 ∷ []) (Jump 3) ∷
    block (Enter 1 204 (args Once (0 ∷ [])) (Some 205) 206 ∷ []) (Branch 206 4 5) ∷
    block [] Quit ∷
    block (Box 207 205 int_type fails ∷ []) (Suspend (Some 207) None) ∷ [])) ∷ []) (2 ∷ []) []

-- The iter takes a $OB where the signature has an INT, which is boxed at the start.
-- main is a:$A := #B; loop #OUT + a.two!(3); end; end
-- two!(once x:$OB):INT is yield 1; yield 2; end, in a class B < $A
abbrev pub boxing_once : CfgProgram
boxing_once = program (
    looping (New 206 own_type fails) (Dispatch 0) (put_int 203 208 ∷ []) (Jump 2) ∷
    iter_body (Some 1) (formal Once 0 ∷ []) 1 (blocks (block (int 203 1 ∷ []) (Suspend (Some 203) (Some 2))) (
    block (int 203 2 ∷ []) (Suspend (Some 203) (Some 3)) ∷
    block [] Quit ∷ [])) ∷
    iter_body None (formal Once int_type ∷ []) 1 (blocks (block (HasFrame 203 ∷ []) (Branch 203 3 2)) (
    block (SelfRef 204 ∷ Box 205 0 int_type fails ∷ []) (Jump 3) ∷
    block (Enter 1 204 (args Once (205 ∷ [])) (Some 206) 207 ∷ []) (Branch 207 4 5) ∷
    block [] Quit ∷
    block [] (Suspend (Some 206) None) ∷ [])) ∷ []) (2 ∷ []) []

-- main is loop upto!(3); x ::= 2147483647; x := x + 1; end; end
-- The raise releases the instance that is suspended.
abbrev pub failing : CfgProgram
failing = program (looping (SelfRef 206) (Body 1) (
    int 210 2147483647 ∷ int 211 1 ∷
    Call (record {
      callee = Builtin IntPlus;
      class = int_type;
      recv = 210;
      args = args In (211 ∷ []);
      value = Some 212;
      fail = fails_to out_of_loop;
    }) ∷ []) (Jump 2) ∷ upto ∷ []) [] []

-- main is loop #OUT + broken!(3); end; end
-- broken!(once n:INT):INT is yield n; n := n + 2147483647; end
abbrev pub raising : CfgProgram
raising = program (looping (SelfRef 206) (Body 1) (put_int 203 208 ∷ []) (Jump 2) ∷
    iter_body (Some 1) (formal Once int_type ∷ []) 1 (blocks (block [] (Suspend (Some 0) (Some 2))) (
    block (int 203 2147483647 ∷ plus 204 0 203 ∷ Move 0 204 ∷ []) Quit ∷ [])) ∷ []) [] []

-- main is a ::= 1; b ::= 2; swap(inout a, inout b); #OUT + a; #OUT + b; end
-- swap(inout a:INT, inout b:INT) is t ::= a; a := b; b := t; end
abbrev pub swapping : CfgProgram
swapping = program (
    body (Some 0) [] 2 (blocks (block (int 203 1 ∷ Move 0 203 ∷ int 203 2 ∷ Move 1 203 ∷
    SelfRef 203 ∷ Call (plan (Body 1) main_type 203 (args Inout (0 ∷ 1 ∷ [])) None) ∷
    of_type 203 out_type ∷ put_int 203 0 ∷ of_type 203 out_type ∷ put_int 203 1 ∷ []) (Return None)) []) ∷
    body (Some 1) (formal Inout int_type ∷ formal Inout int_type ∷ []) 3 (blocks (block (
    Move 2 0 ∷ Move 0 1 ∷ Move 1 2 ∷ []) (Return None)) []) ∷ []) [] []

-- main is r ::= bind(upto!(3)); loop #OUT + r.call!; end; end
abbrev pub bound_iter : CfgProgram
bound_iter = program (
    looping_from (SelfRef 203 ∷ int 204 3 ∷ Bind (plan (Body 1) main_type 203 (args Once (204 ∷ [])) (Some 205)) 0 ∷ Move 0 205 ∷ [])
    (Move 206 0 ∷ []) (iter_plan Bound []) (put_int 203 208 ∷ []) (Jump 2) ∷ upto ∷ [])
    [] (record { ty = own_type; callee = Body 1; class = main_type; «open» = false ∷ [] } ∷ [])

-- main is loop #OUT + through!; break!; end; end
-- through!:INT is loop yield upto!(3); end; end
abbrev pub nested : CfgProgram
nested = program (
    looping_from [] (SelfRef 206 ∷ []) (iter_plan (Body 2) []) (put_int 203 208 ∷ []) (Jump 9) ∷ upto ∷
    record (iter_body (Some 2) [] 0 (
    loop_blocks [] (SelfRef 206 ∷ int 207 3 ∷ []) (iter_plan (Body 1) (207 ∷ [])) [] (Suspend (Some 208) (Some 2)) Quit)) { sites = 1 }
    ∷ []) [] []
