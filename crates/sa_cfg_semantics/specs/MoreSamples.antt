-- More small control-flow graphs: initialisers, turns of built-ins that don't succeed, boxing in its order, and operations that contradict
-- their own numbers.
use Rattle.std.specs.Prelude.{ℕ, false, List, [], ◌∷◌, ◌++◌, map, take, length, Some, None, codes}
use Rattle.sa_ast.specs.declared.class.ClassKind.TheVariants as kind
use Rattle.sa_ast.specs.declared.fault_kind.FaultKind.{FaultKind}
use Rattle.sa_ast.specs.declared.ty.Mode.TheVariants.{In, Out, Inout, Once}
use Rattle.sa_typed.specs.declared.feature.Target.TheVariants as target
use Rattle.sa_cfg.specs.declared.call.CallTarget.TheVariants.{Body, Builtin, Get, GetShared, Dispatch, Bound}
use Rattle.sa_cfg.specs.declared.program.CfgProgram.{CfgProgram}
use Rattle.sa_cfg.specs.declared.program.TypeLayout.{TypeLayout}
use Rattle.sa_cfg.specs.declared.operation.Constant.TheVariants as const
use Rattle.sa_cfg.specs.declared.operation.Terminator.TheVariants.{Jump, Branch, Return, Suspend, Quit, Fault}
use Rattle.sa_cfg.specs.declared.operation.CfgOperation.{CfgOperation}
use Rattle.sa_cfg.specs.declared.operation.CfgOperation.TheVariants.{Const, Move, SelfRef, Turn, New, Box, Unbox, TypeIs}
use Rattle.sa_cfg.specs.declared.operation.CfgOperation.TheVariants.{InitShared, Call, Start, Resume, HasFrame, Enter}
use Rattle.sa_prelude.specs.declared.feature.BuiltinFeature.TheVariants.{StrCat, OutPut}
use Rattle.sa_semantics.specs.Value.{bool_type, int_type, str_type}
use Rattle.sa_semantics.specs.Program.{Signature}
use Rattle.sa_cfg_semantics.specs.Samples.{leaving, fails_to, fails, block, blocks, args, plan, int, of_type}
use Rattle.sa_cfg_semantics.specs.Samples.{plus, main_type, out_type, own_type, put_int, layout, layouts}
use Rattle.sa_cfg_semantics.specs.Samples.{body, formal, program, iter_body, upto, looping_from, iter_plan}

-- the program where the types of its own have these layouts
abbrev pub with_own : List TypeLayout → CfgProgram → CfgProgram
with_own own p = let all = take own_type layouts ++ own in record p { layouts = all; types = map (λ t. length t.attrs) all }

abbrev pub text : ℕ → ℕ → CfgOperation
text to n = Const to (const.Text n)

-- ---- initialisers

-- immutable class P is attr x:INT; shared s:INT := x + 1; shared o:$OB := self; end;
-- class MAIN is main is #OUT + P::s; y:$OB := P::o; typecase y when P then #OUT + "P"; else #OUT + "v"; end; end; end
abbrev pub initialises : CfgProgram
initialises = with_own (layout kind.Immutable (int_type ∷ []) ∷ []) (record (program [] [] []) {
  shareds = int_type ∷ 0 ∷ [];
  texts = codes "P" ∷ codes "v" ∷ [];
  bodies =
      body (Some 0) [] 2 (blocks (block (
      of_type 203 out_type ∷ of_type 204 own_type ∷ Call (plan (GetShared 0) own_type 204 [] (Some 205)) ∷ put_int 203 205 ∷
      of_type 203 own_type ∷ Call (plan (GetShared 1) own_type 203 [] (Some 204)) ∷
      Move 0 204 ∷ TypeIs 203 0 own_type ∷ []) (Branch 203 2 3)) (
      block (Unbox 1 0 own_type ∷ of_type 203 out_type ∷ text 204 0 ∷
      Call (plan (Builtin OutPut) out_type 203 (args In (204 ∷ [])) None) ∷ []) (Return None) ∷
      block (of_type 203 out_type ∷ text 204 1 ∷
      Call (plan (Builtin OutPut) out_type 203 (args In (204 ∷ [])) None) ∷ []) (Return None) ∷ []))
      ∷ body None [] 0 (blocks (block (
      Turn ∷ of_type 203 own_type ∷ Call (plan (Get 0) own_type 203 [] (Some 204)) ∷ int 205 1 ∷ plus 206 204 205 ∷ InitShared 0 206 ∷
      Turn ∷ of_type 203 own_type ∷ Box 204 203 own_type fails ∷ InitShared 1 204 ∷
      of_type 203 main_type ∷ Call (plan (Body 0) main_type 203 [] None) ∷ []) (Return None)) [])
      ∷ [];
})

-- ---- turns of built-ins that don't succeed

-- main is s ::= "123456789"; s := s + s; end
abbrev pub joining : CfgProgram
joining = record (program (body (Some 0) [] 0 (blocks (block (
    text 203 0 ∷ Call (plan (Builtin StrCat) str_type 203 (args In (203 ∷ [])) (Some 204)) ∷ []) (Return None)) []) ∷ []) [] [])
    { texts = codes "123456789" ∷ [] }

-- ---- boxing

-- the branch that puts an INT
abbrev pub puts_int : List CfgOperation
puts_int = of_type 203 out_type ∷ put_int 203 3 ∷ []

-- abstract class $A is f(out a:INT, out b:$OB); end;
-- class C < $A is create:SAME is return new; end; f(out a:INT, out b:INT) is a := 1; b := 2; end; end;
-- a:$A := #C; x,y:$OB; a.f(out x, out y); typecase x when INT then #OUT + x; end; typecase y when INT then #OUT + y; end
abbrev pub boxing_in_two_stages : CfgProgram
boxing_in_two_stages = program (
    body (Some 0) [] 4 (blocks (block (
    New 203 own_type fails ∷ Move 0 203 ∷ of_type 203 0 ∷ Move 1 203 ∷ of_type 203 0 ∷ Move 2 203 ∷
    Call (plan (Dispatch 0) 0 0 (args Out (203 ∷ 204 ∷ [])) None) ∷
    Box 1 203 int_type fails ∷ Move 2 204 ∷ TypeIs 203 1 int_type ∷ []) (Branch 203 2 3)) (
    block (Unbox 3 1 int_type ∷ puts_int) (Jump 3) ∷
    block (TypeIs 203 2 int_type ∷ []) (Branch 203 4 5) ∷
    block (Unbox 3 2 int_type ∷ puts_int) (Jump 5) ∷
    block [] (Return None) ∷ [])) ∷
    body (Some 1) (formal Out int_type ∷ formal Out int_type ∷ []) 2 (blocks (block (
    int 203 1 ∷ Move 0 203 ∷ int 203 2 ∷ Move 1 203 ∷ []) (Return None)) []) ∷
    body None (formal Out int_type ∷ formal Out 0 ∷ []) 2 (blocks (block (
    SelfRef 203 ∷ Call (plan (Body 1) own_type 203 (args Out (0 ∷ 204 ∷ [])) None) ∷ Box 1 204 int_type fails ∷ []) (Return None)) []) ∷ [])
    (2 ∷ []) []

-- the type after the first of the program's own
abbrev pub other_type : ℕ
other_type = 11

-- immutable class P is attr x,y,z:INT; end; abstract class $A is g!(a:INT, once b:P):INT; end;
-- class C < $A is create:SAME is return new; end; g!(a:$OB, once b:$OB):INT is yield 1; end; end;
-- c:$A := #C; p:P; loop #OUT + c.g!(7, p); break!; end
abbrev pub boxing_once_first : CfgProgram
boxing_once_first = with_own (layout kind.Reference [] ∷ layout kind.Immutable (int_type ∷ int_type ∷ int_type ∷ []) ∷ []) (program (
    looping_from [] (New 206 own_type fails ∷ of_type 209 other_type ∷ int 207 7 ∷ [])
    (record (iter_plan (Dispatch 0) []) { args = args In (207 ∷ []) ++ args Once (209 ∷ []) }) (put_int 203 208 ∷ []) (Jump 9) ∷
    iter_body (Some 1) (formal In 0 ∷ formal Once 0 ∷ []) 2
    (blocks (block (int 203 1 ∷ []) (Suspend (Some 203) (Some 2))) (block [] Quit ∷ [])) ∷
    iter_body None (formal In int_type ∷ formal Once other_type ∷ []) 2 (blocks (block (HasFrame 203 ∷ []) (Branch 203 3 2)) (
    block (SelfRef 204 ∷ Box 205 1 other_type fails ∷ []) (Jump 3) ∷
    block (Box 206 0 int_type fails ∷ Enter 1 204 (args In (206 ∷ []) ++ args Once (205 ∷ [])) (Some 207) 208 ∷ []) (Branch 208 4 5) ∷
    block [] Quit ∷
    block [] (Suspend (Some 207) None) ∷ [])) ∷ []) (2 ∷ []) [])

-- ---- faults

-- protect STATEMENT else #OUT + 1; end, where the statement is a fault of a kind
abbrev pub catching_stop : FaultKind → CfgProgram
catching_stop kind = program (body (Some 0) [] 0 (blocks (block [] (Fault kind (fails_to (record leaving { block = 2 })))) (
    block (of_type 203 out_type ∷ int 204 1 ∷ put_int 203 204 ∷ []) (Return None) ∷ [])) ∷ []) [] []

-- ---- operations that contradict their own numbers

-- `main` does these operations, and then puts 1
abbrev pub doing : List CfgOperation → CfgProgram
doing steps = program (
    body (Some 0) [] 2 (blocks (block (steps ++ of_type 203 out_type ∷ int 204 1 ∷ put_int 203 204 ∷ []) (Return None)) []) ∷
    body (Some 1) (formal In int_type ∷ []) 1 (blocks (block [] (Return None)) []) ∷ []) [] []

-- nothing is contradicted
abbrev pub calls : CfgProgram
calls = doing (SelfRef 203 ∷ int 204 7 ∷ Call (plan (Body 1) main_type 203 (args In (204 ∷ [])) None) ∷ [])

-- the callee gives no value
abbrev pub expects_value : CfgProgram
expects_value = doing (SelfRef 203 ∷ int 204 7 ∷ Call (plan (Body 1) main_type 203 (args In (204 ∷ [])) (Some 205)) ∷ [])

-- the callee has an `in` argument
abbrev pub passes_inout : CfgProgram
passes_inout = doing (SelfRef 203 ∷ int 204 7 ∷ Call (plan (Body 1) main_type 203 (args Inout (204 ∷ [])) None) ∷ [])

abbrev pub passes_nothing : CfgProgram
passes_nothing = doing (SelfRef 203 ∷ Call (plan (Body 1) main_type 203 [] None) ∷ [])

-- an INT as a BOOL
abbrev pub boxes_other : CfgProgram
boxes_other = doing (int 204 7 ∷ Box 205 204 bool_type fails ∷ [])

abbrev pub unboxes_other : CfgProgram
unboxes_other = doing (int 204 7 ∷ Box 205 204 int_type fails ∷ Unbox 204 205 bool_type ∷ [])

-- an INT that isn't boxed
abbrev pub asks_type : CfgProgram
asks_type = doing (int 204 7 ∷ TypeIs 205 204 int_type ∷ [])

abbrev pub dispatches_raw : CfgProgram
dispatches_raw = doing (int 204 7 ∷ Call (plan (Dispatch 0) 0 204 [] None) ∷ [])

-- an attribute of FAULT, which isn't the class of the receiver
abbrev pub gets_of_other : CfgProgram
gets_of_other = doing (New 204 own_type fails ∷ Call (plan (Get 0) 7 204 [] (Some 205)) ∷ [])

abbrev pub makes_abstract : CfgProgram
makes_abstract = doing (New 204 0 fails ∷ [])

abbrev pub sets_no_variable : CfgProgram
sets_no_variable = doing (int 300 7 ∷ [])

-- the instance is resumed by an operation with another callee
abbrev pub resumes_other : CfgProgram
resumes_other = program (
    record (body (Some 0) [] 0 (blocks (block (
    SelfRef 206 ∷ int 207 3 ∷ Start 0 (iter_plan (Body 1) (207 ∷ [])) 205 ∷ Resume 0 (iter_plan Bound []) 205 ∷ []) (Return None)) []))
    { sites = 1 } ∷ upto ∷ []) [] []

-- ---- bound values

-- the signatures of a program in which the feature 1 has an adapter
abbrev pub one_signature : List Signature
one_signature = record { impls = record { ty = own_type; target = target.Feature 1 } ∷ []; wide_args = false ∷ []; wide = false } ∷ []
