-- Which ends are alike, and the bound of a small program.
use Rattle.std.proofs.Common.{◌≡◌, List, [], ◌∷◌, get_or, Some, None, codes, refl, ap, arith}
use Rattle.sa_ast.specs.declared.pos.Pos.{Pos}
use Rattle.sa_semantics.specs.Run as source
use Rattle.sa_semantics.specs.Samples as sample
use Rattle.sa_semantics.specs.Samples.{here}
use Rattle.wa_syntax.specs.declared.trap.TrapKind.TheVariants.{Unreachable}
use Rattle.wa_syntax.specs.Machine.{Halt}
use Rattle.wa_syntax.specs.Machine as machine
use Rattle.wa_syntax.specs.Runs.{Run}
use Rattle.sa_correctness.specs.Bound.{steps_a_turn}
use Rattle.sa_correctness.specs.Ends.{Same}

-- a module that has put "hi" out halts so
abbrev halted : Halt → Run
halted halt = record { halt = halt; steps = 9; output = codes "hi" }

there : Pos
there = record { file = 1; at = 7 }

abbrev places : List Pos
places = here ∷ there ∷ []

-- the status is the low 8 bits of the result, and 0 where there is none
same-status : Same places (source.Ended (codes "hi") 3) (halted (machine.Ended (Some 259)))
same-status = (refl, refl)

no-status : Same places (source.Ended (codes "hi") 0) (halted (machine.Ended None))
no-status = (refl, refl)

-- the second of the positions has the index 1
same-fault : Same places (source.Stopped (codes "hi") 2 there) (halted (machine.Stopped 2 1))
same-fault = (refl, refl, refl)

same-failure : Same places (source.InFault (codes "hi")) (halted machine.InFault)
same-failure = refl

-- another status, another kind and other bytes are other ends
other-status : ¬ Same places (source.Ended (codes "hi") 4) (halted (machine.Ended (Some 259)))
other-status same =
    let status : 4 ≡ 3 = same.1 in
    omega (arith, status)

other-kind : ¬ Same places (source.Stopped (codes "hi") 3 there) (halted (machine.Stopped 2 1))
other-kind same =
    let kind : 3 ≡ 2 = same.1 in
    omega (arith, kind)

other-bytes : ¬ Same places (source.Ended (codes "ho") 3) (halted (machine.Ended (Some 259)))
other-bytes same =
    let second : 111 ≡ 105 = ap (λ bytes. get_or bytes 1 0) same.0 in
    omega (arith, second)

-- a module that traps or still runs ends like no program, and a program that is stuck or has spent its turns like no module
no-trap : ¬ Same places (source.Ended (codes "hi") 0) (halted (machine.Trap Unreachable))
no-trap same = same

still-runs : ¬ Same places (source.Spent (codes "hi")) (halted machine.Running)
still-runs same = same

stuck : ¬ Same places source.Stuck (halted machine.Stuck)
stuck same = same

-- s ::= 0; loop s := s + 1.upto!(2); end; #OUT + s
bound-of-summing : steps_a_turn sample.summing ≡ 286001000
bound-of-summing = refl
