-- What a bound value calls in the two runs. Where the typed run binds an implementation of a signature, the run of the control-flow graph
-- binds the adapter of this implementation.
use Rattle.std.specs.Prelude.{ℕ, ◌==◌, if◌then◌else◌, List, flat_map, slice_get, position, Option, Some, option_map, option_and_then}
use Rattle.sa_typed.specs.declared.feature.Target.{Target}
use Rattle.sa_typed.specs.declared.feature.Target.TheVariants as target
use Rattle.sa_typed.specs.declared.program.TypedImplementation.{TypedImplementation}
use Rattle.sa_cfg.specs.declared.program.CfgProgram.{CfgProgram}
use Rattle.sa_semantics.specs.Program.{Signature}
use Rattle.sa_cfg_semantics.specs.Faults.{is_adapter}

-- the implementations of all signatures, in the order in which a control-flow graph has their bodies
abbrev pub implementations : List Signature → List TypedImplementation
implementations signatures = flat_map (λ s. s.impls) signatures

-- the implementation whose adapter is at this index
abbrev pub implementation_of : List Signature → Option ℕ → Option TypedImplementation
implementation_of signatures place = option_and_then (slice_get (implementations signatures)) place

-- the target in the typed program of a target that the control-flow graph binds
abbrev pub source_target : CfgProgram → List Signature → Target → Option Target
source_target p signatures (target.Feature k) =
    if is_adapter p k then option_map (λ i. i.target) (implementation_of signatures (position (λ body. body == k) p.targets))
    else Some (target.Feature k)
source_target p signatures t = Some t
