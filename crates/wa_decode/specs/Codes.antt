-- The locals and the code of functions (5.5.13). The indices of their types are in a section of their own.
use Rattle.std.specs.Prelude.{◌≡◌, ℕ, List, map}
use Rattle.wa_syntax.specs.declared.locals.LocalRun.{LocalRun}
use Rattle.wa_syntax.specs.declared.module.Func.{Func}
use Rattle.wa_syntax.specs.declared.module.ValTy.{ValTy}
use Rattle.wa_syntax.specs.Binary.{code, run, vecsec}
use Rattle.wa_syntax.specs.Formats.{Format, vec}
use Rattle.wa_syntax.specs.Locals.{types_of_runs}

-- runs that denote these locals, however many
abbrev pub runs_of : List ValTy → Format
runs_of types bytes = (runs : List LocalRun) × (types_of_runs runs ≡ types) × vec run runs bytes

-- the code of a function whose type has this index
abbrev pub code_of : ℕ → Func → Format
code_of ty f bytes = (f.ty ≡ ty) × code f bytes

-- the codes of the functions whose types have these indices
abbrev pub codes_of : List ℕ → List Func → Format
codes_of types funcs bytes = (map (λ f. f.ty) funcs ≡ types) × vec code funcs bytes

-- their section
abbrev pub codesec : List ℕ → List Func → Format
codesec types funcs bytes = (map (λ f. f.ty) funcs ≡ types) × vecsec 10 code funcs bytes
