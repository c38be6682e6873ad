-- What a host may rely on of a program's module, beside that it can be run: its memory, and what the host can reach.
use Rattle.std.specs.Prelude.{codes, ◌≡◌, ◌≤◌, ◌*◌, ℕ, List, [], ◌∷◌, Some, None}
use Rattle.wa_syntax.specs.declared.module.Export.{Export}
use Rattle.wa_syntax.specs.declared.module.ExportKind.TheVariants.{Func, Memory}
use Rattle.wa_syntax.specs.declared.module.Limits.{Limits}
use Rattle.wa_syntax.specs.declared.module.Module.{Module}

-- it has one memory, which never grows, and which holds so many KiB, in pages of 64 KiB
pub record HasRoom (room : ℕ) (m : Module) : Type 0 where
  pub memory : Limits
  pub alone : m.memories ≡ memory ∷ []
  pub fixed : memory.max ≡ Some memory.min
  pub enough : room ≤ memory.min * 64

-- a function is exported as `main`
pub record IsMain (export : Export) : Type 0 where
  pub name : export.name ≡ codes "main"
  pub func : ℕ
  pub kind : export.kind ≡ Func func

-- the memory is exported as `memory`
pub record IsMemory (export : Export) : Type 0 where
  pub name : export.name ≡ codes "memory"
  pub kind : export.kind ≡ Memory 0

-- it exports `main` and its memory, and nothing else
pub record ExportsMain (m : Module) : Type 0 where
  pub first : Export
  pub second : Export
  pub both : m.exports ≡ first ∷ second ∷ []
  pub main : IsMain first
  pub memory : IsMemory second

-- its memory has this room and never grows, nothing runs before `main`, and the host can reach nothing but `main` and the memory
pub record IsConfined (room : ℕ) (m : Module) : Type 0 where
  pub memory : HasRoom room m
  pub start : m.start ≡ None
  pub exports : ExportsMain m
