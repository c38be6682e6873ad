-- What numeric instructions, loads and stores take and give, as the code holds it.
use Rattle.std.specs.Prelude.{◌≡◌, ℕ, [], ◌∷◌, Option, None, if◌then◌else◌, ◌==◌, option_to_list}
use Rattle.wa_syntax.specs.declared.module.FuncTy.{FuncTy}
use Rattle.wa_syntax.specs.declared.module.ValTy.TheVariants.{I32, I64}
use Rattle.wa_syntax.specs.declared.opcode.TheConstants.{I32_CLZ, I32_POPCNT, I32_ADD, I32_ROTR, I64_CLZ, I64_POPCNT}
use Rattle.wa_syntax.specs.declared.opcode.TheConstants.{I64_ADD, I64_ROTR, I32_WRAP_I64, I64_EXTEND_I32_S, I64_EXTEND_I32_U}
use Rattle.wa_syntax.specs.Instructions as instructions
use Rattle.wa_syntax.specs.Instructions.{takes_gives, is_from_to}
use Rattle.wa_valid.specs.declared.memory.MemoryAccess.{MemoryAccess}
use Rattle.wa_valid.specs.declared.numeric.Effect.{Effect}

-- the type of an instruction with the effect
abbrev pub type_of_effect : Effect → FuncTy
type_of_effect effect = record { params = effect.first ∷ option_to_list effect.second; results = effect.given ∷ [] }

-- the type of the numeric instruction of an opcode, but for tests and comparisons
abbrev pub arithmetic_type : ℕ → Option FuncTy
arithmetic_type op =
    if is_from_to I32_CLZ I32_POPCNT op then takes_gives (I32 ∷ []) I32 else
    if is_from_to I32_ADD I32_ROTR op then takes_gives (I32 ∷ I32 ∷ []) I32 else
    if is_from_to I64_CLZ I64_POPCNT op then takes_gives (I64 ∷ []) I64 else
    if is_from_to I64_ADD I64_ROTR op then takes_gives (I64 ∷ I64 ∷ []) I64 else
    if op == I32_WRAP_I64 then takes_gives (I64 ∷ []) I32 else
    if is_from_to I64_EXTEND_I32_S I64_EXTEND_I32_U op then takes_gives (I32 ∷ []) I64 else
    None

-- the access that the code holds is the definition's, which has its width in bits and its sign besides
abbrev pub IsAccess : MemoryAccess → instructions.Access → Type 0
IsAccess held access = (held.ty ≡ access.ty) × (held.align ≡ access.align)
