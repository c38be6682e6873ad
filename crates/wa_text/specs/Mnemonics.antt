-- The names of opcodes (the index of instructions of the WebAssembly Core Specification 1.0), in its integer part.
use Rattle.std.specs.Prelude.{ℕ, List, [], ◌∷◌, Option, None, Some, codes, ◌==◌, if◌then◌else◌}
use Rattle.wa_text.specs.Words.{Word}

-- instructions that are an opcode alone
abbrev pub plain_names : List (ℕ × Word)
plain_names =
    (0x00, codes "unreachable") ∷ (0x01, codes "nop") ∷ (0x0f, codes "return") ∷ (0x1a, codes "drop") ∷ (0x1b, codes "select")
    ∷ (0x3f, codes "memory.size") ∷ (0x40, codes "memory.grow") ∷ (0x45, codes "i32.eqz") ∷ (0x46, codes "i32.eq")
    ∷ (0x47, codes "i32.ne") ∷ (0x48, codes "i32.lt_s") ∷ (0x49, codes "i32.lt_u") ∷ (0x4a, codes "i32.gt_s")
    ∷ (0x4b, codes "i32.gt_u") ∷ (0x4c, codes "i32.le_s") ∷ (0x4d, codes "i32.le_u") ∷ (0x4e, codes "i32.ge_s")
    ∷ (0x4f, codes "i32.ge_u") ∷ (0x50, codes "i64.eqz") ∷ (0x51, codes "i64.eq") ∷ (0x52, codes "i64.ne")
    ∷ (0x53, codes "i64.lt_s") ∷ (0x54, codes "i64.lt_u") ∷ (0x55, codes "i64.gt_s") ∷ (0x56, codes "i64.gt_u")
    ∷ (0x57, codes "i64.le_s") ∷ (0x58, codes "i64.le_u") ∷ (0x59, codes "i64.ge_s") ∷ (0x5a, codes "i64.ge_u")
    ∷ (0x67, codes "i32.clz") ∷ (0x68, codes "i32.ctz") ∷ (0x69, codes "i32.popcnt") ∷ (0x6a, codes "i32.add")
    ∷ (0x6b, codes "i32.sub") ∷ (0x6c, codes "i32.mul") ∷ (0x6d, codes "i32.div_s") ∷ (0x6e, codes "i32.div_u")
    ∷ (0x6f, codes "i32.rem_s") ∷ (0x70, codes "i32.rem_u") ∷ (0x71, codes "i32.and") ∷ (0x72, codes "i32.or")
    ∷ (0x73, codes "i32.xor") ∷ (0x74, codes "i32.shl") ∷ (0x75, codes "i32.shr_s") ∷ (0x76, codes "i32.shr_u")
    ∷ (0x77, codes "i32.rotl") ∷ (0x78, codes "i32.rotr") ∷ (0x79, codes "i64.clz") ∷ (0x7a, codes "i64.ctz")
    ∷ (0x7b, codes "i64.popcnt") ∷ (0x7c, codes "i64.add") ∷ (0x7d, codes "i64.sub") ∷ (0x7e, codes "i64.mul")
    ∷ (0x7f, codes "i64.div_s") ∷ (0x80, codes "i64.div_u") ∷ (0x81, codes "i64.rem_s") ∷ (0x82, codes "i64.rem_u")
    ∷ (0x83, codes "i64.and") ∷ (0x84, codes "i64.or") ∷ (0x85, codes "i64.xor") ∷ (0x86, codes "i64.shl")
    ∷ (0x87, codes "i64.shr_s") ∷ (0x88, codes "i64.shr_u") ∷ (0x89, codes "i64.rotl") ∷ (0x8a, codes "i64.rotr")
    ∷ (0xa7, codes "i32.wrap_i64") ∷ (0xac, codes "i64.extend_i32_s") ∷ (0xad, codes "i64.extend_i32_u") ∷ []

-- loads and stores
abbrev pub access_names : List (ℕ × Word)
access_names =
    (0x28, codes "i32.load") ∷ (0x29, codes "i64.load") ∷ (0x2c, codes "i32.load8_s") ∷ (0x2d, codes "i32.load8_u")
    ∷ (0x2e, codes "i32.load16_s") ∷ (0x2f, codes "i32.load16_u") ∷ (0x30, codes "i64.load8_s") ∷ (0x31, codes "i64.load8_u")
    ∷ (0x32, codes "i64.load16_s") ∷ (0x33, codes "i64.load16_u") ∷ (0x34, codes "i64.load32_s") ∷ (0x35, codes "i64.load32_u")
    ∷ (0x36, codes "i32.store") ∷ (0x37, codes "i64.store") ∷ (0x3a, codes "i32.store8") ∷ (0x3b, codes "i32.store16")
    ∷ (0x3c, codes "i64.store8") ∷ (0x3d, codes "i64.store16") ∷ (0x3e, codes "i64.store32") ∷ []

-- the name of an opcode in a table
abbrev pub name_in : List (ℕ × Word) → ℕ → Option Word
name_in [] opcode = None
name_in (row ∷ rows) opcode = if row.0 == opcode then Some row.1 else name_in rows opcode
