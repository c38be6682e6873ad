-- What a search for a `br_table` or a suspension has found, from an index of a list on.
use Rattle.std.proofs.Common.{◌≡◌, ℕ, ◌+◌, ◌<◌, ◌||◌, Bool, true, false, List, [], ◌∷◌, length, get_or, drop, refl, add-one, drop-cons}
use Rattle.std.proofs.Math.Seq.{drop-length}
use Rattle.std.specs.Prelude.{if◌then◌else◌, ◌==◌}
use Rattle.sa_cfg.specs.declared.body.BasicBlock.{BasicBlock}
use Rattle.wa_syntax.specs.declared.instr.Instr.{Instr}
use Rattle.wa_syntax.specs.declared.module.Func.{Func}
use Rattle.wa_syntax.specs.declared.opcode.TheConstants.{UNREACHABLE, NOP, RETURN, DROP, SELECT, MEMORY_SIZE, MEMORY_GROW}
use Rattle.wa_syntax.specs.Instructions.{Unreachable, Nop, Return, Drop, Select, MemorySize, MemoryGrow, Numeric, instruction, sequence, plain}
use Rattle.wa_syntax.proofs.Instructions.{instructions}
use Rattle.sa_emit.specs.Tables.{is_table, holds_table, has_table, have_table, is_resumed, are_resumed}

pub holds_table-drop : (code : List Instr) (i : ℕ) (instr : Instr) → i < length code → instr ≡ get_or code i instr → holds_table (sequence (drop i code)) ≡ (is_table (instruction instr) || holds_table (sequence (drop (i + 1) code)))
holds_table-drop code i instr h e = rw (add-one, drop-cons code i instr, ← e)

pub have_table-drop : (funcs : List Func) (i : ℕ) (func : Func) → i < length funcs → func ≡ get_or funcs i func → have_table (drop i funcs) ≡ (has_table func || have_table (drop (i + 1) funcs))
have_table-drop funcs i func h e = rw (add-one, drop-cons funcs i func, ← e)

pub are_resumed-drop : (blocks : List BasicBlock) (i : ℕ) (block : BasicBlock) → i < length blocks → block ≡ get_or blocks i block → are_resumed (drop i blocks) ≡ (is_resumed block.exit || are_resumed (drop (i + 1) blocks))
are_resumed-drop blocks i block h e = rw (add-one, drop-cons blocks i block, ← e)

-- ---- an instruction that is its opcode alone

tested : (a b c d e f g : Bool) (op : ℕ) → is_table (if a then Unreachable else if b then Nop else if c then Return else if d then Drop else if e then Select else if f then MemorySize else if g then MemoryGrow else Numeric op) ≡ false
tested true b c d e f g op = refl
tested false true c d e f g op = refl
tested false false true d e f g op = refl
tested false false false true e f g op = refl
tested false false false false true f g op = refl
tested false false false false false true g op = refl
tested false false false false false false true op = refl
tested false false false false false false false op = refl

pub is_table-plain : (op : ℕ) → is_table (plain op) ≡ false
is_table-plain op = tested (op == UNREACHABLE) (op == NOP) (op == RETURN) (op == DROP) (op == SELECT) (op == MEMORY_SIZE) (op == MEMORY_GROW) op

pub ruleset held = (instructions, is_table-plain, holds_table-drop, have_table-drop, are_resumed-drop, drop-length)
