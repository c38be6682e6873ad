-- Which spelling of a module's parts is written (chapter 5): the shortest.
use Rattle.std.specs.Prelude.{◌≡◌, ◌≢◌, ℕ, ◌+◌, ◌^◌, ◌<◌, ◌≤◌, ◌⊎◌, List, [], ◌∷◌, ◌++◌, length, map, Result, Ok, ⊤}
use Rattle.std.specs.Global.{Vec}
use Rattle.std.specs.List.{FoldsTo}
use denote.Ref.{Bor, MutBor}
use Rattle.wa_syntax.specs.declared.instr.Instr.{Instr}
use Rattle.wa_syntax.specs.declared.locals.LocalRun.{LocalRun}
use Rattle.wa_syntax.specs.declared.module.Module.{Module}
use Rattle.failure.specs.declared.no_memory.NoMemory.{NoMemory}
use Rattle.wa_syntax.specs.Leb128.{IsUnsigned, IsShortest, Appends}
use Rattle.wa_syntax.specs.Formats.{Format, ◌then◌, byte, u32}
use Rattle.wa_syntax.specs.Binary.{functype, tabletype, memtype, customs, vecsec, import, global, export, startsec, elem, code, segment}

-- the old list is a prefix of the new one
abbrev pub Extends : List ℕ → List ℕ → Type 0
Extends old new = (more : List ℕ) × (new ≡ old ++ more)

-- if any bytes are of the format, these are, and any others that are of it are longer
abbrev pub IsLeast : Format → List ℕ → Type 0
IsLeast B bytes = (other : List ℕ) → B other → B bytes × ((other ≡ bytes) ⊎ (length bytes < length other))

-- the new list is the old one with such bytes at its end
pub record Adds (B : Format) (old new : List ℕ) : Type 0 where
  pub bytes : List ℕ
  pub least : IsLeast B bytes
  pub is : new ≡ old ++ bytes

-- a number, by its shortest spelling (5.2.2)
abbrev pub IsNumber : List ℕ → ℕ → Type 0
IsNumber = IsShortest (IsUnsigned 32)

-- bytes after their count (5.2.1)
abbrev pub IsCounted : List ℕ → List ℕ → Type 0
IsCounted bytes content = (count : List ℕ) × IsNumber count (length content) × (bytes ≡ count ++ content)

-- a section: its id, the length of its content, and the content (5.5.2)
abbrev pub IsSection : ℕ → List ℕ → List ℕ → Type 0
IsSection id bytes content = (rest : List ℕ) × IsCounted rest content × (bytes ≡ id ∷ rest)

-- a call that succeeds, at the bytes before and at v, leaves the bytes after
pub record Leaves {V : Type 0} (post : MutBor (Vec ℕ) → Bor V → Result (Unit {0}) NoMemory → MutBor (Vec ℕ) → Type 0)
    (before : List ℕ) (v : V) (after : List ℕ) : Type 0 where
  pub old : MutBor (Vec ℕ)
  pub shown : Bor V
  pub new : MutBor (Vec ℕ)
  pub called : post old shown (Ok tt) new
  pub is_before : old.now.items ≡ before
  pub is_v : shown.now ≡ v
  pub is_after : new.now.items ≡ after

-- how many values there are, and then the values, each by a step (5.1.3)
abbrev pub AddsVector : {V : Type 0} → (List ℕ → V → List ℕ → Type 0) → List ℕ → List ℕ → List V → Type 0
AddsVector Step old new vs = (begun : List ℕ) × Appends IsNumber old begun (length vs) × FoldsTo Step begun vs new

-- the section of a vector, which is omitted where the vector is empty (5.5.2)
abbrev pub AddsVectorSection : {V : Type 0} → (List ℕ → V → List ℕ → Type 0) → ℕ → List ℕ → List ℕ → List V → Type 0
AddsVectorSection Step id old new vs =
    ((vs ≡ []) × (new ≡ old))
    ⊎ ((content : List ℕ) × (0 < length vs) × AddsVector Step [] content vs × Appends (IsSection id) old new content)

-- two runs that are not empty and that no run denotes: of two types, or too long together
abbrev pub AreApart : LocalRun → LocalRun → Type 0
AreApart first second =
    (0 < first.count) × (0 < second.count) × ((first.ty ≢ second.ty) ⊎ (2 ^ 32 ≤ first.count + second.count))

-- no run is empty, and no two neighbours could be one run (5.5.13)
abbrev pub AreLongest : List LocalRun → Type 0
AreLongest [] = ⊤
AreLongest (last ∷ []) = 0 < last.count
AreLongest (first ∷ second ∷ runs) = AreApart first second × AreLongest (second ∷ runs)

-- these runs and one more at their end, which may be empty where it is the only one
abbrev pub AreLongestTo : List LocalRun → LocalRun → Type 0
AreLongestTo runs last = ((runs ≡ []) × (last.count ≡ 0)) ⊎ AreLongest (runs ++ last ∷ [])

-- two runs as one: the one, where the other is empty, or a run of both
abbrev pub IsJoined : LocalRun → LocalRun → LocalRun → Type 0
IsJoined first second run =
    ((first.count ≡ 0) × (run ≡ second))
    ⊎ ((second.count ≡ 0) × (run ≡ first))
    ⊎ ((first.ty ≡ second.ty) × (0 < first.count) × (run.count ≡ first.count + second.count) × (run.ty ≡ first.ty))

-- the rest of an `if`: its other branch, if there is one, and its end (5.4.1)
abbrev pub else_end : (List Instr → Format) → List Instr → Format
else_end Body no_branch bytes =
    ((no_branch ≡ []) × byte 0x0b bytes) ⊎ (byte 0x05 then Body no_branch then byte 0x0b) bytes

-- the sections of a module, with custom ones anywhere between them (5.5.15)
abbrev pub sections : Module → Format
sections m =
    customs then vecsec 1 functype m.types
    then customs then vecsec 2 import m.imports
    then customs then vecsec 3 u32 (map (λ f. f.ty) m.funcs)
    then customs then vecsec 4 tabletype m.tables
    then customs then vecsec 5 memtype m.memories
    then customs then vecsec 6 global m.globals
    then customs then vecsec 7 export m.exports
    then customs then startsec m.start
    then customs then vecsec 9 elem m.elems
    then customs then vecsec 10 code m.funcs
    then customs then vecsec 11 segment m.segments
    then customs
