-- Sections (5.5.2), and the module that they make, by the positions where they begin.
-- Custom ones are skipped as far as they go.
use Rattle.std.specs.Prelude.{◌≡◌, ◌≢◌, ℕ, List, map, slice_get, Some, Result, IfOk, MatchResult}
use Rattle.wa_syntax.specs.declared.module.Module.{Module}
use Rattle.wa_syntax.specs.Binary.{functype, tabletype, memtype, vecsec, customs, import, global, export, startsec, elem, code, segment}
use Rattle.wa_syntax.specs.Binary as binary
use Rattle.wa_syntax.specs.Formats.{Format, ◌then◌, exactly, name, sized, u32}
use Rattle.wa_decode.specs.declared.fault.DecodeFault.{DecodeFault}
use Rattle.wa_decode.specs.declared.fault.DecodeFault.TheVariants.{NoMemory}
use Rattle.wa_decode.specs.Reading.{Spelled}

-- what a custom section has after its id: a name and any bytes, sized (5.5.3)
abbrev pub meaningless : Format
meaningless bytes = (c : List ℕ × List ℕ) × sized (name c.0 then exactly c.1) bytes

-- from one position up to another there are custom sections, and no other after them
pub record PastCustoms (bytes : List ℕ) (at place : ℕ) : Type 0 where
  pub customs : Spelled binary.customs bytes at place
  pub over : slice_get bytes place ≢ Some 0

-- after custom sections comes a value's section. Where that is omitted, its id isn't there
pub record IsSection {V : Type 0} (id : ℕ) (S : V → Format) (bytes : List ℕ) (at : ℕ) (v : V) (end : ℕ) : Type 0 where
  pub place : ℕ
  pub past : PastCustoms bytes at place
  pub spelled : Spelled (S v) bytes place end
  pub left_out : place ≡ end → slice_get bytes place ≢ Some id

-- the sections of a module, in their order (5.5.15)
abbrev pub IsSections : List ℕ → ℕ → Module → ℕ → Type 0
IsSections bytes at m end =
    (a : ℕ) × IsSection 1 (vecsec 1 functype) bytes at m.types a
    × (b : ℕ) × IsSection 2 (vecsec 2 import) bytes a m.imports b
    × (c : ℕ) × IsSection 3 (vecsec 3 u32) bytes b (map (λ f. f.ty) m.funcs) c
    × (d : ℕ) × IsSection 4 (vecsec 4 tabletype) bytes c m.tables d
    × (e : ℕ) × IsSection 5 (vecsec 5 memtype) bytes d m.memories e
    × (f : ℕ) × IsSection 6 (vecsec 6 global) bytes e m.globals f
    × (g : ℕ) × IsSection 7 (vecsec 7 export) bytes f m.exports g
    × (h : ℕ) × IsSection 8 startsec bytes g m.start h
    × (i : ℕ) × IsSection 9 (vecsec 9 elem) bytes h m.elems i
    × (j : ℕ) × IsSection 10 (vecsec 10 code) bytes i m.funcs j
    × IsSection 11 (vecsec 11 segment) bytes j m.segments end

-- a call found such a value up to such a position
pub record ReadsTo {V : Type 0} (Is : V → ℕ → Type 0) (result : Result (V × ℕ) DecodeFault) : Type 0 where
  -- what was read is so
  pub found : IfOk result (λ read. Is read.0 read.1)
  -- what is so was read, unless memory ran out
  pub complete : (v : V) (end : ℕ) → Is v end → MatchResult result (λ read. (read.0 ≡ v) × (read.1 ≡ end)) (λ fault. fault ≡ NoMemory)
