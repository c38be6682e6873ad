-- What a cause says of the files of a program.
use Rattle.std.specs.Prelude.{◌≡◌, ◌<◌, ◌≤◌, ◌⊎◌, ⊤, ℕ, Bool, true, false, IsTrue, List, [], ◌∷◌}
use Rattle.std.specs.Prelude.{codes, length, slice_index_or, Option, None, Some}
use Rattle.sa_gen.specs.Generated.{generated}
use Rattle.sa_ast.specs.declared.pos.Sources.{Sources}
use Rattle.sa_ast.specs.declared.pos.Pos.{Pos}
use Rattle.sa_ast.specs.declared.refusal.Refusal.{Refusal}
use Rattle.sa_ast.specs.declared.rule.Rule.{Rule}
use Rattle.sa_ast.specs.declared.rule.Rule.TheVariants as rule
use Rattle.host_io.specs.Files.{Files}
use Rattle.sa_prelude.specs.PreludeText.{prelude_text}
use Rattle.sa_read.specs.Front.{AreSpelled, IsRefusalOf}
use Rattle.sa_read.specs.SourceFiles.{IsReadAs, LacksOneOf}
use Rattle.sa_read.specs.declared.source_files.SourceFiles.{SourceFiles}
use Rattle.sa_driver.specs.declared.cause.Cause.{Cause}
use Rattle.sa_driver.specs.declared.cause.Cause.TheVariants as cause

-- these are the texts of the files, and they spell classes
abbrev pub IsSpelledProgram : Option Files → List (List ℕ) → Sources → Type 0
IsSpelledProgram files names sources = IsReadAs files names sources None × AreSpelled sources.texts

-- the position is in one of these texts, or at its end
pub record IsPlaceIn (texts : List (List ℕ)) (pos : Pos) : Type 0 where
  pub file : pos.file < length texts
  pub within : pos.at ≤ length (slice_index_or texts pos.file [])

-- the rule is one that the checker decides, and none of tokens, of grammar or of the size of sources
abbrev pub is_of_checker : Rule → Bool
is_of_checker rule.BadByte = false
is_of_checker rule.LiteralNotEnded = false
is_of_checker rule.NumberTooLarge = false
is_of_checker rule.NumberForm = false
is_of_checker rule.UnknownEscape = false
is_of_checker rule.UnexpectedToken = false
is_of_checker rule.NestedTooDeep = false
is_of_checker rule.WordNotTaken = false
is_of_checker rule.SourceTooLarge = false
is_of_checker _ = true

-- the refusal can be the checker's of these texts, which spell classes
abbrev pub IsByChecker : List (List ℕ) → Refusal → Type 0
IsByChecker texts refusal = AreSpelled texts × IsTrue (is_of_checker refusal.rule)

-- the refusal is that of these texts, at a position in one of them: the first by tokens and grammar, or else the checker's
abbrev pub IsRefusalFor : List (List ℕ) → Refusal → Type 0
IsRefusalFor texts refusal = (IsRefusalOf texts refusal ⊎ IsByChecker texts refusal) × IsPlaceIn texts refusal.pos

-- the refusal is that of the files: they are too large together, or it is that of their texts
abbrev pub IsRefusedFor : Option Files → List (List ℕ) → Sources → Refusal → Type 0
IsRefusedFor files names sources refusal =
    IsReadAs files names sources (Some refusal) ⊎ (IsReadAs files names sources None × IsRefusalFor sources.texts refusal)

-- why texts give no module
abbrev pub Explains : List (List ℕ) → Cause → Type 0
Explains texts (cause.Refused refusal) = IsRefusalFor texts refusal
Explains texts cause.NoMemory = ⊤
Explains texts (cause.Broken invariant) = ⊤
Explains texts _ = ⊥

-- why a program that was read gives no module: it was cut, or its texts give none
abbrev pub ExplainsProgram : SourceFiles → Cause → Type 0
ExplainsProgram program ends =
    ((refusal : Refusal) × (program.cut ≡ Some refusal) × (ends ≡ cause.Refused refusal))
    ⊎ ((program.cut ≡ None) × Explains program.sources.texts ends)

-- why files give no module, where this says that the store failed
abbrev pub ComesOfFiles : Option Files → Type 0 → List (List ℕ) → Sources → Cause → Type 0
ComesOfFiles files store_failed names sources (cause.Refused refusal) = IsRefusedFor files names sources refusal
ComesOfFiles files store_failed names sources cause.StoreFault = store_failed ⊎ LacksOneOf files names
ComesOfFiles files store_failed names sources cause.NoMemory = ⊤
ComesOfFiles files store_failed names sources (cause.Broken invariant) = ⊤
ComesOfFiles files store_failed names sources _ = ⊥

-- the texts of the generated program of this many classes
abbrev pub generated_sources : ℕ → Sources
generated_sources classes = record {
  names = codes "prelude" ∷ codes "generated" ∷ [];
  texts = prelude_text ∷ generated classes ∷ [];
}

-- these are the texts of the generated program, and they spell classes
abbrev pub IsSpelledGenerated : ℕ → Sources → Type 0
IsSpelledGenerated classes sources = (sources ≡ generated_sources classes) × AreSpelled sources.texts

-- why the generated program gives no module
abbrev pub ComesOfGenerated : ℕ → Sources → Cause → Type 0
ComesOfGenerated classes sources cause.NoMemory = ⊤
ComesOfGenerated classes sources (cause.Broken invariant) = ⊤
ComesOfGenerated classes sources ends = (sources ≡ generated_sources classes) × Explains sources.texts ends
