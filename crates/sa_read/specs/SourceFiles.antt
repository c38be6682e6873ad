-- The source texts of a program.
use Rattle.std.specs.Prelude.{◌≡◌, ℕ, ◌+◌, ◌<◌, ◌≤◌, List, [], ◌∷◌, codes, length, suc, sum_by, take, Option, None, Some, slice_index_or}
use Rattle.host_io.specs.Files.{Files, Lacks}
use Rattle.sa_prelude.specs.PreludeText.{prelude_text}
use Rattle.sa_ast.specs.declared.pos.Sources.{Sources}
use Rattle.sa_ast.specs.declared.refusal.Refusal.{Refusal}
use Rattle.sa_ast.specs.declared.rule.Rule.TheVariants.{SourceTooLarge}
use Rattle.sa_read.specs.FileContents.{HasFile, HasLonger}
use Rattle.sa_read.specs.declared.source_files.SourceFiles.{SourceFiles}

-- the text at an index, from 0
abbrev pub at : List (List ℕ) → ℕ → List ℕ
at items place = slice_index_or items place []

-- how many bytes these texts have together
abbrev pub size : List (List ℕ) → ℕ
size texts = sum_by length texts

-- how many bytes the prelude and the files of a command have at most, together: the files 4 MiB
abbrev pub most : ℕ
most = length prelude_text + 4194304

-- the prelude's text alone
abbrev pub no_files : Sources
no_files = record { names = codes "prelude" ∷ []; texts = prelude_text ∷ [] }

-- the refusal of the file with this index, which is too large from this byte on
abbrev pub too_large : ℕ → ℕ → Refusal
too_large number room = record { rule = SourceTooLarge; pos = record { file = number; at = room } }

-- the first n files have their texts after the prelude's
abbrev pub HaveTexts : Option Files → List (List ℕ) → List (List ℕ) → ℕ → Type 0
HaveTexts files names texts n = (k : ℕ) → k < n → HasFile files (at names k) (at texts (suc k))

-- the first n names name the texts after the prelude's, which are that many
pub record AreNamed (names : List (List ℕ)) (sources : Sources) (n : ℕ) : Type 0 where
  pub named : sources.names ≡ codes "prelude" ∷ take n names
  pub first : at sources.texts 0 ≡ prelude_text
  pub count : length sources.texts ≡ suc n
  pub there : n ≤ length names

-- each file was read to its end, and they are small enough together
pub record IsWhole (files : Option Files) (names : List (List ℕ)) (sources : Sources) : Type 0 where
  pub named : AreNamed names sources (length names)
  pub texts : HaveTexts files names sources.texts (length names)
  pub small : size sources.texts ≤ most

-- the files were read to the byte at which they are too large together, which is one of the last text's file
pub record IsCut (files : Option Files) (names : List (List ℕ)) (sources : Sources) (refusal : Refusal) : Type 0 where
  pub last : ℕ
  pub there : last < length names
  pub named : AreNamed names sources (suc last)
  pub texts : HaveTexts files names sources.texts last
  pub longer : HasLonger files (at names last) refusal.pos.at (at sources.texts (suc last))
  pub room : size (take (suc last) sources.texts) + refusal.pos.at ≡ most
  pub cut : refusal ≡ too_large (suc last) refusal.pos.at

abbrev pub IsReadAs : Option Files → List (List ℕ) → Sources → Option Refusal → Type 0
IsReadAs files names sources None = IsWhole files names sources
IsReadAs files names sources (Some refusal) = IsCut files names sources refusal

-- the program was read from these files
abbrev pub IsReadFrom : Option Files → List (List ℕ) → SourceFiles → Type 0
IsReadFrom files names program = IsReadAs files names program.sources program.cut

-- the store says that it lacks one of these files, and those before it were read to their ends and are small enough together
pub record LacksOneOf (files : Option Files) (names : List (List ℕ)) : Type 0 where
  pub number : ℕ
  pub there : number < length names
  pub lacks : Lacks files (at names number)
  pub before : Sources
  pub named : AreNamed names before number
  pub texts : HaveTexts files names before.texts number
  pub small : size before.texts ≤ most
