-- What is read of a whole file.
use Rattle.std.specs.Prelude.{◌≡◌, ◌<◌, ◌⊎◌, ⊤, ℕ, List, [], length, drop, Result, Ok, Err}
use Rattle.sa_lexer.specs.declared.token.Token.{Token}
use Rattle.sa_ast.specs.declared.refusal.Rejection.{Rejection}
use Rattle.sa_ast.specs.declared.refusal.Rejection.TheVariants as fault
use Rattle.sa_parser_expr.specs.Grammar.{read_as}
use Rattle.sa_parser_expr.specs.Level.{AreTaken, RefusesTokens}
use Rattle.sa_parser_expr.specs.Lexemes.{lexemes_of}
use Rattle.sa_parser_expr.specs.Positions.{unexpected_at}
use Rattle.sa_parser_expr.specs.Readings.{Read, Refused}
use Rattle.sa_parser.specs.declared.file.FileKind.{FileKind}
use Rattle.sa_parser.specs.declared.file.ParsedFiles.{ParsedFiles}
use Rattle.sa_parser.specs.ClassForms.{file_form}
use Rattle.sa_parser.specs.Classes.{Written, parsed_of}

-- the lexemes of the file, all of them, are these classes as they are written, and what was parsed is made of them. The first class
-- has the index `first`
pub record IsRead (file : ℕ) (text : List ℕ) (tokens : List Token) (file_kind : FileKind) (first : ℕ) (parsed : ParsedFiles) : Type 0 where
  pub written : List Written
  pub all : read_as (file_form file_kind) (lexemes_of file text tokens) ≡ Read written []
  pub made : parsed ≡ parsed_of first written

-- E06 at the lexeme that the form of files refuses, or at the first one that it leaves
pub data IsRefused (file : ℕ) (text : List ℕ) (tokens : List Token) (file_kind : FileKind) : Rejection → Type 0 where
  refused : (at : ℕ) → read_as (file_form file_kind) (lexemes_of file text tokens) ≡ Refused (drop at (lexemes_of file text tokens))
      → IsRefused file text tokens file_kind (unexpected_at file text tokens at)
  left : (written : List Written) (at : ℕ)
      → read_as (file_form file_kind) (lexemes_of file text tokens) ≡ Read written (drop at (lexemes_of file text tokens))
      → at < length tokens → IsRefused file text tokens file_kind (unexpected_at file text tokens at)

-- what the form of files reads, or refuses. Where memory ran out nothing is said
abbrev pub FileReads : ℕ → List ℕ → List Token → FileKind → ℕ → Result ParsedFiles Rejection → Type 0
FileReads file text tokens file_kind first (Ok parsed) = IsRead file text tokens file_kind first parsed
FileReads file text tokens file_kind first (Err (fault.Refused refusal)) = IsRefused file text tokens file_kind (fault.Refused refusal)
FileReads file text tokens file_kind first (Err (fault.Failed why)) = ⊤

-- the same where no token breaks the rules of words and levels, and else the refusal of the first one that does
abbrev pub Parses : ℕ → List ℕ → List Token → FileKind → ℕ → Result ParsedFiles Rejection → Type 0
Parses file text tokens file_kind first (Ok parsed) = IsRead file text tokens file_kind first parsed
Parses file text tokens file_kind first (Err (fault.Refused refusal)) =
    RefusesTokens tokens file (fault.Refused refusal)
    ⊎ (AreTaken tokens (length tokens) × IsRefused file text tokens file_kind (fault.Refused refusal))
Parses file text tokens file_kind first (Err (fault.Failed why)) = ⊤
