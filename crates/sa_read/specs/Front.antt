-- Which classes and contracts the texts of a program give, and why they give none.
use Rattle.std.specs.Prelude.{◌≡◌, ◌⊎◌, ⊤, ℕ, zero, suc, ◌<◌, List, [], length, take, drop, slice_index_or, Result, Ok, Err}
use Rattle.std.specs.List.{flat_map}
use Rattle.sa_lexer.specs.declared.token.Token.{Token}
use Rattle.sa_lexer.specs.Tokens.{AreTokensOf, IsFaultOf}
use Rattle.sa_parser_expr.specs.Level.{AreTaken, IsFirstBreach, RefusesTokens}
use Rattle.sa_parser_expr.specs.Lexemes.{Lexeme, lexemes_of}
use Rattle.sa_parser_expr.specs.Positions.{unexpected_at}
use Rattle.sa_parser_expr.specs.Readings.{IsLongest}
use Rattle.sa_parser.specs.declared.file.FileKind.{FileKind}
use Rattle.sa_parser.specs.declared.file.FileKind.TheVariants.{Prelude, Program}
use Rattle.sa_parser.specs.declared.file.ParsedFiles.{ParsedFiles}
use Rattle.sa_parser.specs.Classes.{Written, IsFile, parsed_of}
use Rattle.sa_ast.specs.declared.refusal.Refusal.{Refusal}
use Rattle.sa_ast.specs.declared.refusal.Rejection.{Rejection}
use Rattle.sa_ast.specs.declared.refusal.Rejection.TheVariants.{Refused, Failed}
use Rattle.sa_read.specs.SourceFiles.{at}

-- the text has tokens
abbrev pub HasTokens : List ℕ → Type 0
HasTokens text = (tokens : List Token) × AreTokensOf text tokens

-- the first n texts have tokens
abbrev pub AreTokenizedUpTo : List (List ℕ) → ℕ → Type 0
AreTokenizedUpTo texts n = (k : ℕ) → k < n → HasTokens (at texts k)

-- these are the tokens of the first n texts
abbrev pub AreTokensOfTexts : List (List ℕ) → List (List Token) → ℕ → Type 0
AreTokensOfTexts texts lists n = (length lists ≡ n) × ((k : ℕ) → k < n → AreTokensOf (at texts k) (slice_index_or lists k []))

-- the text has tokens, none of them a refused word, whose level is at most 200
abbrev pub IsTakenText : List ℕ → Type 0
IsTakenText text = (tokens : List Token) × AreTokensOf text tokens × AreTaken tokens (length tokens)

-- the first n texts are such
abbrev pub IsReadUpTo : List (List ℕ) → ℕ → Type 0
IsReadUpTo texts n = (k : ℕ) → k < n → IsTakenText (at texts k)

-- the first text is the prelude's, and the others are the program's
abbrev pub file_kind_of : ℕ → FileKind
file_kind_of zero = Prelude
file_kind_of (suc number) = Program

-- the text with this index spells these classes: it has tokens, none of which breaks a rule, and their lexemes spell them
pub record IsSpelled (texts : List (List ℕ)) (number : ℕ) (written : List Written) : Type 0 where
  pub tokens : List Token
  pub of_text : AreTokensOf (at texts number) tokens
  pub taken : AreTaken tokens (length tokens)
  pub spelled : IsFile (file_kind_of number) (lexemes_of number (at texts number) tokens) written

-- what was parsed are the classes that this text spells, with their contracts. Its first class has the index `first`
abbrev pub IsParsedOf : List (List ℕ) → ℕ → ℕ → ParsedFiles → Type 0
IsParsedOf texts number first parsed = (written : List Written) × IsSpelled texts number written × (parsed ≡ parsed_of first written)

-- what was parsed are the classes that the first n texts spell, in the order of the texts, with their contracts
pub record IsParsedUpTo (texts : List (List ℕ)) (n : ℕ) (parsed : ParsedFiles) : Type 0 where
  pub written : List (List Written)
  pub count : length written ≡ n
  pub each : (k : ℕ) → k < n → IsSpelled texts k (slice_index_or written k [])
  pub made : parsed ≡ parsed_of 0 (flat_map (λ classes. classes) written)

-- what was parsed are the classes of all texts, with their contracts
abbrev pub IsProgramOf : List (List ℕ) → ParsedFiles → Type 0
IsProgramOf texts parsed = IsParsedUpTo texts (length texts) parsed

-- all texts spell classes
abbrev pub AreSpelled : List (List ℕ) → Type 0
AreSpelled texts = (parsed : ParsedFiles) × IsProgramOf texts parsed

-- the result for texts that are this program: it, unless memory runs out
abbrev pub GivesProgram : ParsedFiles → Result ParsedFiles Rejection → Type 0
GivesProgram parsed (Ok found) = found ≡ parsed
GivesProgram parsed (Err (Refused refusal)) = ⊥
GivesProgram parsed (Err (Failed why)) = ⊤

-- the refusal is the first lexical fault of the first text that has no tokens
pub record IsLexicalFault (texts : List (List ℕ)) (refusal : Refusal) : Type 0 where
  pub within : refusal.pos.file < length texts
  pub before : AreTokenizedUpTo texts refusal.pos.file
  pub fault : IsFaultOf (at texts refusal.pos.file) refusal

-- all texts have tokens, and the refusal is that of the first token that is a refused word or passes 200 levels
pub record IsBreach (texts : List (List ℕ)) (refusal : Refusal) : Type 0 where
  pub tokenized : AreTokenizedUpTo texts (length texts)
  pub within : refusal.pos.file < length texts
  pub before : IsReadUpTo texts refusal.pos.file
  pub tokens : List Token
  pub of_text : AreTokensOf (at texts refusal.pos.file) tokens
  pub breach : IsFirstBreach tokens refusal

-- at this index is the first lexeme with which those up to it begin no file; or it is their end, and they begin one but are none
pub record IsFirstUnexpected (file_kind : FileKind) (ls : List Lexeme) (place : ℕ) : Type 0 where
  pub longest : IsLongest (IsFile file_kind) ls (take place ls) (drop place ls)
  pub unended : drop place ls ≡ [] → (written : List Written) → IsFile file_kind ls written → ⊥

-- E06 at the first of these tokens with which those up to it begin no file, or at the end of their text
pub record IsUnexpectedIn (text : List ℕ) (number : ℕ) (tokens : List Token) (refusal : Refusal) : Type 0 where
  pub place : ℕ
  pub first : IsFirstUnexpected (file_kind_of number) (lexemes_of number text tokens) place
  pub fault : Refused refusal ≡ unexpected_at number text tokens place

-- all texts may be parsed, each one before that of the refusal spells classes, and the refusal is E06 where this one continues as no file
pub record IsGrammarFault (texts : List (List ℕ)) (refusal : Refusal) : Type 0 where
  pub taken : IsReadUpTo texts (length texts)
  pub within : refusal.pos.file < length texts
  pub before : (k : ℕ) → k < refusal.pos.file → (written : List Written) × IsSpelled texts k written
  pub tokens : List Token
  pub of_text : AreTokensOf (at texts refusal.pos.file) tokens
  pub unexpected : IsUnexpectedIn (at texts refusal.pos.file) refusal.pos.file tokens refusal

-- the refusal is the first of these texts
abbrev pub IsRefusalOf : List (List ℕ) → Refusal → Type 0
IsRefusalOf texts refusal = IsLexicalFault texts refusal ⊎ (IsBreach texts refusal ⊎ IsGrammarFault texts refusal)

abbrev pub RefusesProgram : List (List ℕ) → Rejection → Type 0
RefusesProgram texts (Refused refusal) = IsRefusalOf texts refusal
RefusesProgram texts (Failed why) = ⊤

-- a text is refused for the first of its tokens that breaks a rule, or else for the first with which no file continues
abbrev pub RefusesFile : List ℕ → ℕ → List Token → Rejection → Type 0
RefusesFile text number tokens (Refused refusal) =
    RefusesTokens tokens number (Refused refusal) ⊎ IsUnexpectedIn text number tokens refusal
RefusesFile text number tokens (Failed why) = ⊤
