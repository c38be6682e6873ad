-- What one text gives, by the law of the grammar: the longest prefix of its lexemes that begins a file is read.
use Rattle.std.proofs.Common.{◌≡◌, ◌∙◌, ℕ, zero, suc, ◌<◌, inl, inr, List, [], ◌++◌, length, take, drop, Result, Ok, Err, IfOk, IfErr}
use Rattle.std.proofs.Common.{OnOk, sym, subst, refl, ap, arith}
use Rattle.std.proofs.lemmas.List.{append-nil, append_cancel_right, length-drop, length-map, take-append-drop}
use Rattle.sa_lexer.specs.declared.token.Token.{Token}
use Rattle.sa_lexer.specs.Tokens.{AreTokensOf}
use Rattle.sa_ast.specs.declared.refusal.Refusal.{Refusal}
use Rattle.sa_ast.specs.declared.refusal.Rejection.{Rejection}
use Rattle.sa_ast.specs.declared.refusal.Rejection.TheVariants as fault
use Rattle.sa_parser_expr.specs.Grammar.{read_as}
use Rattle.sa_parser_expr.specs.Level.{AreTaken}
use Rattle.sa_parser_expr.specs.Lexemes.{Lexeme, lexemes_of}
use Rattle.sa_parser_expr.specs.Readings.{IsLongest, IsRead, Read, Refused, read, refused}
use Rattle.sa_parser.specs.declared.file.FileKind.{FileKind}
use Rattle.sa_parser.specs.declared.file.FileKind.TheVariants.{Program}
use Rattle.sa_parser.specs.declared.file.ParsedFiles.{ParsedFiles}
use Rattle.sa_parser.specs.ClassForms.{file_form}
use Rattle.sa_parser.specs.Classes.{Written, IsFile}
use Rattle.sa_parser.specs.Files as files
use Rattle.sa_grammar.proofs.ClassesExact.{files_are_read}
use Rattle.sa_read.specs.Front.{IsFirstUnexpected, IsParsedOf, IsUnexpectedIn, RefusesFile, file_kind_of}
use Rattle.sa_read.specs.SourceFiles.{at}

-- what comes before the rest is as much as the rest leaves
front_is : (ls front : List Lexeme) (place : ℕ) → ls ≡ front ++ drop place ls → front ≡ take place ls
front_is ls front place parts = append_cancel_right front (take place ls) (drop place ls) (sym parts ∙ sym (take-append-drop place ls))

-- where nothing is left, the prefix is all
all_is : (ls front rest : List Lexeme) → ls ≡ front ++ rest → rest ≡ [] → ls ≡ front
all_is ls front rest parts end = parts ∙ ap (λ rest. front ++ rest) end ∙ append-nil front

module _ (file_kind : FileKind) (ls : List Lexeme) where
  whole : (rest : List Lexeme) (written : List Written) → rest ≡ [] → IsRead (IsFile file_kind) ls (Read written rest)
      → IsFile file_kind ls written
  whole rest written end (read {front = front} longest spelled) =
      subst (λ ls. IsFile file_kind ls written) (sym (all_is ls front rest longest.parts end)) spelled

  -- where all lexemes are read, they spell what is read
  all_spelled : (written : List Written) → read_as (file_form file_kind) ls ≡ Read written [] → IsFile file_kind ls written
  all_spelled written is = whole [] written refl (subst (IsRead (IsFile file_kind) ls) is (files_are_read file_kind ls))

  longest_at : (front rest : List Lexeme) (place : ℕ) → rest ≡ drop place ls → IsLongest (IsFile file_kind) ls front rest
      → IsLongest (IsFile file_kind) ls (take place ls) (drop place ls)
  longest_at front rest place is longest =
      let parts : ls ≡ front ++ drop place ls = longest.parts ∙ ap (λ rest. front ++ rest) is in
      subst (λ front. IsLongest (IsFile file_kind) ls front (drop place ls)) (front_is ls front place parts)
      (subst (IsLongest (IsFile file_kind) ls front) is longest)

  refused_at : (rest : List Lexeme) (place : ℕ) → rest ≡ drop place ls → IsRead (IsFile file_kind) ls (Refused rest)
      → IsFirstUnexpected file_kind ls place
  refused_at rest place is (refused {front = front} longest none) = record {
    longest = longest_at front rest place is longest;
    unended = λ end written spelled.
        none written (subst (λ ls. IsFile file_kind ls written) (all_is ls front rest longest.parts (is ∙ end)) spelled);
  }

  left_at : (rest : List Lexeme) (written : List Written) (place : ℕ) → rest ≡ drop place ls → place < length ls
      → IsRead (IsFile file_kind) ls (Read written rest)
      → IsFirstUnexpected file_kind ls place
  left_at rest written place is short (read {front = front} longest spelled) = record {
    longest = longest_at front rest place is longest;
    unended = λ end _ _. absurd (omega (arith, ap length end, length-drop place ls, short));
  }

  -- what the form refuses is the first lexeme with which no file continues, or the end
  first_refused : (place : ℕ) → read_as (file_form file_kind) ls ≡ Refused (drop place ls) → IsFirstUnexpected file_kind ls place
  first_refused place is =
      refused_at (drop place ls) place refl (subst (IsRead (IsFile file_kind) ls) is (files_are_read file_kind ls))

  -- so is the first lexeme that it leaves
  first_left : (written : List Written) (place : ℕ) → place < length ls → read_as (file_form file_kind) ls ≡ Read written (drop place ls)
      → IsFirstUnexpected file_kind ls place
  first_left written place short is =
      left_at (drop place ls) written place refl short (subst (IsRead (IsFile file_kind) ls) is (files_are_read file_kind ls))

as_many : (number : ℕ) (text : List ℕ) (tokens : List Token) → length (lexemes_of number text tokens) ≡ length tokens
as_many number text tokens = length-map tokens _

-- where a text is refused by the form of files
unexpected : (text : List ℕ) (number : ℕ) (tokens : List Token) (refusal : Refusal) (e : Rejection) → e ≡ fault.Refused refusal
    → files.IsRefused number text tokens (file_kind_of number) e → IsUnexpectedIn text number tokens refusal
unexpected text number tokens refusal _ same (files.refused place is) = record {
  place = place;
  first = first_refused (file_kind_of number) (lexemes_of number text tokens) place is;
  fault = sym same;
}
unexpected text number tokens refusal _ same (files.left written place is short) = record {
  place = place;
  first = first_left (file_kind_of number) (lexemes_of number text tokens) written place
      (omega (arith, short, as_many number text tokens)) is;
  fault = sym same;
}

-- a text that isn't the first is the program's
pub of_program : (number : ℕ) → (number ≡ 0 → ⊥) → file_kind_of number ≡ Program
of_program zero other = absurd (other refl)
of_program (suc number) other = refl

-- what is said of a text and of its tokens by other names
pub parsed_at : (number first : ℕ) (text same_text : List ℕ) (tokens same_tokens : List Token)
    (file_kind same_kind : FileKind) (r : Result ParsedFiles Rejection)
    → text ≡ same_text → tokens ≡ same_tokens → file_kind ≡ same_kind
    → files.Parses number text tokens file_kind first r → files.Parses number same_text same_tokens same_kind first r
parsed_at number first text same_text tokens same_tokens file_kind same_kind r a b c h =
    subst (λ file_kind. files.Parses number same_text same_tokens file_kind first r) c
    (subst (λ tokens. files.Parses number same_text tokens file_kind first r) b
    (subst (λ text. files.Parses number text tokens file_kind first r) a h))

module _ (texts : List (List ℕ)) (number first : ℕ) (tokens : List Token) where
  -- the classes that are read of a text are those that it spells
  pub text_spelled : (r : Result ParsedFiles Rejection) → AreTokensOf (at texts number) tokens → OnOk r (AreTaken tokens (length tokens))
      → files.Parses number (at texts number) tokens (file_kind_of number) first r
      → IfOk r (IsParsedOf texts number first)
  text_spelled (Ok parsed) of_text taken h = (
    h.written,
    record {
      tokens = tokens;
      of_text = of_text;
      taken = taken;
      spelled = all_spelled (file_kind_of number) (lexemes_of number (at texts number) tokens) h.written h.all;
    },
    h.made,
  )
  text_spelled (Err e) of_text taken h = tt

  -- a refusal of it is at the first token that breaks a rule, or at the first one with which no file continues
  pub text_refused : (r : Result ParsedFiles Rejection) → files.Parses number (at texts number) tokens (file_kind_of number) first r
      → IfErr r (RefusesFile (at texts number) number tokens)
  text_refused (Ok parsed) h = tt
  text_refused (Err (fault.Refused refusal)) (inl broken) = inl broken
  text_refused (Err (fault.Refused refusal)) (inr (taken, h)) =
      inr (unexpected (at texts number) number tokens refusal (fault.Refused refusal) refl h)
  text_refused (Err (fault.Failed why)) h = tt
