-- Texts that spell classes give these and no others, and aren't refused.
use Rattle.std.proofs.Common.{◌≡◌, ◌∙◌, ℕ, ◌+◌, false, true, inl, inr, List, [], ◌∷◌, ◌++◌, length, take, drop, slice_index_or, Result}
use Rattle.std.proofs.Common.{Ok, Err, All, IfOk, IfErr, refl, sym, subst, ap, append_assoc, arith}
use Rattle.std.specs.List.{flat_map}
use Rattle.std.proofs.lemmas.List.{ext_get_or, take-append-drop, take_all, take_more}
use Rattle.std.proofs.lemmas.List.Elements.{All-get_or}
use Rattle.std.proofs.lemmas.Option.{get_or_from_slice_get, slice_get_within}
use Rattle.sa_lexer.specs.declared.token.Token.{Token}
use Rattle.sa_lexer.proofs.TokenLists.{not_both, one_list}
use Rattle.sa_ast.specs.declared.refusal.Refusal.{Refusal}
use Rattle.sa_ast.specs.declared.refusal.Rejection.{Rejection}
use Rattle.sa_ast.specs.declared.refusal.Rejection.TheVariants as fault
use Rattle.sa_parser_expr.specs.Level.{AreTaken, IsFirstBreach, IsTaken, is_refused, level_after}
use Rattle.sa_parser_expr.specs.Lexemes.{Lexeme, lexemes_of}
use Rattle.sa_parser.specs.declared.file.FileKind.{FileKind}
use Rattle.sa_parser.specs.declared.file.ParsedFiles.{ParsedFiles}
use Rattle.sa_parser.specs.Classes.{Written, IsFile, parsed_of}
use Rattle.sa_grammar.proofs.ClassesExact.{one_file}
use Rattle.sa_read.specs.Front.{GivesProgram, IsFirstUnexpected, IsProgramOf, IsRefusalOf, IsSpelled, RefusesProgram, file_kind_of}
use Rattle.sa_read.specs.SourceFiles.{at}

-- a text spells one list of classes at most
one_spelling : (texts : List (List ℕ)) (number : ℕ) (a b : List Written) → IsSpelled texts number a → IsSpelled texts number b → a ≡ b
one_spelling texts number a b p q =
    let same = one_list (at texts number) p.tokens q.tokens p.of_text q.of_text in
    one_file (file_kind_of number) (lexemes_of number (at texts number) q.tokens) a b
    (subst (λ tokens. IsFile (file_kind_of number) (lexemes_of number (at texts number) tokens) a) same p.spelled) q.spelled

one_program : (texts : List (List ℕ)) (a b : ParsedFiles) → IsProgramOf texts a → IsProgramOf texts b → a ≡ b
one_program texts a b p q =
    let same = ext_get_or [] p.written q.written (p.count ∙ sym q.count)
    (λ k lt. one_spelling texts k _ _ (p.each k (omega (arith, p.count))) (q.each k (omega (arith, p.count)))) in
    p.made ∙ ap (λ written. parsed_of 0 (flat_map (λ classes. classes) written)) same ∙ sym q.made

-- tokens that are taken break no rule
no_breach : (tokens : List Token) (refusal : Refusal) → AreTaken tokens (length tokens) → IsFirstBreach tokens refusal → ⊥
no_breach tokens refusal taken breach =
    let place = breach.place in
    let there = slice_get_within tokens place breach.token breach.occurs in
    let is = get_or_from_slice_get tokens place breach.token breach.token breach.occurs in
    elim breach.breaks [
      | inl word ↦
          let words = subst (All IsTaken) (take_all (length tokens) tokens (omega arith)) taken.words in
          let kept : is_refused breach.token.kind ≡ false = subst IsTaken is (All-get_or IsTaken tokens place breach.token there words) in
          let refused : is_refused breach.token.kind ≡ true = word.1 in
          absurd (cc)
      | inr level ↦
          let front : take (place + 1) tokens ≡ take place tokens ++ breach.token ∷ [] =
          take_more tokens place breach.token there ∙ ap (λ token. take place tokens ++ token ∷ []) is in
          omega (arith, level.1, ap level_after front, taken.levels (place + 1) (omega (arith, there)))
    ]

module _ (file_kind : FileKind) (ls : List Lexeme) (place : ℕ) (first : IsFirstUnexpected file_kind ls place) where
  goes_on : (rest : List Lexeme) (written : List Written) → drop place ls ≡ rest → IsFile file_kind ls written → ⊥
  goes_on [] written is spelled = first.unended is written spelled
  goes_on (l ∷ more) written is spelled =
      let parts : ls ≡ (take place ls ++ l ∷ []) ++ more =
      sym (take-append-drop place ls) ∙ ap (λ rest. take place ls ++ rest) is ∙ sym (append_assoc (take place ls) (l ∷ []) more) in
      first.longest.dead l more is (record {
        more = more;
        tree = written;
        spelled = subst (λ ls. IsFile file_kind ls written) parts spelled;
      })

  -- lexemes that spell a file have no first one with which they begin none
  no_unexpected : (written : List Written) → IsFile file_kind ls written → ⊥
  no_unexpected written spelled = goes_on (drop place ls) written refl spelled

not_refused : (texts : List (List ℕ)) (parsed : ParsedFiles) (refusal : Refusal) → IsProgramOf texts parsed → IsRefusalOf texts refusal → ⊥
not_refused texts parsed refusal p (inl lexical) =
    let number = refusal.pos.file in
    let here = p.each number lexical.within in
    not_both (at texts number) here.tokens refusal here.of_text lexical.fault
not_refused texts parsed refusal p (inr (inl breach)) =
    let number = refusal.pos.file in
    let here = p.each number breach.within in
    let same = one_list (at texts number) here.tokens breach.tokens here.of_text breach.of_text in
    no_breach breach.tokens refusal (subst (λ tokens. AreTaken tokens (length tokens)) same here.taken) breach.breach
not_refused texts parsed refusal p (inr (inr grammar)) =
    let number = refusal.pos.file in
    let here = p.each number grammar.within in
    let same = one_list (at texts number) here.tokens grammar.tokens here.of_text grammar.of_text in
    let written = slice_index_or p.written number [] in
    let stop = grammar.unexpected in
    no_unexpected (file_kind_of number) (lexemes_of number (at texts number) grammar.tokens) stop.place stop.first written
    (subst (λ tokens. IsFile (file_kind_of number) (lexemes_of number (at texts number) tokens) written) same here.spelled)

pub only : (texts : List (List ℕ)) (r : Result ParsedFiles Rejection) → IfOk r (IsProgramOf texts) → IfErr r (RefusesProgram texts)
    → (parsed : ParsedFiles) → IsProgramOf texts parsed → GivesProgram parsed r
only texts (Ok found) given refused parsed p = one_program texts found parsed given p
only texts (Err (fault.Refused refusal)) given refused parsed p = not_refused texts parsed refusal p refused
only texts (Err (fault.Failed why)) given refused parsed p = tt

-- a refusal of a phase
pub only_refused : (texts : List (List ℕ)) (e : Rejection) (r : Result ParsedFiles Rejection) → r ≡ Err e → RefusesProgram texts e
    → (parsed : ParsedFiles) → IsProgramOf texts parsed → GivesProgram parsed r
only_refused texts e r is refused parsed p = rw is (only texts (Err e) tt refused parsed p)
