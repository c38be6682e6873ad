-- Signatures: each of their forms is sound and complete.
use Rattle.std.proofs.Common.{◌≡◌, ℕ, suc, ◌+◌, ◌<◌, Bool, ◌||◌, List, [], ◌∷◌, ◌++◌, length, refl, ap, subst, append_assoc, append-nil, arith, length-append, Option, None, map}
use Rattle.sa_lexer.specs.declared.token.TokenKind.{TokenKind}
use Rattle.sa_lexer.specs.declared.token.TokenKind.TheVariants as token
use Rattle.sa_lexer.specs.declared.sign.Sign.TheVariants as sign
use Rattle.sa_lexer.specs.declared.word.Word.TheVariants as word
use Rattle.sa_ast.specs.declared.ty.Mode.{Mode}
use Rattle.sa_ast.specs.declared.ty.Ty.{Ty}
use Rattle.sa_ast.specs.declared.ty.Ty.TheVariants as ty
use Rattle.sa_ast.specs.declared.stmt.Local.{Local}
use Rattle.sa_ast.specs.declared.class.FormalParam.{FormalParam}
use Rattle.sa_parser_expr.specs.declared.types.CallableKind.{CallableKind}
use Rattle.sa_parser_expr.specs.Lexemes.{Lexeme, IsSign, lower_name, name_of}
use Rattle.sa_parser_expr.specs.Types as types
use Rattle.sa_parser_expr.specs.Types.{IsMode, IsType}
use Rattle.sa_parser_expr.specs.Readings.{Read}
use Rattle.sa_parser_expr.specs.Tests.{is_sign, is_sign_kind}
use Rattle.sa_parser_expr.specs.Forms.{Reader, Nested, Ast, type}
use Rattle.sa_parser_expr.specs.StatementForms.{name_form, joined, names_form}
use Rattle.sa_parser_expr.proofs.Tested.{sign_stands, feature_stands, sign_met, feature_met, other_sign, lexeme, a_sign, a_word}
use Rattle.sa_parser_expr.proofs.Shifts.{Shut}
use Rattle.sa_parser.specs.Names as names
use Rattle.sa_parser.specs.Names.{IsLower, IsName, IsNames}
use Rattle.sa_parser.specs.Signatures as sigs
use Rattle.sa_parser.specs.Signatures.{IsFormal, IsFormals, IsArguments, IsWrittenResult, IsSig, callable_of, formal_of}
use Rattle.sa_parser.specs.SignatureForms.{formal_form, formals_form, arguments_form, written_result_form, sig_form}
use Rattle.sa_grammar.proofs.Parts.{Signature}
use Rattle.sa_grammar.proofs.Sound.{Sound, Listed, last, more}
use Rattle.sa_grammar.proofs.Sound.{IsSound, sound-give, sound-refuse, sound-shift, sound-follow, sound-list, sound-make, sound-until}
use Rattle.sa_grammar.proofs.Complete.{Reads, reads-give, reads-met, reads-other, reads-follow, reads-make, reads-as, reads-joined, reads-until, reads-list}
use Rattle.sa_grammar.proofs.TypeForms.{EndsType, sign_ends, NoMode, kind_no_mode, sound_mode, mode_read}
use Rattle.sa_grammar.proofs.ExpressionStarts.{origin}
use Rattle.sa_grammar.proofs.ExpressionEnds.{Ends, ends_left, ends_right}
use Rattle.sa_grammar.proofs.ExpressionsSound.{Spells, nested_sound}
use Rattle.sa_grammar.proofs.ExpressionsComplete.{EndsOf, nest_read}
use Rattle.sa_grammar.proofs.StatementsSound.{names_behind, sound_name}
use Rattle.sa_grammar.proofs.StatementsComplete.{listed_names, name_read}

-- ---- lists

names_listed : {ls : List Lexeme} {all : List Local} → Listed (IsName IsLower) ls all → IsNames ls all
names_listed (last (names.one_name k)) = names.all_names k names.no_more_names
names_listed (more {l = l} (names.one_name k) parting rest) = names.all_names k (names_behind l (sign_stands sign.Comma l parting) rest)

names_separated : {ls : List Lexeme} {all : List Local} → IsNames ls all → Listed (IsName IsLower) ls all
names_separated (names.all_names k h) = listed_names k h

formals_listed : (callable : CallableKind) (ls : List Lexeme) (lists : List (List FormalParam)) → Listed (IsFormal callable) ls lists → IsFormals callable ls (joined lists)
formals_listed callable ls _ (last one) = rw append-nil (sigs.last one)
formals_listed callable _ _ (more {ms = ms} {l = l} {others = others} one parting rest) =
    sigs.more one (sign_stands sign.Comma l parting) (formals_listed callable ms others rest)

record FormalLists (callable : CallableKind) (ls : List Lexeme) (all : List FormalParam) : Type 0 where
  lists : List (List FormalParam)
  parts : Listed (IsFormal callable) ls lists
  whole : joined lists ≡ all

formal_lists : {callable : CallableKind} {ls : List Lexeme} {all : List FormalParam} → IsFormals callable ls all → FormalLists callable ls all
formal_lists (sigs.last {formals = formals} one) = record { lists = formals ∷ []; parts = last one; whole = append-nil formals }
formal_lists (sigs.more {formals = formals} one is others) =
    let rest = formal_lists others in
    record { lists = formals ∷ rest.lists; parts = more one (sign_met is) rest.parts; whole = ap (λ xs. formals ++ xs) rest.whole }

-- an argument's lexemes in one list
formal_at : {callable : CallableKind} {ls ms rest : List Lexeme} {colon : Lexeme} {mode : Mode} {all : List Local} {t : Ty} → IsMode callable ls mode → IsNames ms all → IsSign sign.Colon colon
    → IsType rest t → IsFormal callable (ls ++ (ms ++ colon ∷ rest)) (map (formal_of mode t) all)
formal_at {callable = callable} {ls = ls} {ms = ms} {rest = rest} {colon = colon} {mode = mode} {all = all} {t = t} first h is one =
    subst (λ xs. IsFormal callable xs (map (formal_of mode t) all)) (append_assoc ls ms (colon ∷ rest)) (sigs.formal first h is one)

-- ---- the forms are sound

a_sig : IsSig (lexeme token.Lower ∷ []) (record { name = name_of (lexeme token.Lower); formals = []; result = None })
a_sig = sigs.sig {f = lexeme token.Lower} (lower_name refl) sigs.IsArguments.absent sigs.IsWrittenResult.absent

module _ (level : ℕ) (nested : (n : Nested) → Reader (Ast n)) (inside : (n : Nested) → Sound (Spells n) (nested n)) where
  pub sound_names : IsSound level nested IsNames names_form
  sound_names = sound-list (sound_name level nested inside) (λ ls all. names_listed)

  sound_formal : (callable : CallableKind) → IsSound level nested (IsFormal callable) (formal_form callable)
  unfolding formal_form
  sound_formal callable =
      sound-follow (sound_mode level nested (inside type) callable) (λ ls mode first.
      sound-follow sound_names (λ ms all h.
      sound-shift (λ colon is. sound-make (nested_sound level nested inside type) (λ rest t one. formal_at first h (sign_stands sign.Colon colon is) one))
      (sound-refuse (record {
        more = lexeme (token.Sign sign.Colon) ∷ lexeme (token.Word word.Same) ∷ [];
        tree = map (formal_of mode (ty.Same origin)) all;
        spelled = formal_at first h (a_sign sign.Colon) (types.same (a_word word.Same));
      }))))

  pub sound_formals : (callable : CallableKind) → IsSound level nested (IsFormals callable) (formals_form callable)
  unfolding formals_form
  sound_formals callable = sound-make (sound-list (sound_formal callable) (λ ls lists h. h)) (formals_listed callable)

  sound_arguments : (callable : CallableKind) → IsSound level nested (IsArguments callable) (arguments_form callable)
  unfolding arguments_form
  sound_arguments callable =
      sound-shift (λ opening opens. sound-until (sound_formals callable) (λ ls formals closing among closes. sigs.IsArguments.given (sign_stands sign.LeftParen opening opens) among closes))
      (sound-give sigs.IsArguments.absent)

  sound_written_result : IsSound level nested IsWrittenResult written_result_form
  unfolding written_result_form
  sound_written_result =
      sound-shift (λ colon is. sound-make (nested_sound level nested inside type) (λ ls t one. sigs.IsWrittenResult.given (sign_stands sign.Colon colon is) one))
      (sound-give sigs.IsWrittenResult.absent)

  pub sound_sig : IsSound level nested IsSig sig_form
  unfolding sig_form
  sound_sig =
      sound-shift (λ f is.
      sound-follow (sound_arguments (callable_of f.kind)) (λ ls formals first.
      sound-make sound_written_result (λ ms gives second. sigs.sig (feature_stands f is) first second)))
      (sound-refuse (record { more = lexeme token.Lower ∷ []; tree = record { name = name_of (lexeme token.Lower); formals = []; result = None }; spelled = a_sig }))

-- ---- the forms are complete

-- what continues a type
abbrev pub goes_on_type : TokenKind → Bool
goes_on_type k = is_sign_kind sign.LeftBrace k || is_sign_kind sign.Colon k

pub goes_on_ends_type : (rest : List Lexeme) → Ends goes_on_type rest → EndsType rest
goes_on_ends_type rest h = record {
  brace = ends_left (is_sign_kind sign.LeftBrace) (is_sign_kind sign.Colon) rest h;
  colon = ends_right (is_sign_kind sign.LeftBrace) (is_sign_kind sign.Colon) rest h;
}

-- after a signature
abbrev pub after_sig : TokenKind → Bool
after_sig k = is_sign_kind sign.LeftParen k || goes_on_type k

sig_ends_type : (rest : List Lexeme) → Ends after_sig rest → EndsType rest
sig_ends_type rest h = goes_on_ends_type rest (ends_right (is_sign_kind sign.LeftParen) goes_on_type rest h)

-- no mode begins a name
names_no_mode : {ls : List Lexeme} {all : List Local} (rest : List Lexeme) → IsNames ls all → NoMode (ls ++ rest)
names_no_mode rest (names.all_names {l = l} {ls = ls} k h) = kind_no_mode l (ls ++ rest) token.Lower k refl refl refl refl

-- a parenthesis begins no result
result_shuts : {ls : List Lexeme} {gives : Option Ty} (rest : List Lexeme) → IsWrittenResult ls gives → Ends after_sig rest → Shut (is_sign sign.LeftParen) (ls ++ rest)
result_shuts rest sigs.IsWrittenResult.absent ends = ends_left (is_sign_kind sign.LeftParen) goes_on_type rest ends
result_shuts rest (sigs.IsWrittenResult.given is one) ends = other_sign sign.LeftParen refl is

module _ (level : ℕ) (nested : (n : Nested) → Reader (Ast n))
    (inside : (n : Nested) (ls : List Lexeme) (t : Ast n) (rest : List Lexeme) → Spells n ls t → length ls < level → EndsOf n rest → nested n (ls ++ rest) ≡ Read t rest) where
  pub names_read : {ls : List Lexeme} {all : List Local} (rest : List Lexeme) → IsNames ls all → length ls < level → Shut (is_sign sign.Comma) rest
      → Reads level nested names_form (ls ++ rest) all rest
  names_read rest h small shut =
      reads-list level nested (IsName IsLower) (λ rest. Unit {0}) name_form (name_read level nested inside) (λ l rest is. tt) rest (names_separated h) small tt shut

  formal_read : (callable : CallableKind) (ls : List Lexeme) (formals : List FormalParam) (rest : List Lexeme) → IsFormal callable ls formals → length ls < level → EndsType rest
      → Reads level nested (formal_form callable) (ls ++ rest) formals rest
  unfolding formal_form
  formal_read callable _ _ rest (sigs.formal {ls = ls} {ms = ms} {rest = vs} {colon = colon} {t = t} first h is one) small ends =
      let sum : length ((ls ++ ms) ++ colon ∷ vs) ≡ length (ls ++ ms) + suc (length vs) = length-append (ls ++ ms) (colon ∷ vs) in
      let part : length (ls ++ ms) ≡ length ls + length ms = length-append ls ms in
      reads-joined (ls ++ ms) (colon ∷ vs) rest
      (reads-joined ls ms (colon ∷ (vs ++ rest))
      (reads-follow (mode_read level nested callable (ms ++ colon ∷ (vs ++ rest)) first (names_no_mode (colon ∷ (vs ++ rest)) h))
      (reads-follow (names_read (colon ∷ (vs ++ rest)) h (omega arith) (other_sign sign.Comma refl is))
      (reads-met (sign_met is) (reads-make (nest_read level nested inside type vs t rest one (omega arith) ends))))))

  lists_read : {callable : CallableKind} {ls : List Lexeme} {all : List FormalParam} (rest : List Lexeme) → FormalLists callable ls all → length ls < level → EndsType rest
      → Shut (is_sign sign.Comma) rest → Reads level nested (formals_form callable) (ls ++ rest) all rest
  unfolding formals_form
  lists_read {callable = callable} rest h small ends shut =
      reads-as h.whole
      (reads-make (reads-list level nested (IsFormal callable) EndsType (formal_form callable) (formal_read callable) (sign_ends sign.Comma refl refl) rest h.parts small ends shut))

  pub formals_read : (callable : CallableKind) {ls : List Lexeme} {all : List FormalParam} (rest : List Lexeme) → IsFormals callable ls all → length ls < level → EndsType rest
      → Shut (is_sign sign.Comma) rest → Reads level nested (formals_form callable) (ls ++ rest) all rest
  formals_read callable rest h small ends shut = lists_read rest (formal_lists h) small ends shut

  arguments_read : (callable : CallableKind) {ls : List Lexeme} {formals : List FormalParam} (rest : List Lexeme) → IsArguments callable ls formals → length ls < level
      → Shut (is_sign sign.LeftParen) rest → Reads level nested (arguments_form callable) (ls ++ rest) formals rest
  unfolding arguments_form
  arguments_read callable rest sigs.IsArguments.absent small shut = reads-other shut reads-give
  arguments_read callable rest (sigs.IsArguments.given {closing = closed} {ls = ls} opens among closes) small shut =
      let sum : length (ls ++ closed ∷ []) ≡ length ls + 1 = length-append ls (closed ∷ []) in
      reads-met (sign_met opens)
      (reads-until ls
      (formals_read callable (closed ∷ rest) among (omega arith) (sign_ends sign.RightParen refl refl closed rest closes) (other_sign sign.Comma refl closes)) closes)

  written_result_read : {ls : List Lexeme} {gives : Option Ty} (rest : List Lexeme) → IsWrittenResult ls gives → length ls < level → EndsType rest
      → Reads level nested written_result_form (ls ++ rest) gives rest
  unfolding written_result_form
  written_result_read rest sigs.IsWrittenResult.absent small ends = reads-other ends.colon reads-give
  written_result_read rest (sigs.IsWrittenResult.given {ls = ls} {t = t} is one) small ends =
      reads-met (sign_met is) (reads-make (nest_read level nested inside type ls t rest one (omega arith) ends))

  pub sig_read : {ls : List Lexeme} {one : Signature} (rest : List Lexeme) → IsSig ls one → length ls < suc level → Ends after_sig rest → Reads level nested sig_form (ls ++ rest) one rest
  unfolding sig_form
  sig_read rest (sigs.sig {f = f} {ls = ls} {ms = ms} is first second) small ends =
      let sum : length (ls ++ ms) ≡ length ls + length ms = length-append ls ms in
      reads-met (feature_met is)
      (reads-joined ls ms rest
      (reads-follow (arguments_read (callable_of f.kind) (ms ++ rest) first (omega arith) (result_shuts rest second ends))
      (reads-make (written_result_read rest second (omega arith) (sig_ends_type rest ends)))))
