-- The texts of a program, phase by phase.
use Rattle.std.proofs.Common.{◌≡◌, ℕ, ◌+◌, ◌<◌, List, [], ◌∷◌, ◌++◌, length, slice_index_or, sym, subst, ap, refl, ◌∙◌}
use Rattle.std.proofs.Common.{arith, inl, inr}
use Rattle.std.specs.List.{flat_map}
use Rattle.std.proofs.lemmas.List.{flat_map_more, get_or_append_left, get_or_default, get_or_push, length-append}
use Rattle.std.proofs.lemmas.Bool.{cases_lt}
use Rattle.sa_lexer.specs.declared.token.Token.{Token}
use Rattle.sa_lexer.specs.Tokens.{AreTokensOf, IsFaultOf, RefusesText}
use Rattle.sa_parser_expr.specs.Level.{RefusesTokens}
use Rattle.sa_parser.specs.declared.file.ParsedFiles.{ParsedFiles}
use Rattle.sa_parser.specs.Classes.{parsed_of}
use Rattle.sa_parser.proofs.Appended.{appended, same_parsed}
use Rattle.sa_ast.specs.declared.refusal.Rejection.{Rejection}
use Rattle.sa_ast.specs.declared.refusal.Rejection.TheVariants.{Refused, Failed}
use Rattle.sa_read.specs.Front.{AreTokensOfTexts, AreTokenizedUpTo, IsParsedOf, IsParsedUpTo, IsSpelled, IsReadUpTo, IsUnexpectedIn}
use Rattle.sa_read.specs.Front.{RefusesFile, RefusesProgram}
use Rattle.sa_read.specs.SourceFiles.{at}

-- what is true up to a number and of it is true up to the next one
pub up_to_next : (P : ℕ → Type 0) (n : ℕ) → ((k : ℕ) → k < n → P k) → P n → (k : ℕ) → k < n + 1 → P k
up_to_next P n before here k lt = elim (cases_lt k n) [
  | inl less ↦ before k less
  | inr past ↦
      let same : n ≡ k = omega arith in
      subst P same here
]

-- one more list of tokens
pub tokens_more : (texts : List (List ℕ)) (lists : List (List Token)) (tokens : List Token) (n : ℕ)
    → AreTokensOfTexts texts lists n → AreTokensOf (at texts n) tokens → AreTokensOfTexts texts (lists ++ tokens ∷ []) (n + 1)
tokens_more texts lists tokens n (count, each) here = (
  omega (arith, length-append lists (tokens ∷ []), count),
  up_to_next (λ k. AreTokensOf (at texts k) (slice_index_or (lists ++ tokens ∷ []) k [])) n
      (λ k lt. subst (AreTokensOf (at texts k)) (sym (get_or_append_left lists (tokens ∷ []) [] k (omega (arith, count)))) (each k lt))
      (subst (AreTokensOf (at texts n)) (sym (get_or_push lists tokens [] n count)) here),
)

tokenized : (texts : List (List ℕ)) (lists : List (List Token)) (n : ℕ) → AreTokensOfTexts texts lists n → AreTokenizedUpTo texts n
tokenized texts lists n (count, each) k lt = (slice_index_or lists k [], each k lt)

-- a text without tokens after texts that have them
pub lexical : (texts : List (List ℕ)) (lists : List (List Token)) (n : ℕ) (fault : Rejection)
    → AreTokensOfTexts texts lists n → n < length texts → RefusesText (at texts n) n fault → RefusesProgram texts fault
lexical texts lists n (Failed why) each there refused = tt
lexical texts lists n (Refused refusal) each there (fault, file) = inl (record {
  within = rw file there;
  before = rw file (tokenized texts lists n each);
  fault = subst (λ number. IsFaultOf (at texts number) refusal) (sym file) fault;
})

-- a text whose tokens break a rule after texts whose tokens don't
pub breach : (texts : List (List ℕ)) (lists : List (List Token)) (n : ℕ) (fault : Rejection)
    → AreTokensOfTexts texts lists (length texts) → n < length texts → IsReadUpTo texts n
    → RefusesTokens (slice_index_or lists n []) n fault → RefusesProgram texts fault
breach texts lists n (Failed why) each there before refused = tt
breach texts lists n (Refused refusal) each there before (broken, file) = inr (inl (record {
  tokenized = tokenized texts lists (length texts) each;
  within = rw file there;
  before = rw file before;
  tokens = slice_index_or lists n [];
  of_text = rw file (each.1 n there);
  breach = broken;
}))

abbrev file_of : Rejection → ℕ
file_of (Refused refusal) = refusal.pos.file
file_of (Failed why) = 0

-- a text that is refused after texts that spell classes
pub grammar : (texts : List (List ℕ)) (lists : List (List Token)) (n : ℕ) (parsed : ParsedFiles) (fault : Rejection)
    → AreTokensOfTexts texts lists (length texts) → n < length texts → IsReadUpTo texts (length texts) → IsParsedUpTo texts n parsed
    → RefusesFile (at texts n) n (slice_index_or lists n []) fault → RefusesProgram texts fault
grammar texts lists n parsed (Failed why) each there taken so_far refused = tt
grammar texts lists n parsed (Refused refusal) each there taken so_far (inl broken) =
    breach texts lists n (Refused refusal) each there (λ k lt. taken k (omega arith)) broken
grammar texts lists n parsed (Refused refusal) each there taken so_far (inr unexpected) =
    let file : refusal.pos.file ≡ n = ap file_of unexpected.fault in
    inr (inr (record {
      taken = taken;
      within = rw file there;
      before = rw file (λ k lt. (slice_index_or so_far.written k [], so_far.each k lt));
      tokens = slice_index_or lists n [];
      of_text = rw file (each.1 n there);
      unexpected = subst (λ number. IsUnexpectedIn (at texts number) number (slice_index_or lists n []) refusal) (sym file) unexpected;
    }))

-- ---- the text with an index, and its tokens, which are found in the lists

pub text_at : (texts : List (List ℕ)) (n : ℕ) (text d : List ℕ) → n < length texts → text ≡ slice_index_or texts n d → text ≡ at texts n
text_at texts n text d there is = is ∙ get_or_default texts n d [] there

pub tokens_at : (texts : List (List ℕ)) (lists : List (List Token)) (n : ℕ) (tokens d : List Token)
    → AreTokensOfTexts texts lists (length texts) → n < length texts → tokens ≡ slice_index_or lists n d
    → tokens ≡ slice_index_or lists n []
tokens_at texts lists n tokens d (count, each) there is = is ∙ get_or_default lists n d [] (omega (arith, count))

pub of_text : (texts : List (List ℕ)) (lists : List (List Token)) (n : ℕ) (text d : List ℕ) (tokens e : List Token)
    → AreTokensOfTexts texts lists (length texts) → n < length texts → text ≡ slice_index_or texts n d
    → tokens ≡ slice_index_or lists n e → AreTokensOf text tokens
of_text texts lists n text d tokens e each there of_number list =
    subst (λ text. AreTokensOf text tokens) (sym (text_at texts n text d there of_number))
    (subst (AreTokensOf (at texts n)) (sym (tokens_at texts lists n tokens e each there list)) (each.1 n there))

-- ---- one text more

pub nothing_parsed : (texts : List (List ℕ)) (parsed : ParsedFiles) → parsed.classes ≡ [] → parsed.contracts ≡ [] → IsParsedUpTo texts 0 parsed
nothing_parsed texts parsed classes contracts = record {
  written = [];
  count = refl;
  each = λ k lt. absurd (omega (arith, lt));
  made = same_parsed parsed [] [] classes contracts;
}

from_first : {first n : ℕ} → first ≡ n → first ≡ 0 + n
from_first same = omega (arith, same)

pub parsed_more : (texts : List (List ℕ)) (n first : ℕ) (before file after : ParsedFiles) → IsParsedUpTo texts n before
    → first ≡ length before.classes → IsParsedOf texts n first file → after.classes ≡ before.classes ++ file.classes
    → after.contracts ≡ before.contracts ++ file.contracts → IsParsedUpTo texts (n + 1) after
parsed_more texts n first before file after so_far number (more, spelled, made) classes contracts = record {
  written = so_far.written ++ more ∷ [];
  count = omega (arith, length-append so_far.written (more ∷ []), so_far.count);
  each = up_to_next (λ k. IsSpelled texts k (slice_index_or (so_far.written ++ more ∷ []) k [])) n
      (λ k lt.
      let kept = get_or_append_left so_far.written (more ∷ []) [] k (omega (arith, so_far.count)) in
      subst (IsSpelled texts k) (sym kept) (so_far.each k lt))
      (subst (IsSpelled texts n) (sym (get_or_push so_far.written more [] n so_far.count)) spelled);
  made = appended 0 first (flat_map (λ classes. classes) so_far.written) more before after file.classes file.contracts so_far.made
      (from_first number) (ap (λ (parsed : ParsedFiles). parsed.classes) made) (ap (λ (parsed : ParsedFiles). parsed.contracts) made)
      classes contracts
      ∙ ap (parsed_of 0) (flat_map_more (λ classes. classes) [] so_far.written more);
}
