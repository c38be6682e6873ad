-- The lexemes between two indices, split after their first, at an index between, or before their last.
use Rattle.std.proofs.Common.{◌≡◌, ℕ, suc, ◌+◌, ◌-◌, ◌<◌, ◌≤◌, List, [], ◌∷◌, ◌++◌, Option, Some, None, length, take, drop, slice_get, slice_range, ap, ◌∙◌, inl, inr, arith}
use Rattle.std.specs.Option.{option_map, option_map_or}
use Rattle.std.proofs.Math.Seq.{take-add, drop-cons}
use Rattle.std.proofs.lemmas.List.{drop-drop, drop_all, length-drop, length-map}
use Rattle.std.proofs.lemmas.Option.{slice_get_within, slice_get-map, slice_get_cases, get_or_from_slice_get, none-some, same_Some}
use Rattle.sa_lexer.specs.declared.token.Token.{Token}
use Rattle.sa_lexer.specs.declared.token.TokenKind.{TokenKind}
use Rattle.sa_ast.specs.declared.pos.Pos.{Pos}
use Rattle.sa_parser_expr.specs.declared.tokens.Tokens.{Tokens}
use Rattle.sa_parser_expr.specs.Exactly.{lexemes_from}
use Rattle.sa_parser_expr.specs.Lexemes.{Lexeme, lexemes_of, lexeme_at, between}
use Rattle.sa_parser_expr.specs.Positions.{kind_at, bytes_at, start_at}

slice_range-none : {X : Type 0} (xs : List X) (at : ℕ) → slice_range xs at at ≡ []
slice_range-none xs at =
    let none : at - at ≡ 0 = omega arith in
    ap (λ (n : ℕ). take n (drop at xs)) none

slice_range-join : {X : Type 0} (xs : List X) (a b c : ℕ) → a ≤ b → b ≤ c → slice_range xs a c ≡ slice_range xs a b ++ slice_range xs b c
slice_range-join {X = X} xs a b c h k =
    let sum : c - a ≡ b - a + (c - b) = omega arith in
    let back : a + (b - a) ≡ b = omega arith in
    ap (λ (n : ℕ). take n (drop a xs)) sum
    ∙ (take-add (b - a) (c - b) (drop a xs)
    ∙ ap (λ (ys : List X). slice_range xs a b ++ take (c - b) ys) (drop-drop (b - a) a xs ∙ ap (λ (n : ℕ). drop n xs) back))

drop-there : {X : Type 0} (xs : List X) (at : ℕ) (x : X) → slice_get xs at ≡ Some x → drop at xs ≡ x ∷ drop (at + 1) xs
drop-there {X = X} xs at x there =
    let same : suc at ≡ at + 1 = omega arith in
    drop-cons xs at x (slice_get_within xs at x there)
    ∙ (ap (λ (y : X). y ∷ drop (suc at) xs) (get_or_from_slice_get xs at x x there)
    ∙ ap (λ (n : ℕ). x ∷ drop n xs) same)

slice_range-more : {X : Type 0} (xs : List X) (at next : ℕ) (x : X) → slice_get xs at ≡ Some x → at < next → slice_range xs at next ≡ x ∷ slice_range xs (at + 1) next
slice_range-more {X = X} xs at next x there before =
    let one_more : next - at ≡ suc (next - (at + 1)) = omega arith in
    ap (λ (n : ℕ). take n (drop at xs)) one_more ∙ ap (λ (ys : List X). take (suc (next - (at + 1))) ys) (drop-there xs at x there)

-- the position of what is at an index
abbrev pub pos_at : Tokens → ℕ → Pos
pos_at t at = record { file = t.file; at = start_at t.src.now t.list.now at }

-- what the grammar reads of a token
abbrev read_as : ℕ → List ℕ → Token → Lexeme
read_as file text token = record {
  kind = token.kind;
  bytes = slice_range text token.start token.end;
  pos = record { file = file; at = token.start };
}

lexeme_found : (file : ℕ) (text : List ℕ) (o : Option Token) (kind : TokenKind)
    → option_map (λ (token : Token). token.kind) o ≡ Some kind
    → option_map (read_as file text) o
    ≡ Some (record {
      kind = kind;
      bytes = option_map_or (λ (token : Token). slice_range text token.start token.end) o [];
      pos = record { file = file; at = option_map_or (λ (token : Token). token.start) o (length text) };
    })
lexeme_found file text None kind there = absurd (none-some kind there)
lexeme_found file text (Some token) kind there =
    ap (λ (k : TokenKind). Some (record { kind = k; bytes = slice_range text token.start token.end; pos = record { file = file; at = token.start } }))
    (same_Some token.kind kind there)

module _ (t : Tokens) where
  found : (at : ℕ) (kind : TokenKind) → kind_at t.list.now at ≡ Some kind → slice_get (lexemes_of t.file t.src.now t.list.now) at ≡ Some (lexeme_at t at kind)
  unfolding kind_at bytes_at start_at
  found at kind there = slice_get-map (read_as t.file t.src.now) t.list.now at ∙ lexeme_found t.file t.src.now (slice_get t.list.now at) kind there

  pub none : (at : ℕ) → between t at at ≡ []
  unfolding between
  none at = slice_range-none (lexemes_of t.file t.src.now t.list.now) at

  pub join : (a b c : ℕ) → a ≤ b → b ≤ c → between t a c ≡ between t a b ++ between t b c
  unfolding between
  join a b c h k = slice_range-join (lexemes_of t.file t.src.now t.list.now) a b c h k

  pub front : (at next : ℕ) (kind : TokenKind) → kind_at t.list.now at ≡ Some kind → at < next → between t at next ≡ lexeme_at t at kind ∷ between t (at + 1) next
  unfolding between
  front at next kind there before = slice_range-more (lexemes_of t.file t.src.now t.list.now) at next (lexeme_at t at kind) (found at kind there) before

  pub alone : (at : ℕ) (kind : TokenKind) → kind_at t.list.now at ≡ Some kind → between t at (at + 1) ≡ lexeme_at t at kind ∷ []
  alone at kind there = front at (at + 1) kind there (omega arith) ∙ ap (λ (ls : List Lexeme). lexeme_at t at kind ∷ ls) (none (at + 1))

  -- a token before two stretches
  pub front_join : (at mid next : ℕ) (kind : TokenKind) → kind_at t.list.now at ≡ Some kind → at < mid → mid ≤ next → between t at next ≡ lexeme_at t at kind ∷ (between t (at + 1) mid ++ between t mid next)
  front_join at mid next kind there before following =
      front at next kind there (omega arith) ∙ ap (λ (ls : List Lexeme). lexeme_at t at kind ∷ ls) (join (at + 1) mid next (omega arith) following)

  -- a token between two stretches
  pub parted : (from mid next : ℕ) (kind : TokenKind) → kind_at t.list.now mid ≡ Some kind → from ≤ mid → mid < next → between t from next ≡ between t from mid ++ lexeme_at t mid kind ∷ between t (mid + 1) next
  parted from mid next kind there before following =
      join from mid next before (omega arith) ∙ ap (λ (ls : List Lexeme). between t from mid ++ ls) (front mid next kind there following)

  -- a token after a stretch
  pub ended : (from mid : ℕ) (kind : TokenKind) → kind_at t.list.now mid ≡ Some kind → from ≤ mid → between t from (mid + 1) ≡ between t from mid ++ lexeme_at t mid kind ∷ []
  ended from mid kind there before =
      join from mid (mid + 1) before (omega arith) ∙ ap (λ (ls : List Lexeme). between t from mid ++ ls) (alone mid kind there)

  -- a token before a stretch, and one after it
  pub enclosed : (at mid : ℕ) (opening closing : TokenKind) → kind_at t.list.now at ≡ Some opening → kind_at t.list.now mid ≡ Some closing → at < mid → between t at (mid + 1) ≡ lexeme_at t at opening ∷ (between t (at + 1) mid ++ lexeme_at t mid closing ∷ [])
  enclosed at mid opening closing opens closes before =
      front at (mid + 1) opening opens (omega arith) ∙ ap (λ (ls : List Lexeme). lexeme_at t at opening ∷ ls) (ended (at + 1) mid closing closes (omega arith))

  -- up to its end some token is at each index
  pub occurrence : (at : ℕ) → at < length t.list.now → (kind : TokenKind) × (kind_at t.list.now at ≡ Some kind)
  unfolding kind_at
  occurrence at within = elim (slice_get_cases t.list.now at).1 [
    | inl found ↦ (found.0.kind, ap (option_map (λ (token : Token). token.kind)) found.2)
    | inr past ↦ absurd (omega (arith, past.0))
  ]

  -- from an index on: the token there, and those from the next index on; and none at the end
  pub occurs : (at : ℕ) (kind : TokenKind) → kind_at t.list.now at ≡ Some kind → lexemes_from t at ≡ lexeme_at t at kind ∷ lexemes_from t (at + 1)
  unfolding lexemes_from
  occurs at kind there = drop-there (lexemes_of t.file t.src.now t.list.now) at (lexeme_at t at kind) (found at kind there)

  pub few : (at : ℕ) → length (lexemes_from t at) ≤ length t.list.now
  unfolding lexemes_from
  few at = omega (arith, length-drop at (lexemes_of t.file t.src.now t.list.now), length-map t.list.now (read_as t.file t.src.now))

  pub past : (at : ℕ) → length t.list.now ≤ at → lexemes_from t at ≡ []
  unfolding lexemes_from
  past at h = drop_all at (lexemes_of t.file t.src.now t.list.now) (omega (arith, h, length-map t.list.now (read_as t.file t.src.now)))
