-- What an expression begins with, as its form reads it: a lemma for each alternative that a reader decides by the token that is there.
use Rattle.std.proofs.Common.{◌≡◌, ◌≢◌, ◌⊎◌, ℕ, ◌+◌, true, false, List, [], ◌∷◌, ◌++◌, Option, Some, None}
use Rattle.std.proofs.Common.{refl, ap, ◌∙◌, inl, inr}
use Rattle.sa_lexer.specs.declared.token.TokenKind.{TokenKind}
use Rattle.sa_lexer.specs.declared.token.TokenKind.TheVariants as token
use Rattle.sa_lexer.specs.declared.sign.Sign.{Sign}
use Rattle.sa_lexer.specs.declared.sign.Sign.TheVariants as sign
use Rattle.sa_lexer.specs.declared.word.Word.{Word}
use Rattle.sa_lexer.specs.declared.word.Word.TheVariants as word
use Rattle.sa_ast.specs.declared.pos.Pos.{Pos}
use Rattle.sa_ast.specs.declared.ty.Ty.{Ty}
use Rattle.sa_ast.specs.declared.ty.Mode.TheVariants.{In}
use Rattle.sa_ast.specs.declared.expr.ExprReceiver.TheVariants.{Implied, OfClass}
use Rattle.sa_ast.specs.declared.expr.ExprArg.{ExprArg}
use Rattle.sa_ast.specs.declared.expr.ExprArg.TheVariants.{Value}
use Rattle.sa_ast.specs.declared.expr.Expr.{Expr}
use Rattle.sa_ast.specs.declared.expr.Expr.TheVariants as tree
use Rattle.sa_parser_expr.specs.declared.grammar.Enclosure.{Enclosure}
use Rattle.sa_parser_expr.specs.declared.grammar.Enclosure.TheVariants.{Open, Items}
use Rattle.sa_parser_expr.specs.declared.grammar.ConditionScope.{ConditionScope}
use Rattle.sa_parser_expr.specs.declared.grammar.ConditionScope.TheVariants.{Plain, PostClause}
use Rattle.sa_parser_expr.specs.declared.tokens.Tokens.{Tokens}
use Rattle.sa_parser_expr.specs.Enclosures.{Where, outside, in_array, where_of}
use Rattle.sa_parser_expr.specs.Exactly.{Takes, lexemes_from}
use Rattle.sa_parser_expr.specs.ExpressionForms.{args_form, call_form, class_call_form, first_form, inside_form, items_or}
use Rattle.sa_parser_expr.specs.ExpressionForms.{optional_form, optional_type_form, parenthesised_form, indices_form, result_or, texts_form}
use Rattle.sa_parser_expr.specs.Forms.{Form, give, refuse, shift, follow, list, nest, make, until, expr}
use Rattle.sa_parser_expr.specs.Forms.{post, type, opens}
use Rattle.sa_parser_expr.specs.Lexemes.{Lexeme, lexeme_at}
use Rattle.sa_parser_expr.specs.Positions.{bytes_at, kind_at}
use Rattle.sa_parser_expr.specs.Readings.{Reading, Read, Refused}
use Rattle.sa_parser_expr.specs.Starts.{begins_type, word_begins_type}
use Rattle.sa_parser_expr.specs.Tests.{is_feature_kind, is_sign, is_sign_kind, is_text, is_text_kind, is_word_kind, text_of}
use Rattle.sa_parser_expr.specs.TypeForms.{type_form}
use Rattle.sa_parser_expr.proofs.Alternatives.{none_among, none_behind, passing, passing_end}
use Rattle.sa_parser_expr.proofs.ExactTypes.{as_form}
use Rattle.sa_parser_expr.proofs.Runs.{Runs, Turns, taken, takes, gives, refused, met, met_inside, not_met, another, follows}
use Rattle.sa_parser_expr.proofs.Runs.{stops, makes, makes_inside, closed, shut_by, shut_sign, all_turned, next_turn, no_turn}
use Rattle.sa_parser_expr.proofs.Stretches.{pos_at}
use Rattle.sa_parser_expr.proofs.Tested.{sign_is, word_is}

-- one more text
abbrev pub more_texts : List ℕ → Lexeme → Form (List ℕ)
more_texts bytes l = give (bytes ++ text_of l)

no_text : (kind : TokenKind) → ((bytes : List ℕ) → kind ≢ token.Text bytes) → is_text_kind kind ≡ false
no_text (token.Text bytes) h = absurd (h bytes refl)
no_text _ h = refl

module _ (t : Tokens) where
  -- what is at an index
  abbrev HasKind : ℕ → TokenKind → Type 0
  HasKind at kind = kind_at t.list.now at ≡ Some kind

  abbrev HasSign : ℕ → Sign → Type 0
  HasSign at sg = HasKind at (token.Sign sg)

  abbrev HasWord : ℕ → Word → Type 0
  HasWord at w = HasKind at (token.Word w)

  abbrev LacksSign : ℕ → Sign → Type 0
  LacksSign at sg = kind_at t.list.now at ≢ Some (token.Sign sg)

  -- ---- numbers, characters and texts

  pub number : (s : ConditionScope) (x : Where) (at value : ℕ) (pos : Pos) → kind_at t.list.now at ≡ Some (token.Int value) → pos ≡ pos_at t at
      → Takes (first_form s x) t at (tree.Int value pos) (at + 1)
  unfolding first_form
  number s x at value pos there occurs = rw occurs (takes t (met t (token.Int value) there refl (gives t)))

  pub character : (s : ConditionScope) (x : Where) (at value : ℕ) (pos : Pos) → kind_at t.list.now at ≡ Some (token.Char value) → pos ≡ pos_at t at
      → Takes (first_form s x) t at (tree.Char value pos) (at + 1)
  unfolding first_form
  character s x at value pos there occurs =
      let kind = token.Char value in
      rw occurs (takes t (passing t 1 (first_form s x) kind there refl (met t kind there refl (gives t))))

  text_first : (s : ConditionScope) (x : Where) (at : ℕ) (bytes : List ℕ) → kind_at t.list.now at ≡ Some (token.Text bytes) → {v : Reading Expr}
      → Runs t (make (λ all. tree.Text all (pos_at t at)) (texts_form bytes)) (at + 1) v → Runs t (first_form s x) at v
  unfolding first_form
  text_first s x at bytes there r =
      let kind = token.Text bytes in
      passing t 2 (first_form s x) kind there refl (met t kind there refl r)

  pub text : (s : ConditionScope) (x : Where) (at next : ℕ) (bytes all : List ℕ) (pos : Pos) → kind_at t.list.now at ≡ Some (token.Text bytes)
      → pos ≡ pos_at t at
      → Takes (texts_form bytes) t (at + 1) all next → Takes (first_form s x) t at (tree.Text all pos) next
  text s x at next bytes all pos there occurs inside = rw occurs (takes t (text_first s x at bytes there (makes t next (taken t inside))))

  pub no_more_text : (first : List ℕ) (from : ℕ) → Turns t is_text more_texts first from first from
  no_more_text first from = no_turn t is_text more_texts first from

  pub next_text : (first bytes others whole : List ℕ) (from mid : ℕ) → Turns t is_text more_texts first from bytes mid
      → kind_at t.list.now mid ≡ Some (token.Text others) → whole ≡ bytes ++ others → Turns t is_text more_texts first from whole (mid + 1)
  next_text first bytes others whole from mid turns there joined =
      rw joined (next_turn t is_text more_texts turns (token.Text others) there refl (gives t))

  pub all_texts : (first bytes all : List ℕ) (from next : ℕ) → Turns t is_text more_texts first from bytes next → all ≡ bytes
      → ((others : List ℕ) → kind_at t.list.now next ≢ Some (token.Text others)) → Takes (texts_form first) t from all next
  unfolding texts_form
  all_texts first bytes all from next turns same none =
      rw same (takes t
      (all_turned t is_text more_texts turns
      (shut_by t is_text next (λ kind there. no_text kind (λ others is. none others (there ∙ ap Some is))))))

  -- ---- words alone

  pub true_word : (s : ConditionScope) (x : Where) (at : ℕ) (pos : Pos) → HasWord at word.True → pos ≡ pos_at t at
      → Takes (first_form s x) t at (tree.Bool true pos) (at + 1)
  unfolding first_form
  true_word s x at pos there occurs =
      let kind = token.Word word.True in
      rw occurs (takes t (passing t 3 (first_form s x) kind there refl (met t kind there (word_is word.True) (gives t))))

  pub false_word : (s : ConditionScope) (x : Where) (at : ℕ) (pos : Pos) → HasWord at word.False → pos ≡ pos_at t at
      → Takes (first_form s x) t at (tree.Bool false pos) (at + 1)
  unfolding first_form
  false_word s x at pos there occurs =
      let kind = token.Word word.False in
      rw occurs (takes t (passing t 4 (first_form s x) kind there refl (met t kind there (word_is word.False) (gives t))))

  pub self_word : (s : ConditionScope) (x : Where) (at : ℕ) (pos : Pos) → HasWord at word.SelfWord → pos ≡ pos_at t at
      → Takes (first_form s x) t at (tree.SelfRef pos) (at + 1)
  unfolding first_form
  self_word s x at pos there occurs =
      let kind = token.Word word.SelfWord in
      rw occurs (takes t (passing t 5 (first_form s x) kind there refl (met t kind there (word_is word.SelfWord) (gives t))))

  pub exception_word : (s : ConditionScope) (x : Where) (at : ℕ) (pos : Pos) → HasWord at word.Exception → pos ≡ pos_at t at
      → Takes (first_form s x) t at (tree.Exception pos) (at + 1)
  unfolding first_form
  exception_word s x at pos there occurs =
      let kind = token.Word word.Exception in
      rw occurs (takes t (passing t 6 (first_form s x) kind there refl (met t kind there (word_is word.Exception) (gives t))))

  -- ---- in parentheses

  pub behind_paren : (s : ConditionScope) (at : ℕ) → HasSign at sign.LeftParen → {v : Reading Expr}
      → Runs t (until sign.RightParen (nest (expr s outside))) (at + 1) v → Runs t (parenthesised_form s) at v
  unfolding parenthesised_form inside_form
  behind_paren s at there r = met t (token.Sign sign.LeftParen) there (sign_is sign.LeftParen) r

  pub no_paren : (s : ConditionScope) (at : ℕ) → LacksSign at sign.LeftParen
      → Runs t (parenthesised_form s) at (Refused (lexemes_from t at))
  unfolding parenthesised_form
  no_paren s at other = not_met t (shut_sign t sign.LeftParen at other) (refused t)

  pub parenthesised : (s : ConditionScope) (x : Where) (at : ℕ) → HasSign at sign.LeftParen → {v : Reading Expr}
      → Runs t (parenthesised_form s) at v → Runs t (first_form s x) at v
  unfolding first_form parenthesised_form
  parenthesised s x at there r =
      let kind = token.Sign sign.LeftParen in
      passing t 7 (first_form s x) kind there refl
      (met t kind there (sign_is sign.LeftParen) (met_inside t kind there (sign_is sign.LeftParen) r))

  -- what is made of an expression in parentheses, which are optional
  made_of : (s : ConditionScope) (at : ℕ) (absent : Expr) (of : Expr → Expr) → HasSign at sign.LeftParen → {v : Reading Expr}
      → Runs t (make of (parenthesised_form s)) at v → Runs t (optional_form s absent of) at v
  unfolding optional_form parenthesised_form
  made_of s at absent of there r =
      let kind = token.Sign sign.LeftParen in
      met t kind there (sign_is sign.LeftParen) (met_inside t kind there (sign_is sign.LeftParen) (makes_inside t r))

  none_made : (s : ConditionScope) (at : ℕ) (absent : Expr) (of : Expr → Expr) → LacksSign at sign.LeftParen
      → Runs t (optional_form s absent of) at (Read absent (lexemes_from t at))
  unfolding optional_form
  none_made s at absent of other = not_met t (shut_sign t sign.LeftParen at other) (gives t)

  void_first : (s : ConditionScope) (x : Where) (at : ℕ) → HasWord at word.Void → {v : Reading Expr}
      → Runs t (optional_form s (tree.Void (pos_at t at)) (λ e. tree.IsVoid e (pos_at t at))) (at + 1) v → Runs t (first_form s x) at v
  unfolding first_form
  void_first s x at there r =
      let kind = token.Word word.Void in
      passing t 8 (first_form s x) kind there refl (met t kind there (word_is word.Void) r)

  pub void_alone : (s : ConditionScope) (x : Where) (at : ℕ) (pos : Pos) → HasWord at word.Void → pos ≡ pos_at t at
      → LacksSign (at + 1) sign.LeftParen → Takes (first_form s x) t at (tree.Void pos) (at + 1)
  void_alone s x at pos there occurs other = rw occurs (takes t (void_first s x at there (none_made s (at + 1) _ _ other)))

  pub void_of : (s : ConditionScope) (x : Where) (at : ℕ) → HasWord at word.Void
      → HasSign (at + 1) sign.LeftParen → {v : Reading Expr}
      → Runs t (make (λ e. tree.IsVoid e (pos_at t at)) (parenthesised_form s)) (at + 1) v → Runs t (first_form s x) at v
  void_of s x at there opening r = void_first s x at there (made_of s (at + 1) _ _ opening r)

  pub is_void : (s : ConditionScope) (x : Where) (at next : ℕ) (e boxed : Expr) (pos : Pos) → HasWord at word.Void → pos ≡ pos_at t at
      → HasSign (at + 1) sign.LeftParen → Takes (parenthesised_form s) t (at + 1) e next → boxed ≡ e
      → Takes (first_form s x) t at (tree.IsVoid boxed pos) next
  is_void s x at next e boxed pos there occurs opening inside same =
      rw (same, occurs)
      (takes t (void_of s x at there opening (makes t next (taken t inside))))

  new_first : (s : ConditionScope) (x : Where) (at : ℕ) → HasWord at word.New → {v : Reading Expr}
      → Runs t (optional_form s (tree.New None (pos_at t at)) (λ e. tree.New (Some e) (pos_at t at))) (at + 1) v
      → Runs t (first_form s x) at v
  unfolding first_form
  new_first s x at there r =
      let kind = token.Word word.New in
      passing t 9 (first_form s x) kind there refl (met t kind there (word_is word.New) r)

  pub new_alone : (s : ConditionScope) (x : Where) (at : ℕ) (pos : Pos) → HasWord at word.New → pos ≡ pos_at t at
      → LacksSign (at + 1) sign.LeftParen → Takes (first_form s x) t at (tree.New None pos) (at + 1)
  new_alone s x at pos there occurs other = rw occurs (takes t (new_first s x at there (none_made s (at + 1) _ _ other)))

  pub new_of : (s : ConditionScope) (x : Where) (at : ℕ) → HasWord at word.New
      → HasSign (at + 1) sign.LeftParen → {v : Reading Expr}
      → Runs t (make (λ e. tree.New (Some e) (pos_at t at)) (parenthesised_form s)) (at + 1) v → Runs t (first_form s x) at v
  new_of s x at there opening r = new_first s x at there (made_of s (at + 1) _ _ opening r)

  pub new_with : (s : ConditionScope) (x : Where) (at next : ℕ) (e boxed : Expr) (pos : Pos) → HasWord at word.New → pos ≡ pos_at t at
      → HasSign (at + 1) sign.LeftParen → Takes (parenthesised_form s) t (at + 1) e next → boxed ≡ e
      → Takes (first_form s x) t at (tree.New (Some boxed) pos) next
  new_with s x at next e boxed pos there occurs opening inside same =
      rw (same, occurs)
      (takes t (new_of s x at there opening (makes t next (taken t inside))))

  -- ---- calls

  lower_call : (s : ConditionScope) (x : Where) (at : ℕ) (kind : TokenKind) → HasKind at kind → is_feature_kind kind ≡ true → {v : Reading Expr}
      → Runs t (call_form s Implied) at v → Runs t (first_form s x) at v
  unfolding first_form call_form
  lower_call s x at token.Lower there h r =
      passing t 10 (first_form s x) token.Lower there refl
      (met t token.Lower there refl (met_inside t token.Lower there refl r))
  lower_call s x at token.IterName there h r =
      passing t 10 (first_form s x) token.IterName there refl (met t token.IterName there refl (met_inside t token.IterName there refl r))
  lower_call s x at _ there h r = absurd (cc)

  pub implied_call : (s : ConditionScope) (x : Where) (at : ℕ) (kind : TokenKind) → HasKind at kind → (kind ≡ token.Lower) ⊎ (kind ≡ token.IterName)
      → {v : Reading Expr} → Runs t (call_form s Implied) at v → Runs t (first_form s x) at v
  implied_call s x at kind there (inl e) r = lower_call s x at kind there (ap is_feature_kind e) r
  implied_call s x at kind there (inr e) r = lower_call s x at kind there (ap is_feature_kind e) r

  pub class_called : (s : ConditionScope) (at mid : ℕ) (class : Ty) → Takes (nest type) t at class mid → HasSign mid sign.DoubleColon
      → {v : Reading Expr} → Runs t (call_form s (OfClass class)) (mid + 1) v → Runs t (class_call_form s) at v
  unfolding class_call_form
  class_called s at mid class first colons r =
      follows t (as_form t (taken t first)) (met t (token.Sign sign.DoubleColon) colons (sign_is sign.DoubleColon) r)

  pub class_not_called : (s : ConditionScope) (at mid : ℕ) (class : Ty) → Takes (nest type) t at class mid → LacksSign mid sign.DoubleColon
      → Runs t (class_call_form s) at (Refused (lexemes_from t mid))
  unfolding class_call_form
  class_not_called s at mid class first other =
      follows t (as_form t (taken t first)) (not_met t (shut_sign t sign.DoubleColon mid other) (refused t))

  pub class_refused : (s : ConditionScope) (at : ℕ) {rest : List Lexeme} → Runs t (nest type) at (Refused rest)
      → Runs t (class_call_form s) at (Refused rest)
  unfolding class_call_form
  class_refused s at r = stops t (as_form t r)

  -- the alternatives that aren't allowed everywhere
  module _ (s : ConditionScope) (x : Where) {at : ℕ} {v : Reading Expr} (kind : TokenKind) (there : HasKind at kind) where
    passing_items : (x : Where) {other : Form Expr} → is_sign_kind sign.Bar kind ≡ false → Runs t other at v
        → Runs t (items_or s x other) at v
    unfolding items_or
    passing_items outside h r = another t kind there h r
    passing_items in_array h r = r

    passing_result : (s : ConditionScope) {other : Form Expr} → is_word_kind word.Result kind ≡ false → is_word_kind word.Initial kind ≡ false
        → Runs t other at v → Runs t (result_or s other) at v
    unfolding result_or
    passing_result PostClause h k r = another t kind there h (another t kind there k r)
    passing_result Plain h k r = r

  word_call : (s : ConditionScope) (x : Where) (at : ℕ) (w : Word) → HasWord at w → word_begins_type w ≡ true → {v : Reading Expr}
      → Runs t (class_call_form s) at v → Runs t (first_form s x) at v
  unfolding first_form
  word_call s x at word.Same there h r =
      let kind = token.Word word.Same in
      passing t 14 (first_form s x) kind there refl (passing_items s x kind there x refl (passing_result s x kind there s refl refl r))
  word_call s x at word.Rout there h r =
      let kind = token.Word word.Rout in
      passing t 14 (first_form s x) kind there refl (passing_items s x kind there x refl (passing_result s x kind there s refl refl r))
  word_call s x at word.Iter there h r =
      let kind = token.Word word.Iter in
      passing t 14 (first_form s x) kind there refl (passing_items s x kind there x refl (passing_result s x kind there s refl refl r))
  word_call s x at _ there h r = absurd (cc)

  pub class_call : (s : ConditionScope) (x : Where) (at : ℕ) (kind : TokenKind) → HasKind at kind → begins_type (Some kind) ≡ true
      → {v : Reading Expr}
      → Runs t (class_call_form s) at v → Runs t (first_form s x) at v
  unfolding first_form
  class_call s x at token.ClassName there h r =
      let kind = token.ClassName in
      passing t 14 (first_form s x) kind there refl (passing_items s x kind there x refl (passing_result s x kind there s refl refl r))
  class_call s x at token.AbstractName there h r =
      let kind = token.AbstractName in
      passing t 14 (first_form s x) kind there refl (passing_items s x kind there x refl (passing_result s x kind there s refl refl r))
  class_call s x at (token.Word w) there h r = word_call s x at w there h r
  class_call s x at _ there h r = absurd (cc)

  pub named_call : (s : ConditionScope) (x : Where) (at : ℕ) (kind : TokenKind) → HasKind at kind
      → (kind ≡ token.ClassName) ⊎ (kind ≡ token.AbstractName)
      → {v : Reading Expr} → Runs t (class_call_form s) at v → Runs t (first_form s x) at v
  named_call s x at kind there (inl e) r = class_call s x at kind there (ap (λ k. begins_type (Some k)) e) r
  named_call s x at kind there (inr e) r = class_call s x at kind there (ap (λ k. begins_type (Some k)) e) r

  -- ---- what signs and `bind` begin

  pub behind_hash : (s : ConditionScope) (x : Where) (at : ℕ) → HasSign at sign.Hash → {v : Reading Expr}
      → Runs t (follow optional_type_form (λ of. make (λ given. tree.Create of given (pos_at t at)) (args_form s))) (at + 1) v
      → Runs t (first_form s x) at v
  unfolding first_form
  behind_hash s x at there r =
      let kind = token.Sign sign.Hash in
      passing t 11 (first_form s x) kind there refl (met t kind there (sign_is sign.Hash) r)

  pub create : (s : ConditionScope) (x : Where) (at mid next : ℕ) (of : Option Ty) (given : List ExprArg) (pos : Pos) → HasSign at sign.Hash
      → pos ≡ pos_at t at → Takes optional_type_form t (at + 1) of mid → Takes (args_form s) t mid given next
      → Takes (first_form s x) t at (tree.Create of given pos) next
  create s x at mid next of given pos there occurs first second =
      rw occurs (takes t (behind_hash s x at there (follows t (taken t first) (makes t next (taken t second)))))

  pub bind_first : (s : ConditionScope) (x : Where) (at : ℕ) → HasWord at word.Bind → {v : Reading Expr}
      → Runs t
      (shift (is_sign sign.LeftParen)
      (λ _. make (λ e. tree.Bind e (pos_at t at)) (until sign.RightParen (nest (post s outside)))) refuse)
      (at + 1) v
      → Runs t (first_form s x) at v
  unfolding first_form
  bind_first s x at there r =
      let kind = token.Word word.Bind in
      passing t 12 (first_form s x) kind there refl (met t kind there (word_is word.Bind) r)

  pub behind_bind : (s : ConditionScope) (x : Where) (at : ℕ) → HasWord at word.Bind
      → HasSign (at + 1) sign.LeftParen → {v : Reading Expr}
      → Runs t (make (λ e. tree.Bind e (pos_at t at)) (until sign.RightParen (nest (post s outside)))) (at + 1 + 1) v
      → Runs t (first_form s x) at v
  behind_bind s x at there opening r = bind_first s x at there (met t (token.Sign sign.LeftParen) opening (sign_is sign.LeftParen) r)

  pub bind_alone : (s : ConditionScope) (x : Where) (at : ℕ) → HasWord at word.Bind
      → LacksSign (at + 1) sign.LeftParen → Runs t (first_form s x) at (Refused (lexemes_from t (at + 1)))
  bind_alone s x at there other = bind_first s x at there (not_met t (shut_sign t sign.LeftParen (at + 1) other) (refused t))

  pub bind : (s : ConditionScope) (x : Where) (at mid : ℕ) (e boxed : Expr) (pos : Pos) → HasWord at word.Bind → pos ≡ pos_at t at
      → HasSign (at + 1) sign.LeftParen → HasSign mid sign.RightParen
      → Takes (nest (post s outside)) t (at + 1 + 1) e mid → boxed ≡ e → Takes (first_form s x) t at (tree.Bind boxed pos) (mid + 1)
  bind s x at mid e boxed pos there occurs opening closing inside same =
      rw (same, occurs) (takes t (behind_bind s x at there opening (makes t (mid + 1) (closed t mid (taken t inside) closing))))

  pub behind_bracket : (s : ConditionScope) (x : Where) (at : ℕ) → HasSign at sign.LeftBracket → {v : Reading Expr}
      → Runs t (make (λ places. tree.Index None places (pos_at t at)) (indices_form s)) (at + 1) v → Runs t (first_form s x) at v
  unfolding first_form
  behind_bracket s x at there r =
      let kind = token.Sign sign.LeftBracket in
      passing t 13 (first_form s x) kind there refl (met t kind there (sign_is sign.LeftBracket) r)

  pub index : (s : ConditionScope) (x : Where) (at next : ℕ) (places : List Expr) (pos : Pos) → HasSign at sign.LeftBracket → pos ≡ pos_at t at
      → Takes (indices_form s) t (at + 1) places next → Takes (first_form s x) t at (tree.Index None places pos) next
  index s x at next places pos there occurs inside = rw occurs (takes t (behind_bracket s x at there (makes t next (taken t inside))))

  pub behind_bar : (s : ConditionScope) (at : ℕ) → HasSign at sign.Bar → {v : Reading Expr}
      → Runs t (make (λ es. tree.Items es (pos_at t at)) (until sign.Bar (list (nest (expr s in_array))))) (at + 1) v
      → Runs t (first_form s outside) at v
  unfolding first_form items_or
  behind_bar s at there r =
      let kind = token.Sign sign.Bar in
      passing t 14 (first_form s outside) kind there refl (met t kind there (sign_is sign.Bar) r)

  pub items : (s : ConditionScope) (at mid : ℕ) (es : List Expr) (pos : Pos) → HasSign at sign.Bar → pos ≡ pos_at t at
      → HasSign mid sign.Bar → Takes (list (nest (expr s in_array))) t (at + 1) es mid
      → Takes (first_form s outside) t at (tree.Items es pos) (mid + 1)
  items s at mid es pos there occurs closing inside =
      rw occurs (takes t (behind_bar s at there (makes t (mid + 1) (closed t mid (taken t inside) closing))))

  -- ---- `result` and `initial`

  pub result : (s : ConditionScope) (x : Where) (at : ℕ) (name : List ℕ) (given : List ExprArg) (pos : Pos) → s ≡ PostClause
      → HasWord at word.Result → name ≡ bytes_at t.src.now t.list.now at → given ≡ [] → pos ≡ pos_at t at
      → Takes (first_form s x) t at (tree.Call Implied name given pos) (at + 1)
  unfolding first_form result_or
  result s x at name given pos scope there called empty occurs =
      let kind = token.Word word.Result in
      rw (scope, called, empty, occurs)
      (takes t (passing t 14 (first_form PostClause x) kind there refl (passing_items PostClause x kind there x refl
      (met t kind there (word_is word.Result) (gives t)))))

  pub initial_of : (s : ConditionScope) (x : Where) (at : ℕ) → s ≡ PostClause → HasWord at word.Initial → {v : Reading Expr}
      → Runs t
      (make (λ e. tree.Call Implied (bytes_at t.src.now t.list.now at) (Value In e ∷ []) (pos_at t at)) (parenthesised_form Plain))
      (at + 1) v
      → Runs t (first_form s x) at v
  unfolding first_form result_or parenthesised_form
  initial_of s x at scope there r =
      let kind = token.Word word.Initial in
      rw scope
      (passing t 14 (first_form PostClause x) kind there refl (passing_items PostClause x kind there x refl
      (another t kind there refl (met t kind there (word_is word.Initial) (makes_inside t r)))))

  pub initial : (s : ConditionScope) (x : Where) (at next : ℕ) (e : Expr) (name : List ℕ) (given : List ExprArg) (pos : Pos) → s ≡ PostClause
      → HasWord at word.Initial → Takes (parenthesised_form Plain) t (at + 1) e next
      → name ≡ bytes_at t.src.now t.list.now at → given ≡ Value In e ∷ [] → pos ≡ pos_at t at
      → Takes (first_form s x) t at (tree.Call Implied name given pos) next
  initial s x at next e name given pos scope there inside called one occurs =
      rw (called, one, occurs) (takes t (initial_of s x at scope there (makes t next (taken t inside))))

  -- ---- what begins no expression

  no_class_call : (s : ConditionScope) (at : ℕ) (kind : TokenKind) → HasKind at kind → opens (class_call_form s) (lexeme_at t at kind) ≡ false
      → Runs t (class_call_form s) at (Refused (lexemes_from t at))
  unfolding class_call_form type_form
  no_class_call s at kind there h = stops t (passing t 4 type_form kind there (none_among (lexeme_at t at kind) 4 type_form h) (refused t))

  -- a token that the form doesn't open with
  pub none_begins : (s : ConditionScope) (x : Where) (at : ℕ) (kind : TokenKind) → HasKind at kind
      → opens (first_form s x) (lexeme_at t at kind) ≡ false → Runs t (first_form s x) at (Refused (lexemes_from t at))
  unfolding first_form items_or result_or
  none_begins PostClause outside at kind there h =
      let form = first_form PostClause outside in
      passing t 17 form kind there (none_among (lexeme_at t at kind) 17 form h)
      (no_class_call PostClause at kind there (none_behind (lexeme_at t at kind) 17 form h))
  none_begins PostClause in_array at kind there h =
      let form = first_form PostClause in_array in
      passing t 16 form kind there (none_among (lexeme_at t at kind) 16 form h)
      (no_class_call PostClause at kind there (none_behind (lexeme_at t at kind) 16 form h))
  none_begins Plain outside at kind there h =
      let form = first_form Plain outside in
      passing t 15 form kind there (none_among (lexeme_at t at kind) 15 form h)
      (no_class_call Plain at kind there (none_behind (lexeme_at t at kind) 15 form h))
  none_begins Plain in_array at kind there h =
      let form = first_form Plain in_array in
      passing t 14 form kind there (none_among (lexeme_at t at kind) 14 form h)
      (no_class_call Plain at kind there (none_behind (lexeme_at t at kind) 14 form h))

  -- the end of the file
  pub end_begins_none : (s : ConditionScope) (x : Where) (at : ℕ) → kind_at t.list.now at ≡ None
      → Runs t (first_form s x) at (Refused (lexemes_from t at))
  unfolding first_form items_or result_or class_call_form type_form
  end_begins_none PostClause outside at end =
      passing_end t 17 (first_form PostClause outside) end (stops t (passing_end t 4 type_form end (refused t)))
  end_begins_none PostClause in_array at end =
      passing_end t 16 (first_form PostClause in_array) end (stops t (passing_end t 4 type_form end (refused t)))
  end_begins_none Plain outside at end =
      passing_end t 15 (first_form Plain outside) end (stops t (passing_end t 4 type_form end (refused t)))
  end_begins_none Plain in_array at end =
      passing_end t 14 (first_form Plain in_array) end (stops t (passing_end t 4 type_form end (refused t)))

  -- another sign, and another word
  sign_opens_none : (s : ConditionScope) (x : Where) (at : ℕ) (sg : Sign) → sg ≢ sign.LeftParen → sg ≢ sign.Hash → sg ≢ sign.LeftBracket
      → sg ≢ sign.Bar
      → opens (first_form s x) (lexeme_at t at (token.Sign sg)) ≡ false
  unfolding first_form items_or result_or class_call_form type_form
  sign_opens_none s x at sign.LeftParen paren hash bracket bar = absurd (paren refl)
  sign_opens_none s x at sign.Hash paren hash bracket bar = absurd (hash refl)
  sign_opens_none s x at sign.LeftBracket paren hash bracket bar = absurd (bracket refl)
  sign_opens_none s x at sign.Bar paren hash bracket bar = absurd (bar refl)
  sign_opens_none PostClause outside at _ paren hash bracket bar = refl
  sign_opens_none PostClause in_array at _ paren hash bracket bar = refl
  sign_opens_none Plain outside at _ paren hash bracket bar = refl
  sign_opens_none Plain in_array at _ paren hash bracket bar = refl

  pub no_sign : (s : ConditionScope) (x : Where) (at : ℕ) (sg : Sign) → HasSign at sg
      → sg ≢ sign.LeftParen → sg ≢ sign.Hash → sg ≢ sign.LeftBracket → sg ≢ sign.Bar
      → Runs t (first_form s x) at (Refused (lexemes_from t at))
  no_sign s x at sg there paren hash bracket bar =
      none_begins s x at (token.Sign sg) there
      (sign_opens_none s x at sg paren hash bracket bar)

  -- a `|` that ends an array literal
  pub no_items : (s : ConditionScope) (a : Enclosure) (at : ℕ) → HasSign at sign.Bar → a ≢ Open
      → Runs t (first_form s (where_of a)) at (Refused (lexemes_from t at))
  unfolding first_form items_or result_or class_call_form type_form
  no_items s Open at there other = absurd (other refl)
  no_items PostClause Items at there other = none_begins PostClause in_array at (token.Sign sign.Bar) there refl
  no_items Plain Items at there other = none_begins Plain in_array at (token.Sign sign.Bar) there refl

  -- `result` and `initial` outside of a `post`
  pub no_post : (s : ConditionScope) (x : Where) (at : ℕ) (w : Word) → HasWord at w → s ≢ PostClause
      → (w ≡ word.Result) ⊎ (w ≡ word.Initial) → Runs t (first_form s x) at (Refused (lexemes_from t at))
  unfolding first_form items_or result_or class_call_form type_form
  no_post PostClause x at w there scope names = absurd (scope refl)
  no_post Plain outside at w there scope (inl e) = none_begins Plain outside at (token.Word word.Result) (rw e at there) refl
  no_post Plain in_array at w there scope (inl e) = none_begins Plain in_array at (token.Word word.Result) (rw e at there) refl
  no_post Plain outside at w there scope (inr e) = none_begins Plain outside at (token.Word word.Initial) (rw e at there) refl
  no_post Plain in_array at w there scope (inr e) = none_begins Plain in_array at (token.Word word.Initial) (rw e at there) refl

  -- a word is none of these
  pub record IsOther (w : Word) : Type 0 where
    pub no_true : w ≢ word.True
    pub no_false : w ≢ word.False
    pub no_self : w ≢ word.SelfWord
    pub no_exception : w ≢ word.Exception
    pub no_void : w ≢ word.Void
    pub no_new : w ≢ word.New
    pub no_bind : w ≢ word.Bind
    pub no_same : w ≢ word.Same
    pub no_rout : w ≢ word.Rout
    pub no_iter : w ≢ word.Iter
    pub no_result : w ≢ word.Result
    pub no_initial : w ≢ word.Initial

  word_opens_none : (s : ConditionScope) (x : Where) (at : ℕ) (w : Word) → IsOther w → opens (first_form s x) (lexeme_at t at (token.Word w)) ≡ false
  unfolding first_form items_or result_or class_call_form type_form
  word_opens_none s x at word.True h = absurd (h.no_true refl)
  word_opens_none s x at word.False h = absurd (h.no_false refl)
  word_opens_none s x at word.SelfWord h = absurd (h.no_self refl)
  word_opens_none s x at word.Exception h = absurd (h.no_exception refl)
  word_opens_none s x at word.Void h = absurd (h.no_void refl)
  word_opens_none s x at word.New h = absurd (h.no_new refl)
  word_opens_none s x at word.Bind h = absurd (h.no_bind refl)
  word_opens_none s x at word.Same h = absurd (h.no_same refl)
  word_opens_none s x at word.Rout h = absurd (h.no_rout refl)
  word_opens_none s x at word.Iter h = absurd (h.no_iter refl)
  word_opens_none s x at word.Result h = absurd (h.no_result refl)
  word_opens_none s x at word.Initial h = absurd (h.no_initial refl)
  word_opens_none PostClause outside at _ h = refl
  word_opens_none PostClause in_array at _ h = refl
  word_opens_none Plain outside at _ h = refl
  word_opens_none Plain in_array at _ h = refl

  pub no_word : (s : ConditionScope) (x : Where) (at : ℕ) (w : Word) → HasWord at w → IsOther w
      → Runs t (first_form s x) at (Refused (lexemes_from t at))
  no_word s x at w there h = none_begins s x at (token.Word w) there (word_opens_none s x at w h)
