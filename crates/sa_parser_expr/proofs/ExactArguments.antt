-- Arguments, indexes and what follows a first, as their forms read them: a lemma for each alternative that a reader decides by the
-- token that is there.
use Rattle.std.proofs.Common.{◌≡◌, ◌≢◌, ◌⊎◌, ℕ, ◌+◌, Bool, true, false, ◌||◌, List, [], ◌∷◌, Some, None, Result, refl, sym, ap, ◌∙◌, subst, inl, inr, arith}
use Rattle.std.proofs.lemmas.Bool.{false_from_ne_true}
use Rattle.sa_lexer.specs.declared.token.TokenKind.{TokenKind}
use Rattle.sa_lexer.specs.declared.token.TokenKind.TheVariants as token
use Rattle.sa_lexer.specs.declared.sign.Sign.TheVariants as sign
use Rattle.sa_lexer.specs.declared.word.Word.TheVariants as word
use Rattle.sa_ast.specs.declared.pos.Pos.{Pos}
use Rattle.sa_ast.specs.declared.ty.Ty.{Ty}
use Rattle.sa_ast.specs.declared.ty.Mode.{Mode}
use Rattle.sa_ast.specs.declared.expr.ExprReceiver.{ExprReceiver}
use Rattle.sa_ast.specs.declared.expr.ExprReceiver.TheVariants.{Of}
use Rattle.sa_ast.specs.declared.expr.ExprArg.{ExprArg}
use Rattle.sa_ast.specs.declared.expr.ExprArg.TheVariants.{Value, Unbound}
use Rattle.sa_ast.specs.declared.refusal.Rejection.{Rejection}
use Rattle.sa_ast.specs.declared.expr.Expr.{Expr}
use Rattle.sa_ast.specs.declared.expr.Expr.TheVariants as tree
use Rattle.sa_parser_expr.specs.declared.grammar.ConditionScope.{ConditionScope}
use Rattle.sa_parser_expr.specs.declared.tokens.Tokens.{Tokens}
use Rattle.sa_parser_expr.specs.Enclosures.{Where, outside}
use Rattle.sa_parser_expr.specs.Exactly.{lexemes_from, Takes, ReadsAs, ModeAt, out_there, inout_there, no_mode_there}
use Rattle.sa_parser_expr.specs.ExpressionForms.{arg_form, args_form, named_form, call_form, indices_form, first_form, goes_on, going_form, placed_post_form, post_form, expr_form}
use Rattle.sa_parser_expr.specs.Forms.{Form, give, shift, list, repeat, nest, type, expr, post, make, until}
use Rattle.sa_parser_expr.specs.Grammar.{form_of}
use Rattle.sa_parser_expr.specs.Lexemes.{Lexeme, IsFeature, lower_name, iter_name, IsLexemeAt, lexeme_at}
use Rattle.sa_parser_expr.specs.Positions.{kind_at, bytes_at}
use Rattle.sa_parser_expr.specs.Readings.{Reading, Read, Refused}
use Rattle.sa_parser_expr.specs.Tests.{is_sign, is_feature}
use Rattle.sa_parser_expr.proofs.Runs.{Runs, taken, takes, gives, refused, met, not_met, another, follows, stops, makes, closed, unclosed, places, unplaced, nested_reads, shut_by, shut_sign, shut_word}
use Rattle.sa_parser_expr.proofs.Runs.{Turns, no_turn, next_turn, turn_refused, all_turned}
use Rattle.sa_parser_expr.proofs.Shifts.{Shut}
use Rattle.sa_parser_expr.proofs.Stretches.{pos_at}
use Rattle.sa_parser_expr.proofs.Tested.{feature_met, feature_stands, sign_is, word_is}

module _ (t : Tokens) (at : ℕ)
    (other : (kind_at t.list.now at ≡ Some token.Lower) ⊎ (kind_at t.list.now at ≡ Some token.IterName) → ⊥) where
  neither : (kind : TokenKind) (l : Lexeme) → kind_at t.list.now at ≡ Some kind → l.kind ≡ kind → IsFeature l → ⊥
  neither kind l there is (lower_name e) = other (inl (there ∙ ap Some (sym is ∙ e)))
  neither kind l there is (iter_name e) = other (inr (there ∙ ap Some (sym is ∙ e)))

  pub no_feature : Shut is_feature (lexemes_from t at)
  no_feature =
      shut_by t is_feature at (λ kind there.
      false_from_ne_true (is_feature (lexeme_at t at kind)) (λ met.
      neither kind (lexeme_at t at kind) there refl (feature_stands (lexeme_at t at kind) met)))

shut_both : (test other : Lexeme → Bool) (ls : List Lexeme) → Shut test ls → Shut other ls → Shut (λ l. test l || other l) ls
shut_both test other [] h k = tt
shut_both test other (l ∷ ls) h k = rw (h, k) refl

module _ (t : Tokens) where
  -- neither a "." nor a "[" is there
  ends : (at : ℕ) → kind_at t.list.now at ≢ Some (token.Sign sign.Dot) → kind_at t.list.now at ≢ Some (token.Sign sign.LeftBracket)
      → Shut goes_on (lexemes_from t at)
  ends at dot bracket =
      shut_both (is_sign sign.Dot) (is_sign sign.LeftBracket) (lexemes_from t at) (shut_sign t sign.Dot at dot)
      (shut_sign t sign.LeftBracket at bracket)

module _ (t : Tokens) (s : ConditionScope) where
  -- ---- arguments

  behind_underscore : (at : ℕ) → kind_at t.list.now at ≡ Some (token.Sign sign.Underscore) → {v : Reading ExprArg}
      → Runs t (shift (is_sign sign.Colon) (λ _. make (λ one. Unbound (Some one) (pos_at t at)) (nest type)) (give (Unbound None (pos_at t at))))
      (at + 1) v
      → Runs t (arg_form s) at v
  unfolding arg_form
  behind_underscore at there r = met t (token.Sign sign.Underscore) there (sign_is sign.Underscore) r

  pub left : (at : ℕ) (pos : Pos) → kind_at t.list.now at ≡ Some (token.Sign sign.Underscore)
      → kind_at t.list.now (at + 1) ≢ Some (token.Sign sign.Colon) → pos ≡ pos_at t at → Takes (arg_form s) t at (Unbound None pos) (at + 1)
  left at pos there other occurs =
      rw occurs (takes t (behind_underscore at there (not_met t (shut_sign t sign.Colon (at + 1) other) (gives t))))

  two_behind : {A : Type 0} {form : Form A} {v : Reading A} (at : ℕ) → Runs t form (at + 2) v → Runs t form (at + 1 + 1) v
  two_behind at r =
      let same : at + 1 + 1 ≡ at + 2 = omega arith in
      rw same r

  pub behind_left_colon : (at : ℕ) → kind_at t.list.now at ≡ Some (token.Sign sign.Underscore)
      → kind_at t.list.now (at + 1) ≡ Some (token.Sign sign.Colon) → {v : Reading ExprArg}
      → Runs t (make (λ one. Unbound (Some one) (pos_at t at)) (nest type)) (at + 2) v → Runs t (arg_form s) at v
  behind_left_colon at there colon r =
      behind_underscore at there (met t (token.Sign sign.Colon) colon (sign_is sign.Colon) (two_behind at r))

  pub left_of_type : (at next : ℕ) (one : Ty) (pos : Pos) → kind_at t.list.now at ≡ Some (token.Sign sign.Underscore)
      → kind_at t.list.now (at + 1) ≡ Some (token.Sign sign.Colon) → pos ≡ pos_at t at → Takes (nest type) t (at + 2) one next
      → Takes (arg_form s) t at (Unbound (Some one) pos) next
  left_of_type at next one pos there colon occurs inside =
      rw occurs (takes t (behind_left_colon at there colon (makes t next (taken t inside))))

  pub behind_mode : {at next : ℕ} {mode : Mode} → kind_at t.list.now at ≢ Some (token.Sign sign.Underscore) → ModeAt t at mode next
      → {v : Reading ExprArg} → Runs t (make (Value mode) (nest (expr s outside))) next v → Runs t (arg_form s) at v
  unfolding arg_form
  behind_mode other (out_there there) r =
      let kind = token.Word word.Out in
      another t kind there refl (met t kind there (word_is word.Out) r)
  behind_mode other (inout_there there) r =
      let kind = token.Word word.Inout in
      another t kind there refl (another t kind there refl (met t kind there (word_is word.Inout) r))
  behind_mode {at = at} other (no_mode_there out inout) r =
      not_met t (shut_sign t sign.Underscore at other) (not_met t (shut_word t word.Out at out)
      (not_met t (shut_word t word.Inout at inout) r))

  pub valued : (at mid next : ℕ) (mode : Mode) (e : Expr) → kind_at t.list.now at ≢ Some (token.Sign sign.Underscore) → ModeAt t at mode mid
      → Takes (nest (expr s outside)) t mid e next → Takes (arg_form s) t at (Value mode e) next
  valued at mid next mode e other gives value = takes t (behind_mode other gives (makes t next (taken t value)))

  -- ---- calls, and the lists of arguments and of indices

  pub behind_paren : (at : ℕ) → kind_at t.list.now at ≡ Some (token.Sign sign.LeftParen) → {v : Reading (List ExprArg)}
      → Runs t (until sign.RightParen (list (arg_form s))) (at + 1) v → Runs t (args_form s) at v
  unfolding args_form
  behind_paren at there r = met t (token.Sign sign.LeftParen) there (sign_is sign.LeftParen) r

  pub no_args : (at : ℕ) (given : List ExprArg) → kind_at t.list.now at ≢ Some (token.Sign sign.LeftParen) → given ≡ []
      → Takes (args_form s) t at given at
  unfolding args_form
  no_args at given other empty = rw empty (takes t (not_met t (shut_sign t sign.LeftParen at other) (gives t)))

  pub behind_name : (on : ExprReceiver) (at : ℕ) → IsLexemeAt IsFeature t at → {v : Reading Expr}
      → Runs t (make (λ given. tree.Call on (bytes_at t.src.now t.list.now at) given (pos_at t at)) (args_form s)) (at + 1) v
      → Runs t (call_form s on) at v
  unfolding call_form named_form
  behind_name on at f r = met t f.kind f.there (feature_met f.is) r

  pub called : (on : ExprReceiver) (at next : ℕ) (name : List ℕ) (given : List ExprArg) (pos : Pos) → IsLexemeAt IsFeature t at
      → name ≡ bytes_at t.src.now t.list.now at → pos ≡ pos_at t at → Takes (args_form s) t (at + 1) given next
      → Takes (call_form s on) t at (tree.Call on name given pos) next
  called on at next name given pos f named occurs inside =
      rw (named, occurs) (takes t (behind_name on at f (makes t next (taken t inside))))

  pub no_name : (on : ExprReceiver) (at : ℕ) → ((kind_at t.list.now at ≡ Some token.Lower) ⊎ (kind_at t.list.now at ≡ Some token.IterName) → ⊥)
      → Runs t (call_form s on) at (Refused (lexemes_from t at))
  unfolding call_form
  no_name on at other = not_met t (no_feature t at other) (refused t)

  pub closed_places : (at mid : ℕ) (places : List Expr) → Takes (list (nest (expr s outside))) t at places mid
      → kind_at t.list.now mid ≡ Some (token.Sign sign.RightBracket) → Takes (indices_form s) t at places (mid + 1)
  unfolding indices_form
  closed_places at mid places inside there = takes t (closed t mid (taken t inside) there)

  pub places_refused : (at : ℕ) {rest : List Lexeme} → Runs t (list (nest (expr s outside))) at (Refused rest)
      → Runs t (indices_form s) at (Refused rest)
  unfolding indices_form
  places_refused at r = stops t r

  pub unclosed_places : (at mid : ℕ) (places : List Expr) → Takes (list (nest (expr s outside))) t at places mid
      → kind_at t.list.now mid ≢ Some (token.Sign sign.RightBracket) → Runs t (indices_form s) at (Refused (lexemes_from t mid))
  unfolding indices_form
  unclosed_places at mid places inside other = unclosed t mid (taken t inside) other

  -- ---- what follows a first

  -- one iteration: after a "." or after a "["
  abbrev going : Pos × Expr → Lexeme → Form (Pos × Expr)
  going so_far l = going_form (is_sign sign.Dot l) s so_far

  behind_dot : (so_far : Pos × Expr) (at : ℕ) {v : Reading (Pos × Expr)}
      → Runs t (make (λ e. (so_far.0, e)) (call_form s (Of so_far.1))) at v → Runs t (going_form true s so_far) at v
  unfolding going_form
  behind_dot so_far at r = r

  behind_bracket : (so_far : Pos × Expr) (at : ℕ) {v : Reading (Pos × Expr)}
      → Runs t (make (λ places. (so_far.0, tree.Index (Some so_far.1) places so_far.0)) (indices_form s)) at v
      → Runs t (going_form false s so_far) at v
  unfolding going_form
  behind_bracket so_far at r = r

  module _ (x : Where) where
    -- what was read of a post up to an index: a first, and iterations that make the AST so far
    pub record Posts (from : ℕ) (so_far : Expr) (next : ℕ) : Type 0 where
      pub first : Expr
      pub following : ℕ
      pub begun : Runs t (first_form s x) from (Read first (lexemes_from t following))
      pub turned : Turns t goes_on going (pos_at t from, first) following (pos_at t from, so_far) next

    pub first_read : {from next : ℕ} {a : Expr} → Takes (first_form s x) t from a next → Posts from a next
    first_read {from = from} {next = next} {a = a} h = record {
      first = a;
      following = next;
      begun = taken t h;
      turned = no_turn t goes_on going (pos_at t from, a) next;
    }

    pub call_read : {from mid next : ℕ} {a on e : Expr} → Posts from a mid → kind_at t.list.now mid ≡ Some (token.Sign sign.Dot)
        → Takes (call_form s (Of on)) t (mid + 1) e next → on ≡ a → Posts from e next
    call_read {from = from} {mid = mid} {next = next} {a = a} {e = e} p dot inside same =
        let called = subst (λ (on : Expr). Takes (call_form s (Of on)) t (mid + 1) e next) same inside in
        record {
          first = p.first;
          following = p.following;
          begun = p.begun;
          turned = next_turn t goes_on going p.turned (token.Sign sign.Dot) dot refl
              (behind_dot (pos_at t from, a) (mid + 1) (makes t next (taken t called)));
        }

    pub index_read : {from mid next : ℕ} {a on : Expr} {places : List Expr} {pos : Pos} → Posts from a mid
        → kind_at t.list.now mid ≡ Some (token.Sign sign.LeftBracket)
        → Takes (indices_form s) t (mid + 1) places next → on ≡ a → pos ≡ pos_at t from → Posts from (tree.Index (Some on) places pos) next
    index_read {from = from} {mid = mid} {next = next} {a = a} p bracket inside same occurs = rw (same, occurs) (record {
      first = p.first;
      following = p.following;
      begun = p.begun;
      turned = next_turn t goes_on going p.turned (token.Sign sign.LeftBracket) bracket refl
          (behind_bracket (pos_at t from, a) (mid + 1) (makes t next (taken t inside)));
    })

    -- a form for the whole
    placed_first : {from mid : ℕ} {a : Expr} (kind : TokenKind) → kind_at t.list.now from ≡ Some kind
        → Runs t (first_form s x) from (Read a (lexemes_from t mid)) → {v : Reading (Pos × Expr)}
        → Runs t (repeat goes_on going (pos_at t from, a)) mid v → Runs t (placed_post_form s x) from v
    unfolding placed_post_form
    placed_first {mid = mid} kind there first r = follows t (places t kind mid there first) r

    no_placed : {from : ℕ} {rest : List Lexeme} → Runs t (first_form s x) from (Refused rest)
        → Runs t (placed_post_form s x) from (Refused rest)
    unfolding placed_post_form
    no_placed r = stops t (unplaced t r)

    whole : {from : ℕ} (next : ℕ) {placed : Pos × Expr} → Runs t (placed_post_form s x) from (Read placed (lexemes_from t next))
        → Runs t (post_form s x) from (Read placed.1 (lexemes_from t next))
    unfolding post_form
    whole next r = makes t next r

    no_whole : {from : ℕ} {rest : List Lexeme} → Runs t (placed_post_form s x) from (Refused rest)
        → Runs t (post_form s x) from (Refused rest)
    unfolding post_form
    no_whole r = stops t r

    pub no_first : {from : ℕ} {rest : List Lexeme} → Runs t (first_form s x) from (Refused rest)
        → Runs t (post_form s x) from (Refused rest)
    no_first r = no_whole (no_placed r)

    pub no_call : {from mid : ℕ} {a on : Expr} {rest : List Lexeme} (kind : TokenKind) → kind_at t.list.now from ≡ Some kind
        → Posts from a mid → kind_at t.list.now mid ≡ Some (token.Sign sign.Dot) → on ≡ a
        → Runs t (call_form s (Of on)) (mid + 1) (Refused rest)
        → Runs t (post_form s x) from (Refused rest)
    no_call {from = from} {mid = mid} {a = a} {rest = rest} kind there p dot same r =
        let called = subst (λ (on : Expr). Runs t (call_form s (Of on)) (mid + 1) (Refused rest)) same r in
        no_whole (placed_first kind there p.begun
        (turn_refused t goes_on going p.turned (token.Sign sign.Dot) dot refl (behind_dot (pos_at t from, a) (mid + 1) (stops t called))))

    pub no_index : {from mid : ℕ} {a : Expr} {rest : List Lexeme} (kind : TokenKind) → kind_at t.list.now from ≡ Some kind
        → Posts from a mid → kind_at t.list.now mid ≡ Some (token.Sign sign.LeftBracket) → Runs t (indices_form s) (mid + 1) (Refused rest)
        → Runs t (post_form s x) from (Refused rest)
    no_index {from = from} {mid = mid} {a = a} kind there p bracket r =
        no_whole (placed_first kind there p.begun
        (turn_refused t goes_on going p.turned (token.Sign sign.LeftBracket) bracket refl
        (behind_bracket (pos_at t from, a) (mid + 1) (stops t r))))

    pub all_read : {from next : ℕ} {a : Expr} (kind : TokenKind) → kind_at t.list.now from ≡ Some kind → Posts from a next
        → kind_at t.list.now next ≢ Some (token.Sign sign.Dot) → kind_at t.list.now next ≢ Some (token.Sign sign.LeftBracket)
        → Takes (post_form s x) t from a next
    all_read {next = next} kind there p dot bracket =
        takes t (whole next (placed_first kind there p.begun (all_turned t goes_on going p.turned (ends t next dot bracket))))

  -- ---- the productions that nest

  pub nested_expr : (x : Where) (from : ℕ) (r : Result (Expr × ℕ) Rejection) → ReadsAs (expr_form s x) t from r
      → ReadsAs (nest (expr s x)) t from r
  unfolding form_of
  nested_expr x from r h = nested_reads t (expr s x) from r h

  pub nested_post : (from : ℕ) (r : Result (Expr × ℕ) Rejection) → ReadsAs (post_form s outside) t from r
      → ReadsAs (nest (post s outside)) t from r
  unfolding form_of
  nested_post from r h = nested_reads t (post s outside) from r h
