-- Types, as their forms read them: a lemma for each alternative that a reader decides by the token that is there.
use Rattle.std.proofs.Common.{◌≡◌, ◌≢◌, ℕ, ◌+◌, true, false, ◌||◌, List, [], Option, Some, None, refl, sym, ap, ◌∙◌}
use Rattle.std.proofs.lemmas.Bool.{false_from_ne_true}
use denote.Enum.Bare.{sameb}
use Rattle.sa_lexer.specs.declared.token.TokenKind.{TokenKind}
use Rattle.sa_lexer.specs.declared.token.TokenKind.TheVariants as token
use Rattle.sa_lexer.specs.declared.sign.Sign.TheVariants as sign
use Rattle.sa_lexer.specs.declared.word.Word.{Word}
use Rattle.sa_lexer.specs.declared.word.Word.TheVariants as word
use Rattle.sa_lexer.specs.contracts.word.Word.{the_type as words}
use Rattle.sa_ast.specs.declared.pos.Pos.{Pos}
use Rattle.sa_ast.specs.declared.ty.Ty.{Ty}
use Rattle.sa_ast.specs.declared.ty.Ty.TheVariants as ty
use Rattle.sa_ast.specs.declared.ty.ModeTy.{ModeTy}
use Rattle.sa_ast.specs.declared.ty.Mode.{Mode}
use Rattle.sa_ast.specs.declared.ty.Mode.TheVariants.{In, Out, Inout, Once}
use Rattle.sa_parser_expr.specs.declared.tokens.Tokens.{Tokens}
use Rattle.sa_parser_expr.specs.declared.types.CallableKind.{CallableKind}
use Rattle.sa_parser_expr.specs.declared.types.CallableKind.TheVariants.{Routine, Iter}
use Rattle.sa_parser_expr.specs.Exactly.{lexemes_from, Takes}
use Rattle.sa_parser_expr.specs.ExpressionForms.{optional_type_form}
use Rattle.sa_parser_expr.specs.Forms.{follow, list, nest, type, make, until, opens}
use Rattle.sa_parser_expr.specs.Grammar.{form_of}
use Rattle.sa_parser_expr.specs.Lexemes.{Lexeme, IsClass, class_name, abstract_name, IsLexemeAt, lexeme_at}
use Rattle.sa_parser_expr.specs.Positions.{kind_at, bytes_at}
use Rattle.sa_parser_expr.specs.Readings.{Reading, Read, Refused}
use Rattle.sa_parser_expr.specs.Starts.{begins_type, word_begins_type}
use Rattle.sa_parser_expr.specs.Tests.{is_class, is_class_kind, is_word_kind}
use Rattle.sa_parser_expr.specs.TypeForms.{once_form, mode_form, given_types_form, mode_type_form, bound_args_form, bound_result_form, type_form}
use Rattle.sa_parser_expr.proofs.Runs.{Runs, taken, takes, gives, refused, met, not_met, another, follows, makes, nests, nested, first_one, second_one, meets_by, shut_by, shut_sign, shut_word}
use Rattle.sa_parser_expr.proofs.Shifts.{Shut}
use Rattle.sa_parser_expr.proofs.Stretches.{pos_at}
use Rattle.sa_parser_expr.proofs.Tested.{class_met, class_stands, sign_is, word_is}

-- which lexeme the form of a type opens with
opening_word : (w : Word) → (sameb words word.Same w || (sameb words word.Rout w || (sameb words word.Iter w || false))) ≡ word_begins_type w
opening_word word.Same = refl
opening_word word.Rout = refl
opening_word word.Iter = refl
opening_word _ = refl

opening_kind : (kind : TokenKind) → (is_class_kind kind || (is_word_kind word.Same kind || (is_word_kind word.Rout kind || (is_word_kind word.Iter kind || false)))) ≡ begins_type (Some kind)
opening_kind token.ClassName = refl
opening_kind token.AbstractName = refl
opening_kind (token.Word w) = opening_word w
opening_kind _ = refl

opening : (l : Lexeme) → opens type_form l ≡ begins_type (Some l.kind)
unfolding type_form
opening l = opening_kind l.kind

module _ (t : Tokens) where
  pub mode_out : (callable : CallableKind) (at : ℕ) → kind_at t.list.now at ≡ Some (token.Word word.Out) → Takes (mode_form callable) t at Out (at + 1)
  unfolding mode_form
  mode_out callable at there = takes t (met t (token.Word word.Out) there (word_is word.Out) (gives t))

  pub mode_inout : (callable : CallableKind) (at : ℕ) → kind_at t.list.now at ≡ Some (token.Word word.Inout) → Takes (mode_form callable) t at Inout (at + 1)
  unfolding mode_form
  mode_inout callable at there =
      takes t (another t (token.Word word.Inout) there refl (met t (token.Word word.Inout) there (word_is word.Inout) (gives t)))

  pub mode_in : (callable : CallableKind) (at : ℕ) → kind_at t.list.now at ≡ Some (token.Word word.In) → Takes (mode_form callable) t at In (at + 1)
  unfolding mode_form
  mode_in callable at there =
      takes t (another t (token.Word word.In) there refl (another t (token.Word word.In) there refl
      (met t (token.Word word.In) there (word_is word.In) (gives t))))

  once : (callable : CallableKind) (at : ℕ) → kind_at t.list.now at ≡ Some (token.Word word.Once) → callable ≡ Iter
      → Runs t (once_form callable) at (Read Once (lexemes_from t (at + 1)))
  unfolding once_form
  once Routine at there iter = absurd (cc)
  once Iter at there iter = met t (token.Word word.Once) there (word_is word.Once) (gives t)

  not_once : (callable : CallableKind) (at : ℕ) → callable ≢ Iter → Runs t (once_form callable) at (Read In (lexemes_from t at))
  unfolding once_form
  not_once Routine at other = gives t
  not_once Iter at other = absurd (other refl)

  behind_others : (callable : CallableKind) {at next : ℕ} (mode : Mode) → kind_at t.list.now at ≡ Some (token.Word word.Once)
      → Runs t (once_form callable) at (Read mode (lexemes_from t next)) → Takes (mode_form callable) t at mode next
  unfolding mode_form
  behind_others callable mode there r =
      let kind = token.Word word.Once in
      takes t (another t kind there refl (another t kind there refl (another t kind there refl r)))

  pub mode_once : (callable : CallableKind) (at : ℕ) → kind_at t.list.now at ≡ Some (token.Word word.Once) → callable ≡ Iter
      → Takes (mode_form callable) t at Once (at + 1)
  mode_once callable at there iter = behind_others callable Once there (once callable at there iter)

  pub mode_not_once : (callable : CallableKind) (at : ℕ) → kind_at t.list.now at ≡ Some (token.Word word.Once) → callable ≢ Iter
      → Takes (mode_form callable) t at In at
  mode_not_once callable at there other = behind_others callable In there (not_once callable at other)

  no_once : (callable : CallableKind) (at : ℕ) → kind_at t.list.now at ≢ Some (token.Word word.Once) → Runs t (once_form callable) at (Read In (lexemes_from t at))
  unfolding once_form
  no_once Routine at other = gives t
  no_once Iter at other = not_met t (shut_word t word.Once at other) (gives t)

  pub no_mode_word : (callable : CallableKind) (at : ℕ)
      → kind_at t.list.now at ≢ Some (token.Word word.Out) → kind_at t.list.now at ≢ Some (token.Word word.Inout)
      → kind_at t.list.now at ≢ Some (token.Word word.In) → kind_at t.list.now at ≢ Some (token.Word word.Once)
      → Takes (mode_form callable) t at In at
  unfolding mode_form
  no_mode_word callable at out inout in_word once_word =
      takes t (not_met t (shut_word t word.Out at out) (not_met t (shut_word t word.Inout at inout) (not_met t (shut_word t word.In at in_word)
      (no_once callable at once_word))))

  -- ---- types

  of_form : {at : ℕ} {v : Reading Ty} → Runs t type_form at v → Runs t (nest type) at v
  unfolding form_of
  of_form r = nests t type r

  class_first : (at : ℕ) (c : IsLexemeAt IsClass t at) {v : Reading Ty}
      → Runs t (make (λ given. ty.Named (bytes_at t.src.now t.list.now at) given (pos_at t at)) given_types_form) (at + 1) v → Runs t type_form at v
  unfolding type_form
  class_first at c r = met t c.kind c.there (class_met c.is) r

  same_first : (at : ℕ) → kind_at t.list.now at ≡ Some (token.Word word.Same) → Runs t type_form at (Read (ty.Same (pos_at t at)) (lexemes_from t (at + 1)))
  unfolding type_form
  same_first at there = another t (token.Word word.Same) there refl (met t (token.Word word.Same) there (word_is word.Same) (gives t))

  rout_first : (at : ℕ) → kind_at t.list.now at ≡ Some (token.Word word.Rout) → {v : Reading Ty}
      → Runs t (follow (bound_args_form Routine) (λ args. make (λ gives. ty.Rout args gives (pos_at t at)) bound_result_form)) (at + 1) v → Runs t type_form at v
  unfolding type_form
  rout_first at there r =
      let kind = token.Word word.Rout in
      another t kind there refl (another t kind there refl (met t kind there (word_is word.Rout) r))

  iter_first : (at : ℕ) → kind_at t.list.now at ≡ Some (token.Word word.Iter) → {v : Reading Ty}
      → Runs t (follow (bound_args_form Iter) (λ args. make (λ gives. ty.Iter args gives (pos_at t at)) bound_result_form)) (at + 1) v → Runs t type_form at v
  unfolding type_form
  iter_first at there r =
      let kind = token.Word word.Iter in
      another t kind there refl (another t kind there refl (another t kind there refl (met t kind there (word_is word.Iter) r)))

  none_first : (at : ℕ) → Shut is_class (lexemes_from t at) → kind_at t.list.now at ≢ Some (token.Word word.Same)
      → kind_at t.list.now at ≢ Some (token.Word word.Rout) → kind_at t.list.now at ≢ Some (token.Word word.Iter)
      → Runs t type_form at (Refused (lexemes_from t at))
  unfolding type_form
  none_first at class same rout iter =
      not_met t class (not_met t (shut_word t word.Same at same) (not_met t (shut_word t word.Rout at rout) (not_met t (shut_word t word.Iter at iter) (refused t))))

  -- after the name of a class, and after the words
  pub behind_class : (at : ℕ) (c : IsLexemeAt IsClass t at) {v : Reading Ty}
      → Runs t (make (λ given. ty.Named (bytes_at t.src.now t.list.now at) given (pos_at t at)) given_types_form) (at + 1) v → Runs t (nest type) at v
  behind_class at c r = of_form (class_first at c r)

  pub behind_rout : (at : ℕ) → kind_at t.list.now at ≡ Some (token.Word word.Rout) → {v : Reading Ty}
      → Runs t (follow (bound_args_form Routine) (λ args. make (λ gives. ty.Rout args gives (pos_at t at)) bound_result_form)) (at + 1) v → Runs t (nest type) at v
  behind_rout at there r = of_form (rout_first at there r)

  pub behind_iter : (at : ℕ) → kind_at t.list.now at ≡ Some (token.Word word.Iter) → {v : Reading Ty}
      → Runs t (follow (bound_args_form Iter) (λ args. make (λ gives. ty.Iter args gives (pos_at t at)) bound_result_form)) (at + 1) v → Runs t (nest type) at v
  behind_iter at there r = of_form (iter_first at there r)

  pub named : (at next : ℕ) (name : List ℕ) (given : List Ty) (pos : Pos) → IsLexemeAt IsClass t at → name ≡ bytes_at t.src.now t.list.now at → pos ≡ pos_at t at
      → Takes given_types_form t (at + 1) given next → Takes (nest type) t at (ty.Named name given pos) next
  named at next name given pos c called occurs inside = rw (called, occurs) (takes t (behind_class at c (makes t next (taken t inside))))

  pub same : (at : ℕ) (pos : Pos) → kind_at t.list.now at ≡ Some (token.Word word.Same) → pos ≡ pos_at t at → Takes (nest type) t at (ty.Same pos) (at + 1)
  same at pos there occurs = rw occurs (takes t (of_form (same_first at there)))

  pub rout : (at mid next : ℕ) (args : List ModeTy) (gives : Option Ty) (pos : Pos) → kind_at t.list.now at ≡ Some (token.Word word.Rout) → pos ≡ pos_at t at
      → Takes (bound_args_form Routine) t (at + 1) args mid → Takes bound_result_form t mid gives next → Takes (nest type) t at (ty.Rout args gives pos) next
  rout at mid next args gives pos there occurs first second =
      rw occurs (takes t (behind_rout at there (follows t (taken t first) (makes t next (taken t second)))))

  pub iter : (at mid next : ℕ) (args : List ModeTy) (gives : Option Ty) (pos : Pos) → kind_at t.list.now at ≡ Some (token.Word word.Iter) → pos ≡ pos_at t at
      → Takes (bound_args_form Iter) t (at + 1) args mid → Takes bound_result_form t mid gives next → Takes (nest type) t at (ty.Iter args gives pos) next
  iter at mid next args gives pos there occurs first second =
      rw occurs (takes t (behind_iter at there (follows t (taken t first) (makes t next (taken t second)))))

  pub no_type : (at : ℕ) → Shut is_class (lexemes_from t at) → kind_at t.list.now at ≢ Some (token.Word word.Same)
      → kind_at t.list.now at ≢ Some (token.Word word.Rout) → kind_at t.list.now at ≢ Some (token.Word word.Iter)
      → Runs t (nest type) at (Refused (lexemes_from t at))
  no_type at class same rout iter = of_form (none_first at class same rout iter)

  -- ---- what is in braces, and after a colon

  pub behind_brace : (at : ℕ) → kind_at t.list.now at ≡ Some (token.Sign sign.LeftBrace) → {v : Reading (List Ty)}
      → Runs t (until sign.RightBrace (list (nest type))) (at + 1) v → Runs t given_types_form at v
  unfolding given_types_form
  behind_brace at there r = met t (token.Sign sign.LeftBrace) there (sign_is sign.LeftBrace) r

  pub no_given : (at : ℕ) (ts : List Ty) → kind_at t.list.now at ≢ Some (token.Sign sign.LeftBrace) → ts ≡ [] → Takes given_types_form t at ts at
  unfolding given_types_form
  no_given at ts other empty = rw empty (takes t (not_met t (shut_sign t sign.LeftBrace at other) (gives t)))

  pub behind_args_brace : (callable : CallableKind) (at : ℕ) → kind_at t.list.now at ≡ Some (token.Sign sign.LeftBrace) → {v : Reading (List ModeTy)}
      → Runs t (until sign.RightBrace (list (mode_type_form callable))) (at + 1) v → Runs t (bound_args_form callable) at v
  unfolding bound_args_form
  behind_args_brace callable at there r = met t (token.Sign sign.LeftBrace) there (sign_is sign.LeftBrace) r

  pub no_args : (callable : CallableKind) (at : ℕ) (args : List ModeTy) → kind_at t.list.now at ≢ Some (token.Sign sign.LeftBrace) → args ≡ []
      → Takes (bound_args_form callable) t at args at
  unfolding bound_args_form
  no_args callable at args other empty = rw empty (takes t (not_met t (shut_sign t sign.LeftBrace at other) (gives t)))

  pub behind_mode : (callable : CallableKind) (at mid : ℕ) (mode : Mode) → Takes (mode_form callable) t at mode mid → {v : Reading ModeTy}
      → Runs t (make (λ one. record { mode = mode; ty = one }) (nest type)) mid v → Runs t (mode_type_form callable) at v
  unfolding mode_type_form
  behind_mode callable at mid mode first r = follows t (taken t first) r

  pub mode_type : (callable : CallableKind) (at mid next : ℕ) (mode : Mode) (one : Ty) → Takes (mode_form callable) t at mode mid
      → Takes (nest type) t mid one next → Takes (mode_type_form callable) t at (record { mode = mode; ty = one }) next
  mode_type callable at mid next mode one first second = takes t (behind_mode callable at mid mode first (makes t next (taken t second)))

  pub behind_colon : (at : ℕ) → kind_at t.list.now at ≡ Some (token.Sign sign.Colon) → {v : Reading (Option Ty)}
      → Runs t (make Some (nest type)) (at + 1) v → Runs t bound_result_form at v
  unfolding bound_result_form
  behind_colon at there r = met t (token.Sign sign.Colon) there (sign_is sign.Colon) r

  pub no_result : (at : ℕ) → kind_at t.list.now at ≢ Some (token.Sign sign.Colon) → Takes bound_result_form t at None at
  unfolding bound_result_form
  no_result at other = takes t (not_met t (shut_sign t sign.Colon at other) (gives t))

  pub of_result : (at next : ℕ) (one boxed : Ty) → kind_at t.list.now at ≡ Some (token.Sign sign.Colon) → Takes (nest type) t (at + 1) one next → boxed ≡ one
      → Takes bound_result_form t at (Some boxed) next
  of_result at next one boxed there inside same = rw same (takes t (behind_colon at there (makes t next (taken t inside))))

  module _ (at : ℕ) (class : kind_at t.list.now at ≢ Some token.ClassName) (abstract : kind_at t.list.now at ≢ Some token.AbstractName) where
    neither : (kind : TokenKind) (l : Lexeme) → kind_at t.list.now at ≡ Some kind → l.kind ≡ kind → IsClass l → ⊥
    neither kind l there is (class_name e) = class (there ∙ ap Some (sym is ∙ e))
    neither kind l there is (abstract_name e) = abstract (there ∙ ap Some (sym is ∙ e))

    pub no_class : Shut is_class (lexemes_from t at)
    no_class =
        shut_by t is_class at (λ kind there.
        false_from_ne_true (is_class (lexeme_at t at kind)) (λ met. neither kind (lexeme_at t at kind) there refl (class_stands (lexeme_at t at kind) met)))

  -- ---- what may be left out

  pub as_form : {at : ℕ} {v : Reading Ty} → Runs t (nest type) at v → Runs t type_form at v
  unfolding form_of
  as_form r = nested t type r

  pub type_there : (at : ℕ) (kind : TokenKind) → kind_at t.list.now at ≡ Some kind → begins_type (kind_at t.list.now at) ≡ true → {v : Reading (Option Ty)}
      → Runs t (make Some type_form) at v → Runs t optional_type_form at v
  unfolding optional_type_form
  type_there at kind there h r = first_one t (meets_by t (opens type_form) at kind there (opening (lexeme_at t at kind) ∙ sym (ap begins_type there) ∙ h)) r

  pub type_absent : (at : ℕ) → begins_type (kind_at t.list.now at) ≡ false → Takes optional_type_form t at None at
  unfolding optional_type_form
  type_absent at h =
      takes t (second_one t (shut_by t (opens type_form) at (λ kind there. opening (lexeme_at t at kind) ∙ sym (ap begins_type there) ∙ h)) (gives t))
