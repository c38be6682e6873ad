-- Includes, as their forms read them: a lemma for each alternative that a reader decides by the token that is there.
use Rattle.std.proofs.Common.{◌≡◌, ◌≢◌, ℕ, ◌+◌, true, false, ◌||◌, Bool, List, [], ◌∷◌, Some, None, refl, sym, ap, ◌∙◌}
use denote.Enum.Bare.{sameb}
use Rattle.sa_lexer.specs.declared.token.TokenKind.TheVariants as token
use Rattle.sa_lexer.specs.declared.sign.Sign.TheVariants as sign
use Rattle.sa_lexer.specs.declared.word.Word.TheVariants as word
use Rattle.sa_ast.specs.declared.ty.Ty.{Ty}
use Rattle.sa_ast.specs.declared.stmt.Local.{Local}
use Rattle.sa_ast.specs.declared.class.Access.{Access}
use Rattle.sa_ast.specs.declared.class.Access.TheVariants.{Public, Private, ReadOnly}
use Rattle.sa_ast.specs.contracts.class.Access.{the_type as accesses}
use Rattle.sa_ast.specs.declared.class.FeatureModifier.{FeatureModifier}
use Rattle.sa_ast.specs.declared.class.Include.{Include}
use Rattle.sa_parser_expr.specs.declared.tokens.Tokens.{Tokens}
use Rattle.sa_parser_expr.specs.Exactly.{lexemes_from, Takes}
use Rattle.sa_parser_expr.specs.Forms.{refuse, shift, list, make, nest, type, opens}
use Rattle.sa_parser_expr.specs.Lexemes.{Lexeme, lexeme_at, name_of}
use Rattle.sa_parser_expr.specs.Positions.{kind_at}
use Rattle.sa_parser_expr.specs.Readings.{Reading, Read, Refused}
use Rattle.sa_parser_expr.specs.StatementForms.{name_as}
use Rattle.sa_parser_expr.specs.Tests.{is_sign, is_feature}
use Rattle.sa_parser_expr.proofs.Openings.{Stood}
use Rattle.sa_parser_expr.proofs.Runs.{Runs, taken, takes, gives, refused, met, not_met, another, follows, stops, makes, first_one}
use Rattle.sa_parser_expr.proofs.Runs.{second_one, meets_by, shut_sign, shut_word}
use Rattle.sa_parser_expr.proofs.Shifts.{Shut}
use Rattle.sa_parser_expr.proofs.Tested.{sign_is, word_is}
use Rattle.sa_parser.specs.declared.include.NewName.{NewName}
use Rattle.sa_parser.specs.declared.member.Declaration.{Declaration}
use Rattle.sa_parser.specs.declared.member.Declaration.TheVariants as member
use Rattle.sa_parser.specs.FeatureForms.{is_private, change_to, renamed, new_name_form, changed_form, change_form}
use Rattle.sa_parser.specs.FeatureForms.{optional_changes_form, include_form}
use Rattle.sa_parser.proofs.ExactStatements.{shut_feature}
use Rattle.sa_parser.proofs.ExactNames.{NameAt, unnamed}

-- ---- what opens the form of changes

opens_change : (l : Lexeme) → opens (list change_form) l ≡ (is_feature l || false)
unfolding change_form
opens_change l = refl

meets_change : (l : Lexeme) → is_feature l ≡ true → opens (list change_form) l ≡ true
meets_change l h = rw (opens_change l) (ap (λ b. b || false) h)

shut_change : (ls : List Lexeme) → Shut is_feature ls → Shut (opens (list change_form)) ls
shut_change [] h = tt
shut_change (l ∷ ls) h = rw (opens_change l) (ap (λ b. b || false) h)

-- ---- access

pub private_is : (access : Access) → sameb accesses access Private ≡ is_private access
private_is Public = refl
private_is Private = refl
private_is ReadOnly = refl

module _ (t : Tokens) where
  -- ---- new names

  -- what comes before a new name says its access
  pub data Begins (from : ℕ) : Access → ℕ → Type 0 where
    private_word : kind_at t.list.now from ≡ Some (token.Word word.Private) → Begins from Private (from + 1)
    readonly_word : kind_at t.list.now from ≡ Some (token.Word word.Readonly) → Begins from ReadOnly (from + 1)
    name_alone : Stood t is_feature from → kind_at t.list.now from ≢ Some (token.Word word.Private)
        → kind_at t.list.now from ≢ Some (token.Word word.Readonly) → Begins from Public from

  pub lower_alone : (from : ℕ) → kind_at t.list.now from ≡ Some token.Lower → Begins from Public from
  lower_alone from there = name_alone (record { kind = token.Lower; there = there; met = refl }) (λ e. cc) (λ e. cc)

  pub iter_alone : (from : ℕ) → kind_at t.list.now from ≡ Some token.IterName → Begins from Public from
  iter_alone from there = name_alone (record { kind = token.IterName; there = there; met = refl }) (λ e. cc) (λ e. cc)

  named_there : (f : Lexeme) (access : Access) (at : ℕ) (s : Stood t is_feature at)
      → Runs t (new_name_form f access) at
      (Read (change_to f access (Some (name_of (lexeme_at t at s.kind)).name)) (lexemes_from t (at + 1)))
  unfolding new_name_form
  named_there f access at s = met t s.kind s.there s.met (gives t)

  public_there : (f : Lexeme) (at : ℕ) (s : Stood t is_feature at) → kind_at t.list.now at ≢ Some (token.Word word.Private)
      → kind_at t.list.now at ≢ Some (token.Word word.Readonly)
      → Runs t (changed_form f) at (Read (change_to f Public (Some (name_of (lexeme_at t at s.kind)).name)) (lexemes_from t (at + 1)))
  unfolding changed_form
  public_there f at s no_private no_readonly =
      not_met t (shut_word t word.Private at no_private)
      (not_met t (shut_word t word.Readonly at no_readonly) (met t s.kind s.there s.met (gives t)))

  private_there : (f : Lexeme) (at : ℕ) → kind_at t.list.now at ≡ Some (token.Word word.Private) → {v : Reading FeatureModifier}
      → Runs t (new_name_form f Private) (at + 1) v → Runs t (changed_form f) at v
  unfolding changed_form
  private_there f at there r = met t (token.Word word.Private) there (word_is word.Private) r

  readonly_there : (f : Lexeme) (at : ℕ) → kind_at t.list.now at ≡ Some (token.Word word.Readonly) → {v : Reading FeatureModifier}
      → Runs t (new_name_form f ReadOnly) (at + 1) v → Runs t (changed_form f) at v
  unfolding changed_form
  readonly_there f at there r =
      another t (token.Word word.Readonly) there refl (met t (token.Word word.Readonly) there (word_is word.Readonly) r)

  pub behind_access : (f : Lexeme) (from next : ℕ) (access : Access) → Begins from access next → {v : Reading FeatureModifier}
      → Runs t (new_name_form f access) next v → Runs t (changed_form f) from v
  behind_access f from next access (private_word there) r = private_there f from there r
  behind_access f from next access (readonly_word there) r = readonly_there f from there r
  behind_access f from next access (name_alone s no_private no_readonly) r =
      let first = public_there f from s no_private no_readonly in
      let second = named_there f Public from s in
      record { is = first.is ∙ (sym second.is ∙ r.is) }

  pub no_new_name : (f : Lexeme) (access : Access) (at : ℕ) {rest : List Lexeme} → Runs t (name_as is_feature) at (Refused rest)
      → Runs t (new_name_form f access) at (Refused rest)
  unfolding new_name_form
  no_new_name f access at r = unnamed t is_feature _ at r

  pub new_name : (f : Lexeme) (from mid : ℕ) (access : Access) (name : Local) (new : NewName)
      → Begins from access mid → NameAt t is_feature mid name
      → new ≡ record { access = access; name = Some name.name } → Takes (changed_form f) t from (renamed f new) (mid + 1)
  new_name f from mid access name new begins n same =
      rw (same, n.is) (takes t (behind_access f from mid access begins (named_there f access mid n.stood)))

  pub no_name : (f : Lexeme) (at : ℕ) (new : NewName) → kind_at t.list.now at ≢ Some (token.Word word.Private)
      → kind_at t.list.now at ≢ Some (token.Word word.Readonly) → kind_at t.list.now at ≢ Some token.Lower
      → kind_at t.list.now at ≢ Some token.IterName
      → new ≡ record { access = Public; name = None } → Takes (changed_form f) t at (renamed f new) at
  unfolding changed_form
  no_name f at new no_private no_readonly no_lower no_iter same =
      rw same
      (takes t (not_met t (shut_word t word.Private at no_private) (not_met t (shut_word t word.Readonly at no_readonly)
      (not_met t (shut_feature t at no_lower no_iter) (gives t)))))

  -- ---- changes

  pub behind_name : (from : ℕ) (s : Stood t is_feature from) → {v : Reading FeatureModifier}
      → Runs t (shift (is_sign sign.Arrow) (λ _. changed_form (lexeme_at t from s.kind)) refuse) (from + 1) v → Runs t change_form from v
  unfolding change_form
  behind_name from s r = met t s.kind s.there s.met r

  pub no_change : (from : ℕ) {rest : List Lexeme} → Runs t (name_as is_feature) from (Refused rest) → Runs t change_form from (Refused rest)
  unfolding change_form
  no_change from r = unnamed t is_feature _ from r

  pub behind_arrow : (f : Lexeme) (at : ℕ) → kind_at t.list.now at ≡ Some (token.Sign sign.Arrow) → {v : Reading FeatureModifier}
      → Runs t (changed_form f) (at + 1) v → Runs t (shift (is_sign sign.Arrow) (λ _. changed_form f) refuse) at v
  behind_arrow f at arrow r = met t (token.Sign sign.Arrow) arrow (sign_is sign.Arrow) r

  pub no_arrow : (f : Lexeme) (at : ℕ) → kind_at t.list.now at ≢ Some (token.Sign sign.Arrow)
      → Runs t (shift (is_sign sign.Arrow) (λ _. changed_form f) refuse) at (Refused (lexemes_from t at))
  no_arrow f at other = not_met t (shut_sign t sign.Arrow at other) (refused t)

  -- after the name and the arrow
  pub behind_both : (from mid third : ℕ) (name : Local) (n : NameAt t is_feature from name) → mid ≡ from + 1
      → kind_at t.list.now mid ≡ Some (token.Sign sign.Arrow)
      → third ≡ mid + 1 → {v : Reading FeatureModifier} → Runs t (changed_form (lexeme_at t from n.stood.kind)) third v → Runs t change_form from v
  behind_both from mid third name n alone arrow following r =
      behind_name from n.stood (behind_arrow (lexeme_at t from n.stood.kind) (from + 1) (rw alone at arrow) (rw (following, alone) at r))

  pub change : (from mid third next : ℕ) (name : Local) (new : NewName) (made : FeatureModifier) (n : NameAt t is_feature from name) → mid ≡ from + 1
      → kind_at t.list.now mid ≡ Some (token.Sign sign.Arrow) → third ≡ mid + 1
      → Takes (changed_form (lexeme_at t from n.stood.kind)) t third (renamed (lexeme_at t from n.stood.kind) new) next
      → made ≡ record { from = name; to = new.name; access = new.access } → Takes change_form t from made next
  change from mid third next name new made n alone arrow following last same =
      rw (same, n.is) (takes t (behind_both from mid third name n alone arrow following (taken t last)))

  pub changes_there : (at : ℕ) → Stood t is_feature at → {v : Reading (List FeatureModifier)} → Runs t (list change_form) at v
      → Runs t optional_changes_form at v
  unfolding optional_changes_form
  changes_there at s r =
      first_one t (meets_by t (opens (list change_form)) at s.kind s.there (meets_change (lexeme_at t at s.kind) s.met)) r

  pub no_changes : (at : ℕ) (all : List FeatureModifier) → kind_at t.list.now at ≢ Some token.Lower → kind_at t.list.now at ≢ Some token.IterName
      → all ≡ [] → Takes optional_changes_form t at all at
  unfolding optional_changes_form
  no_changes at all no_lower no_iter empty =
      rw empty (takes t (second_one t (shut_change (lexemes_from t at) (shut_feature t at no_lower no_iter)) (gives t)))

  -- ---- includes

  pub behind_type : (hidden : Bool) (from mid : ℕ) (one : Ty) → Takes (nest type) t from one mid → {v : Reading Declaration}
      → Runs t (make (λ changes. member.Include (record { ty = one; private = hidden; changes = changes })) optional_changes_form) mid v
      → Runs t (include_form hidden) from v
  unfolding include_form
  behind_type hidden from mid one first r = follows t (taken t first) r

  pub no_type : (hidden : Bool) (from : ℕ) {rest : List Lexeme} → Runs t (nest type) from (Refused rest)
      → Runs t (include_form hidden) from (Refused rest)
  unfolding include_form
  no_type hidden from r = stops t r

  pub include : (hidden : Bool) (from mid next : ℕ) (one : Ty) (changes : List FeatureModifier) (made : Include) → Takes (nest type) t from one mid
      → Takes optional_changes_form t mid changes next → made ≡ record { ty = one; private = hidden; changes = changes }
      → Takes (include_form hidden) t from (member.Include made) next
  include hidden from mid next one changes made first second same =
      rw same (takes t (behind_type hidden from mid one first (makes t next (taken t second))))
