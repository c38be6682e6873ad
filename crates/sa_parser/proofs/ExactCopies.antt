-- What several names share: an AST for each of them, each with a copy of what is after their colon, which is read once for each
-- name and is the same each time.
use Rattle.std.proofs.Common.{◌≡◌, ◌≢◌, ℕ, ◌+◌, List, [], ◌∷◌, ◌++◌, map, length, Some, refl, sym, ap, ◌∙◌, append_assoc, arith}
use Rattle.std.proofs.lemmas.List.{append-nil}
use Rattle.sa_lexer.specs.declared.token.TokenKind.TheVariants as token
use Rattle.sa_lexer.specs.declared.sign.Sign.TheVariants as sign
use Rattle.sa_ast.specs.declared.stmt.Local.{Local}
use Rattle.sa_parser_expr.specs.declared.tokens.Tokens.{Tokens}
use Rattle.sa_parser_expr.specs.Exactly.{lexemes_from, Takes}
use Rattle.sa_parser_expr.specs.Forms.{Form, refuse, shift, follow, make}
use Rattle.sa_parser_expr.specs.Lexemes.{Lexeme}
use Rattle.sa_parser_expr.specs.Positions.{kind_at}
use Rattle.sa_parser_expr.specs.Readings.{Reading, Read, Refused}
use Rattle.sa_parser_expr.specs.StatementForms.{names_form}
use Rattle.sa_parser_expr.specs.Tests.{is_sign}
use Rattle.sa_parser_expr.proofs.Runs.{Runs, taken, refused, met, not_met, follows, stops, makes, shut_sign}
use Rattle.sa_parser_expr.proofs.Tested.{sign_is}
use Rattle.sa_parser.specs.Names.{IsNames}
use Rattle.sa_parser.proofs.ExactNames.{same_taken, some_name}

-- ---- lists that a loop goes over

nothing_left : {X : Type 0} (xs : List X) → length xs ≡ 0 → xs ≡ []
nothing_left [] none = refl
nothing_left (x ∷ xs) none = absurd (omega (arith, none))

pub one_yielded : {X : Type 0} (yielded rest left all : List X) (x : X) → yielded ++ rest ≡ all → rest ≡ x ∷ left
    → (yielded ++ x ∷ []) ++ left ≡ all
one_yielded yielded rest left all x were is = append_assoc yielded (x ∷ []) left ∙ rw (← is) were

pub all_yielded : {X : Type 0} (yielded rest all : List X) → yielded ++ rest ≡ all → length rest ≡ 0 → yielded ≡ all
all_yielded yielded rest all were none = sym (append-nil yielded) ∙ (ap (λ ys. yielded ++ ys) (sym (nothing_left rest none)) ∙ were)

map-one : {A B : Type 0} (f : A → B) (xs : List A) (x : A) → map f (xs ++ x ∷ []) ≡ map f xs ++ f x ∷ []
map-one f [] x = refl
map-one f (y ∷ xs) x = ap (λ rest. f y ∷ rest) (map-one f xs x)

-- names, a colon and what the names share
abbrev pub sharing_form : {A B : Type 0} → Form A → (A → Local → B) → Form (List B)
sharing_form form of = follow names_form (λ all. shift (is_sign sign.Colon) (λ _. make (λ one. map (of one) all) form) refuse)

module _ (t : Tokens) where
  -- an AST for each of so many names, each with a copy of what was read after them
  pub data CopiesRead {A B : Type 0} (form : Form A) (of : A → Local → B) (at : ℕ) (yielded : List Local) (all : List B) (end : ℕ)
      : Type 0 where
    no_copy : yielded ≡ [] → all ≡ [] → CopiesRead form of at yielded all end
    some_copies : (one : A) → Takes form t at one end → all ≡ map (of one) yielded → CopiesRead form of at yielded all end

  pub next_copy : {A B : Type 0} (form : Form A) (of : A → Local → B) (at mid next : ℕ) (yielded : List Local)
      (all whole : List B) (name : Local) (one : A)
      → CopiesRead form of at yielded all mid → Takes form t at one next → whole ≡ all ++ of one name ∷ []
      → CopiesRead form of at (yielded ++ name ∷ []) whole next
  next_copy form of at mid next yielded all whole name one (no_copy none empty) second pushed =
      some_copies one second (rw (pushed, empty, none))
  next_copy {A = A} form of at mid next yielded all whole name one (some_copies was first same) second pushed =
      some_copies one second
      (pushed ∙ ap (λ before. before ++ of one name ∷ []) (same ∙ ap (λ (each : A). map (of each) yielded) (same_taken t first second))
      ∙ sym (map-one (of one) yielded name))

  pub behind_names : {A B : Type 0} (form : Form A) (of : A → Local → B) (from mid : ℕ) (all : List Local)
      → Takes names_form t from all mid
      → {v : Reading (List B)} → Runs t (shift (is_sign sign.Colon) (λ _. make (λ one. map (of one) all) form) refuse) mid v
      → Runs t (sharing_form form of) from v
  behind_names form of from mid all first r = follows t (taken t first) r

  pub behind_colon : {A B : Type 0} (form : Form A) (of : A → Local → B) (at : ℕ) (all : List Local)
      → kind_at t.list.now at ≡ Some (token.Sign sign.Colon)
      → {v : Reading (List B)} → Runs t (make (λ one. map (of one) all) form) (at + 1) v
      → Runs t (shift (is_sign sign.Colon) (λ _. make (λ one. map (of one) all) form) refuse) at v
  behind_colon form of at all colon r = met t (token.Sign sign.Colon) colon (sign_is sign.Colon) r

  pub no_colon : {A B : Type 0} (form : Form A) (of : A → Local → B) (at : ℕ) (all : List Local)
      → kind_at t.list.now at ≢ Some (token.Sign sign.Colon)
      → Runs t (shift (is_sign sign.Colon) (λ _. make (λ one. map (of one) all) form) refuse) at (Refused (lexemes_from t at))
  no_colon form of at all other = not_met t (shut_sign t sign.Colon at other) (refused t)

  pub shared_refused : {A B : Type 0} (form : Form A) (of : A → Local → B) (from mid : ℕ) (all : List Local) {rest : List Lexeme}
      → Takes names_form t from all mid
      → kind_at t.list.now mid ≡ Some (token.Sign sign.Colon) → Runs t form (mid + 1) (Refused rest)
      → Runs t (sharing_form form of) from (Refused rest)
  shared_refused form of from mid all first colon r =
      behind_names form of from mid all first (behind_colon form of mid all colon (stops t r))

  pub copies : {A B : Type 0} (form : Form A) (of : A → Local → B) (from mid end : ℕ) (ls : List Lexeme) (all : List Local)
      (trees : List B)
      → Takes names_form t from all mid → IsNames ls all → kind_at t.list.now mid ≡ Some (token.Sign sign.Colon)
      → CopiesRead form of (mid + 1) all trees end → Runs t (sharing_form form of) from (Read trees (lexemes_from t end))
  copies form of from mid end ls all trees first spelled colon (no_copy none empty) = absurd (some_name spelled none)
  copies form of from mid end ls all trees first spelled colon (some_copies one last is) =
      rw is (behind_names form of from mid all first (behind_colon form of mid all colon (makes t end (taken t last))))
