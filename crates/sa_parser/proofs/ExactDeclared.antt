-- Attributes, shareds and constants, as their forms read them: a lemma for each alternative that a reader decides by the token that
-- is there. What several names share is read once for each of them, and is the same each time.
use Rattle.std.proofs.Common.{◌≡◌, ◌≢◌, ℕ, suc, ◌+◌, List, [], ◌∷◌, ◌++◌, length, Option, Some, None, Result, Err, refl, sym}
use Rattle.std.proofs.Common.{ap, ◌∙◌, arith}
use Rattle.sa_lexer.specs.declared.token.TokenKind.TheVariants as token
use Rattle.sa_lexer.specs.declared.sign.Sign.TheVariants as sign
use Rattle.sa_ast.specs.declared.refusal.Rejection.{Rejection}
use Rattle.sa_ast.specs.declared.refusal.Rejection.TheVariants as fault
use Rattle.sa_ast.specs.declared.ty.Ty.{Ty}
use Rattle.sa_ast.specs.declared.expr.Expr.{Expr}
use Rattle.sa_ast.specs.declared.stmt.Local.{Local}
use Rattle.sa_ast.specs.declared.class.Access.{Access}
use Rattle.sa_ast.specs.declared.class.FeatureBody.TheVariants as part
use Rattle.sa_ast.specs.declared.class.Feature.{Feature}
use Rattle.sa_parser_expr.specs.declared.tokens.Tokens.{Tokens}
use Rattle.sa_parser_expr.specs.Exactly.{lexemes_from, Takes, ReadsAs}
use Rattle.sa_parser_expr.specs.Forms.{Form, refuse, shift, make, nest, type}
use Rattle.sa_parser_expr.specs.Lexemes.{Lexeme}
use Rattle.sa_parser_expr.specs.Positions.{kind_at}
use Rattle.sa_parser_expr.specs.Readings.{Reading, Read, Refused}
use Rattle.sa_parser_expr.specs.StatementForms.{name_form, names_form, assigned_form, value_form}
use Rattle.sa_parser_expr.specs.Tests.{is_sign, is_lower}
use Rattle.sa_parser_expr.proofs.Runs.{Runs, taken, takes, gives, refused, met, not_met, follows, stops, makes, shut_sign}
use Rattle.sa_parser_expr.proofs.Runs.{Lists, first_listed, next_taken, all_listed, first_refused, next_refused}
use Rattle.sa_parser_expr.proofs.Tested.{sign_is}
use Rattle.sa_parser.specs.declared.declared.SharedParts.{SharedParts}
use Rattle.sa_parser.specs.Features.{variable_of, counted_from}
use Rattle.sa_parser.specs.FeatureForms.{attr_form, shared_parts_form, shared_form, shared_of, more_names_form, typed_constant_of}
use Rattle.sa_parser.specs.FeatureForms.{typed_constant_form}
use Rattle.sa_parser.specs.FeatureForms.{counted_constants_of, constants_form}
use Rattle.sa_parser.specs.AstReads.{ReadsAst}
use Rattle.sa_parser.proofs.ExactNames.{NameAt, name_there, unnamed, same_taken}
use Rattle.sa_parser.proofs.ExactCopies.{sharing_form}

-- ---- lists of features

counted-one : (number : ℕ) (access : Access) (value : Option Expr) (xs : List Local) (x : Local)
    → counted_from number access value (xs ++ x ∷ [])
    ≡ counted_from number access value xs ++ variable_of access None (part.Const value (number + length xs)) x ∷ []
counted-one number access value [] x =
    let same : number + 0 ≡ number = omega arith in
    ap (λ n. variable_of access None (part.Const value n) x ∷ []) (sym same)
counted-one number access value (y ∷ xs) x =
    let same : number + 1 + length xs ≡ number + suc (length xs) = omega arith in
    ap (λ rest. variable_of access None (part.Const value number) y ∷ rest)
    (counted-one (number + 1) access value xs x
    ∙ ap (λ n. counted_from (number + 1) access value xs ++ variable_of access None (part.Const value n) x ∷ []) same)

pub length-one : {A : Type 0} (xs : List A) (x : A) → length (xs ++ x ∷ []) ≡ length xs + 1
length-one [] x = refl
length-one (y ∷ xs) x = let rest = length-one xs x in omega (arith, rest)

-- the attribute of this name
abbrev pub attr_of : Access → Ty → Local → Feature
attr_of access one name = variable_of access (Some one) part.Attr name

module _ (t : Tokens) where
  -- what a form takes it doesn't refuse
  never : {A B : Type 0} (form : Form A) (other : Form B) (at from next : ℕ) (a : A) (e : Rejection) → Takes form t at a next
      → ReadsAst form t at (Err e) → ReadsAs other t from (Err e)
  never form other at from next a (fault.Refused refusal) h k = let same = sym h.is ∙ k.is in absurd (cc)
  never form other at from next a (fault.Failed why) h k = tt

  pub never_refused : {A B : Type 0} {r : Result (B × ℕ) Rejection} (form : Form A) (other : Form B) (at from next : ℕ) (a : A)
      (e : Rejection) → r ≡ Err e
      → Takes form t at a next → ReadsAst form t at (Err e) → ReadsAs other t from r
  never_refused form other at from next a e is h k = rw is (never form other at from next a e h k)

  -- ---- attributes and shareds

  pub as_attr : (access : Access) {from : ℕ} {v : Reading (List Feature)} → Runs t (sharing_form (nest type) (attr_of access)) from v
      → Runs t (attr_form access) from v
  unfolding attr_form
  as_attr access r = r

  pub as_shared : (access : Access) {from : ℕ} {v : Reading (List Feature)}
      → Runs t (sharing_form shared_parts_form (shared_of access)) from v
      → Runs t (shared_form access) from v
  unfolding shared_form
  as_shared access r = r

  -- ---- the parts of a shared

  pub parts_type : (from mid : ℕ) (one : Ty) → Takes (nest type) t from one mid → {v : Reading SharedParts}
      → Runs t (make (λ value. record { ty = one; value = value }) assigned_form) mid v → Runs t shared_parts_form from v
  unfolding shared_parts_form
  parts_type from mid one first r = follows t (taken t first) r

  pub no_parts : (from : ℕ) {rest : List Lexeme} → Runs t (nest type) from (Refused rest) → Runs t shared_parts_form from (Refused rest)
  unfolding shared_parts_form
  no_parts from r = stops t r

  -- ---- constants

  abbrev pub typed_from : Access → Local → Ty → Form (List Feature)
  typed_from access name one =
      shift (is_sign sign.Assign) (λ _. make (λ e. variable_of access (Some one) (part.Const (Some e) 0) name ∷ []) value_form) refuse

  pub typed_behind : (access : Access) (name : Local) (from mid : ℕ) (one : Ty) → Takes (nest type) t from one mid
      → {v : Reading (List Feature)}
      → Runs t (typed_from access name one) mid v → Runs t (typed_constant_of access name) from v
  typed_behind access name from mid one first r = follows t (taken t first) r

  pub gets_there : (access : Access) (name : Local) (one : Ty) (at : ℕ) → kind_at t.list.now at ≡ Some (token.Sign sign.Assign)
      → {v : Reading (List Feature)}
      → Runs t (make (λ e. variable_of access (Some one) (part.Const (Some e) 0) name ∷ []) value_form) (at + 1) v
      → Runs t (typed_from access name one) at v
  gets_there access name one at gets r = met t (token.Sign sign.Assign) gets (sign_is sign.Assign) r

  pub no_gets : (access : Access) (name : Local) (one : Ty) (at : ℕ) → kind_at t.list.now at ≢ Some (token.Sign sign.Assign)
      → Runs t (typed_from access name one) at (Refused (lexemes_from t at))
  no_gets access name one at other = not_met t (shut_sign t sign.Assign at other) (refused t)

  pub typed_constant : (access : Access) (name : Local) (from mid next : ℕ) (one : Ty) (e : Expr) (features : List Feature)
      → Takes (nest type) t from one mid
      → kind_at t.list.now mid ≡ Some (token.Sign sign.Assign) → Takes value_form t (mid + 1) e next
      → features ≡ variable_of access (Some one) (part.Const (Some e) 0) name ∷ []
      → Takes (typed_constant_of access name) t from features next
  typed_constant access name from mid next one e features first gets last same =
      rw same (takes t (typed_behind access name from mid one first (gets_there access name one mid gets (makes t next (taken t last)))))

  -- the names after the first one that were read up to an index
  pub data OthersRead (mid : ℕ) : List Local → ℕ → Type 0 where
    no_others : OthersRead mid [] mid
    some_others : {others : List Local} {next : ℕ} → kind_at t.list.now mid ≡ Some (token.Sign sign.Comma)
        → Lists t name_form (mid + 1) others next
        → OthersRead mid others next

  pub next_other : (mid at next : ℕ) (others : List Local) (name : Local) → OthersRead mid others at
      → kind_at t.list.now at ≡ Some (token.Sign sign.Comma)
      → Takes name_form t (at + 1) name next → OthersRead mid (others ++ name ∷ []) next
  next_other mid at next others name no_others comma one = some_others comma (first_listed t (taken t one))
  next_other mid at next others name (some_others first l) comma one = some_others first (next_taken t l comma one refl)

  others_behind : (at : ℕ) → kind_at t.list.now at ≡ Some (token.Sign sign.Comma) → {v : Reading (List Local)}
      → Runs t names_form (at + 1) v → Runs t more_names_form at v
  unfolding more_names_form
  others_behind at comma r = met t (token.Sign sign.Comma) comma (sign_is sign.Comma) r

  no_more : (at : ℕ) → kind_at t.list.now at ≢ Some (token.Sign sign.Comma) → Runs t more_names_form at (Read [] (lexemes_from t at))
  unfolding more_names_form
  no_more at other = not_met t (shut_sign t sign.Comma at other) (gives t)

  all_others : (mid next : ℕ) (others : List Local) → OthersRead mid others next → kind_at t.list.now next ≢ Some (token.Sign sign.Comma)
      → Runs t more_names_form mid (Read others (lexemes_from t next))
  all_others mid next others no_others other = no_more mid other
  all_others mid next others (some_others comma l) other = others_behind mid comma (all_listed t l other)

  other_refused : (mid at : ℕ) (others : List Local) {rest : List Lexeme} → OthersRead mid others at
      → kind_at t.list.now at ≡ Some (token.Sign sign.Comma)
      → Runs t name_form (at + 1) (Refused rest) → Runs t more_names_form mid (Refused rest)
  other_refused mid at others no_others comma r = others_behind mid comma (first_refused t r)
  other_refused mid at others (some_others first l) comma r = others_behind mid first (next_refused t l comma r)

  -- the constants that were read up to an index, with the value that they share, and the number of the last one
  pub record ConstantsRead (access : Access) (first : Local) (from : ℕ) (features : List Feature) (number next : ℕ) : Type 0 where
    pub value : Option Expr
    pub mid : ℕ
    pub was : Takes assigned_form t from value mid
    pub others : List Local
    pub read : OthersRead mid others next
    pub same : features ≡ counted_from 0 access value (first ∷ others)
    pub last : number ≡ length others

  pub first_constant : (access : Access) (first : Local) (value : Option Expr) (from mid number : ℕ) (features : List Feature)
      → Takes assigned_form t from value mid
      → features ≡ variable_of access None (part.Const value 0) first ∷ [] → number ≡ 0
      → ConstantsRead access first from features number mid
  first_constant access first value from mid number features was same last =
      record { value = value; mid = mid; was = was; others = []; read = no_others; same = same; last = last }

  pub next_constant : (access : Access) (first : Local) (copy : Option Expr) (from at next place number more : ℕ)
      (features whole : List Feature) (name : Local)
      → ConstantsRead access first from features number at → kind_at t.list.now at ≡ Some (token.Sign sign.Comma)
      → Takes name_form t (at + 1) name next
      → Takes assigned_form t from copy place → more ≡ number + 1
      → whole ≡ features ++ variable_of access None (part.Const copy more) name ∷ []
      → ConstantsRead access first from whole more next
  next_constant access first copy from at next place number more features whole name so_far comma one again counts pushed =
      let number_is : more ≡ 0 + length (first ∷ so_far.others) = let last = so_far.last in omega (arith, last, counts) in
      record {
        value = so_far.value;
        mid = so_far.mid;
        was = so_far.was;
        others = so_far.others ++ name ∷ [];
        read = next_other so_far.mid at next so_far.others name so_far.read comma one;
        same =
            pushed
            ∙ ap (λ (each : Option Expr). features ++ variable_of access None (part.Const each more) name ∷ [])
            (same_taken t again so_far.was)
            ∙ ap (λ before. before ++ variable_of access None (part.Const so_far.value more) name ∷ []) so_far.same
            ∙ ap
            (λ n. counted_from 0 access so_far.value (first ∷ so_far.others)
            ++ variable_of access None (part.Const so_far.value n) name ∷ [])
            number_is
            ∙ sym (counted-one 0 access so_far.value (first ∷ so_far.others) name);
        last =
            let was = so_far.last in
            let longer = length-one so_far.others name in
            omega (arith, was, counts, longer);
      }

  value_behind : (access : Access) (first : Local) (from mid : ℕ) (value : Option Expr) → Takes assigned_form t from value mid
      → {v : Reading (List Feature)}
      → Runs t (make (λ others. counted_from 0 access value (first ∷ others)) more_names_form) mid v
      → Runs t (counted_constants_of access first) from v
  value_behind access first from mid value was r = follows t (taken t was) r

  pub constant_refused : (access : Access) (first : Local) (from at number : ℕ) (features : List Feature) {rest : List Lexeme}
      → ConstantsRead access first from features number at → kind_at t.list.now at ≡ Some (token.Sign sign.Comma)
      → Runs t name_form (at + 1) (Refused rest) → Runs t (counted_constants_of access first) from (Refused rest)
  constant_refused access first from at number features so_far comma r =
      value_behind access first from so_far.mid so_far.value so_far.was
      (stops t (other_refused so_far.mid at so_far.others so_far.read comma r))

  pub counted_constants : (access : Access) (first : Local) (from next number : ℕ) (features : List Feature)
      → ConstantsRead access first from features number next → kind_at t.list.now next ≢ Some (token.Sign sign.Comma)
      → Takes (counted_constants_of access first) t from features next
  counted_constants access first from next number features so_far other =
      rw so_far.same
      (takes t
      (value_behind access first from so_far.mid so_far.value so_far.was
      (makes t next (all_others so_far.mid next so_far.others so_far.read other))))

  -- ---- the name of a constant

  pub named : (from next : ℕ) (name : Local) → Takes name_form t from name next → NameAt t is_lower from name
  unfolding name_form
  named from next name h = name_there t is_lower from next name h

  pub no_constant : (access : Access) (from : ℕ) {rest : List Lexeme} → Runs t name_form from (Refused rest)
      → Runs t (constants_form access) from (Refused rest)
  unfolding name_form constants_form
  no_constant access from r = unnamed t is_lower _ from r

  pub typed_there : (access : Access) (from : ℕ) (name : Local) (n : NameAt t is_lower from name)
      → kind_at t.list.now (from + 1) ≡ Some (token.Sign sign.Colon)
      → {v : Reading (List Feature)} → Runs t (typed_constant_of access name) (from + 1 + 1) v → Runs t (constants_form access) from v
  unfolding constants_form typed_constant_form
  typed_there access from name n colon r =
      met t n.stood.kind n.stood.there n.stood.met (met t (token.Sign sign.Colon) colon (sign_is sign.Colon) (rw n.is at r))

  pub counted_there : (access : Access) (from : ℕ) (name : Local) (n : NameAt t is_lower from name)
      → kind_at t.list.now (from + 1) ≢ Some (token.Sign sign.Colon)
      → {v : Reading (List Feature)} → Runs t (counted_constants_of access name) (from + 1) v → Runs t (constants_form access) from v
  unfolding constants_form
  counted_there access from name n other r =
      met t n.stood.kind n.stood.there n.stood.met (not_met t (shut_sign t sign.Colon (from + 1) other) (rw n.is at r))
