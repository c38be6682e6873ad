-- Clauses and invariants, as their forms read them: a lemma for each alternative that a reader decides by the token that is there.
use Rattle.std.proofs.Common.{◌≡◌, ◌≢◌, ℕ, ◌+◌, ◌<◌, List, length, Option, Some, None, bytes_eq, Result, Ok, Err, IfOk, IfErr, inl, inr}
use Rattle.std.proofs.Common.{refl, ap, ◌∙◌}
use Rattle.std.specs.Prelude.{codes}
use Rattle.std.proofs.lemmas.Bool.{and_parts}
use Rattle.std.proofs.lemmas.Slice.Eq.{bytes_eq-Decides}
use Rattle.sa_lexer.specs.declared.token.TokenKind.{TokenKind}
use Rattle.sa_lexer.specs.declared.token.TokenKind.TheVariants as token
use Rattle.sa_lexer.specs.declared.sign.Sign.TheVariants as sign
use Rattle.sa_lexer.specs.declared.word.Word.{Word}
use Rattle.sa_lexer.specs.declared.word.Word.TheVariants as word
use Rattle.sa_ast.specs.declared.pos.Pos.{Pos}
use Rattle.sa_ast.specs.declared.refusal.Rejection.{Rejection}
use Rattle.sa_ast.specs.declared.expr.Expr.{Expr}
use Rattle.sa_ast.specs.declared.stmt.Local.{Local}
use Rattle.sa_ast.specs.declared.contract.Condition.{Condition}
use Rattle.sa_parser_expr.specs.declared.grammar.ConditionScope.{ConditionScope}
use Rattle.sa_parser_expr.specs.declared.grammar.ConditionScope.TheVariants.{Plain, PostClause}
use Rattle.sa_parser_expr.specs.declared.tokens.Tokens.{Tokens}
use Rattle.sa_parser_expr.specs.Enclosures.{outside}
use Rattle.sa_parser_expr.specs.Exactly.{lexemes_from, Takes, ReadsAs}
use Rattle.sa_parser_expr.specs.Forms.{Form, give, refuse, shift, follow, make, nest, expr}
use Rattle.sa_parser_expr.specs.Lexemes.{Lexeme, lexeme_at, name_of}
use Rattle.sa_parser_expr.specs.Positions.{kind_at, bytes_at, unexpected_at}
use Rattle.sa_parser_expr.specs.Readings.{Reading, Read, Refused}
use Rattle.sa_parser_expr.specs.StatementForms.{name_as}
use Rattle.sa_parser_expr.specs.Tests.{is_word, is_class_name}
use Rattle.sa_parser_expr.proofs.Openings.{looked, opened_read}
use Rattle.sa_parser_expr.proofs.Runs.{Runs, taken, takes, gives, refused, refused_at, met, not_met, follows, stops, makes, places, unplaced}
use Rattle.sa_parser_expr.proofs.Runs.{shut_sign, shut_word}
use Rattle.sa_parser_expr.proofs.Shifts.{Shut}
use Rattle.sa_parser_expr.proofs.Stretches.{pos_at}
use Rattle.sa_parser_expr.proofs.Tested.{sign_is, word_is, class_name_stands}
use Rattle.sa_parser.specs.declared.contract.Clauses.{Clauses}
use Rattle.sa_parser.specs.declared.file.FileKind.{FileKind}
use Rattle.sa_parser.specs.declared.file.FileKind.TheVariants.{Prelude, Program}
use Rattle.sa_parser.specs.ConditionForms.{condition_form, clause_form, clauses_form, closing_form, holding_form, is_bool, with_ast}
use Rattle.sa_parser.specs.Conditions.{no_clauses}
use Rattle.sa_parser.specs.Names.{name_at}
use Rattle.sa_parser.proofs.ExactStatements.{instead}
use Rattle.sa_parser.proofs.ExactNames.{unnamed}

module _ (t : Tokens) where
  -- ---- conditions

  pub condition : (scope : ConditionScope) (from next : ℕ) (kind : TokenKind) (e : Expr) (pos : Pos) → kind_at t.list.now from ≡ Some kind
      → Takes (nest (expr scope outside)) t from e next → pos ≡ pos_at t from
      → Takes (condition_form scope) t from (record { test = e; pos = pos }) next
  unfolding condition_form
  condition scope from next kind e pos there inside occurs = rw occurs (takes t (makes t next (places t kind next there (taken t inside))))

  pub no_condition : (scope : ConditionScope) (from : ℕ) {rest : List Lexeme} → Runs t (nest (expr scope outside)) from (Refused rest)
      → Runs t (condition_form scope) from (Refused rest)
  unfolding condition_form
  no_condition scope from r = stops t (unplaced t r)

  -- ---- clauses

  pub behind_clause : (w : Word) (scope : ConditionScope) (at : ℕ) → kind_at t.list.now at ≡ Some (token.Word w) → {v : Reading (Option Condition)}
      → Runs t (make Some (condition_form scope)) (at + 1) v → Runs t (clause_form w scope) at v
  unfolding clause_form
  behind_clause w scope at there r = met t (token.Word w) there (word_is w) r

  pub no_clause : (w : Word) (scope : ConditionScope) (at : ℕ) → kind_at t.list.now at ≢ Some (token.Word w)
      → Takes (clause_form w scope) t at None at
  unfolding clause_form
  no_clause w scope at other = takes t (not_met t (shut_word t w at other) (gives t))

  pub prelude_clauses : (file_kind : FileKind) (at : ℕ) (all : Clauses) → file_kind ≡ Prelude → all ≡ no_clauses
      → Takes (clauses_form file_kind) t at all at
  unfolding clauses_form
  prelude_clauses Prelude at all is same = rw same (takes t (gives t))
  prelude_clauses Program at all is same = absurd (cc)

  pub behind_pre : (file_kind : FileKind) (from mid : ℕ) (pre : Option Condition) → file_kind ≢ Prelude
      → Takes (clause_form word.Pre Plain) t from pre mid
      → {v : Reading Clauses} → Runs t (make (λ post. record { pre = pre; post = post }) (clause_form word.Post PostClause)) mid v
      → Runs t (clauses_form file_kind) from v
  unfolding clauses_form
  behind_pre Prelude from mid pre not first r = absurd (not refl)
  behind_pre Program from mid pre not first r = follows t (taken t first) r

  pub pre_refused : (file_kind : FileKind) (from : ℕ) {rest : List Lexeme} → file_kind ≢ Prelude
      → Runs t (clause_form word.Pre Plain) from (Refused rest)
      → Runs t (clauses_form file_kind) from (Refused rest)
  unfolding clauses_form
  pre_refused Prelude from not r = absurd (not refl)
  pre_refused Program from not r = stops t r

  -- ---- the end of an invariant

  pub closed_behind : (holds : Condition) (at : ℕ) → kind_at t.list.now at ≡ Some (token.Sign sign.Semicolon) → {v : Reading Condition}
      → Runs t (shift (is_word word.End) (λ _. give holds) refuse) (at + 1) v → Runs t (closing_form holds) at v
  unfolding closing_form
  closed_behind holds at semicolon r = met t (token.Sign sign.Semicolon) semicolon (sign_is sign.Semicolon) r

  pub closed_there : (holds : Condition) (at : ℕ) → kind_at t.list.now at ≢ Some (token.Sign sign.Semicolon) → {v : Reading Condition}
      → Runs t (shift (is_word word.End) (λ _. give holds) refuse) at v → Runs t (closing_form holds) at v
  unfolding closing_form
  closed_there holds at other r = not_met t (shut_sign t sign.Semicolon at other) r

  end_there : (holds : Condition) (at : ℕ) → kind_at t.list.now at ≡ Some (token.Word word.End)
      → Runs t (shift (is_word word.End) (λ _. give holds) refuse) at (Read holds (lexemes_from t (at + 1)))
  end_there holds at there = met t (token.Word word.End) there (word_is word.End) (gives t)

  no_end : (holds : Condition) (at : ℕ) → kind_at t.list.now at ≢ Some (token.Word word.End)
      → Runs t (shift (is_word word.End) (λ _. give holds) refuse) at (Refused (lexemes_from t at))
  no_end holds at other = not_met t (shut_word t word.End at other) (refused t)

  after_end : (holds : Condition) (at : ℕ) (r : Result ℕ Rejection) → IfOk r (λ next. (next ≡ at + 1) × (at < length t.list.now))
      → IfOk r (λ _. kind_at t.list.now at ≡ Some (token.Word word.End)) → IfErr r (λ _. kind_at t.list.now at ≢ Some (token.Word word.End))
      → IfErr r (λ fault. fault ≡ unexpected_at t.file t.src.now t.list.now at)
      → ReadsAs (shift (is_word word.End) (λ _. give holds) refuse) t at (with_ast holds r)
  after_end holds at (Ok next) following there other is = rw following.0 (takes t (end_there holds at there))
  after_end holds at (Err fault) following there other is = refused_at t at fault refl is (no_end holds at other)

  pub end_behind : (holds : Condition) (at : ℕ) (r : Result ℕ Rejection) → kind_at t.list.now at ≡ Some (token.Sign sign.Semicolon)
      → IfOk r (λ next. (next ≡ at + 1 + 1) × (at + 1 < length t.list.now))
      → IfOk r (λ _. kind_at t.list.now (at + 1) ≡ Some (token.Word word.End))
      → IfErr r (λ _. kind_at t.list.now (at + 1) ≢ Some (token.Word word.End))
      → IfErr r (λ fault. fault ≡ unexpected_at t.file t.src.now t.list.now (at + 1))
      → ReadsAs (closing_form holds) t at (with_ast holds r)
  end_behind holds at r semicolon following there other is =
      instead t (λ v k. closed_behind holds at semicolon k) (with_ast holds r) (after_end holds (at + 1) r following there other is)

  pub end_at_once : (holds : Condition) (at : ℕ) (r : Result ℕ Rejection) → kind_at t.list.now at ≢ Some (token.Sign sign.Semicolon)
      → IfOk r (λ next. (next ≡ at + 1) × (at < length t.list.now))
      → IfOk r (λ _. kind_at t.list.now at ≡ Some (token.Word word.End)) → IfErr r (λ _. kind_at t.list.now at ≢ Some (token.Word word.End))
      → IfErr r (λ fault. fault ≡ unexpected_at t.file t.src.now t.list.now at) → ReadsAs (closing_form holds) t at (with_ast holds r)
  end_at_once holds at r no_semicolon following there other is =
      instead t (λ v k. closed_there holds at no_semicolon k) (with_ast holds r) (after_end holds at r following there other is)

  -- ---- invariants

  -- what is after each of the tokens before the condition
  abbrev pub behind_return : Form Condition
  behind_return = follow (condition_form Plain) closing_form

  abbrev pub behind_is : Form Condition
  behind_is = shift (is_word word.Return) (λ _. behind_return) refuse

  abbrev pub behind_bool : Form Condition
  behind_bool = shift (is_word word.Is) (λ _. behind_is) refuse

  abbrev pub behind_colon : Form Condition
  behind_colon = shift is_bool (λ _. behind_bool) refuse

  pub colon_there : (at : ℕ) → kind_at t.list.now at ≡ Some (token.Sign sign.Colon) → {v : Reading Condition}
      → Runs t behind_colon (at + 1) v → Runs t holding_form at v
  unfolding holding_form
  colon_there at colon r = met t (token.Sign sign.Colon) colon (sign_is sign.Colon) r

  pub no_colon : (at : ℕ) → kind_at t.list.now at ≢ Some (token.Sign sign.Colon) → Runs t holding_form at (Refused (lexemes_from t at))
  unfolding holding_form
  no_colon at other = not_met t (shut_sign t sign.Colon at other) (refused t)

  pub shut_bool : (at : ℕ) → ((kind_at t.list.now at ≡ Some token.ClassName) → bytes_at t.src.now t.list.now at ≢ codes "BOOL")
      → Shut is_bool (lexemes_from t at)
  shut_bool at other = elim (looked t is_bool at) [
    | inl s ↦
        let parts = and_parts (is_class_name (lexeme_at t at s.kind)) (bytes_eq (bytes_at t.src.now t.list.now at) (codes "BOOL")) s.met in
        absurd
        (other (s.there ∙ ap Some (class_name_stands (lexeme_at t at s.kind) parts.0))
        ((bytes_eq-Decides (bytes_at t.src.now t.list.now at) (codes "BOOL")).0 parts.1))
    | inr shut ↦ shut
  ]

  pub bool_named : (at : ℕ) → kind_at t.list.now at ≡ Some token.ClassName → bytes_at t.src.now t.list.now at ≡ codes "BOOL"
      → Takes (name_as is_bool) t at (name_at t at) (at + 1)
  bool_named at there same =
      takes t (met t token.ClassName there ((bytes_eq-Decides (bytes_at t.src.now t.list.now at) (codes "BOOL")).1 same) (gives t))

  pub bool_there : (at next : ℕ) (name : Local) → Takes (name_as is_bool) t at name next → {v : Reading Condition}
      → Runs t behind_bool (at + 1) v → Runs t behind_colon at v
  bool_there at next name h r =
      let opened = opened_read t {test = is_bool} {go = λ l. give (name_of l)} (taken t h) in
      met t opened.first.kind opened.first.there opened.first.met r

  pub no_bool : (at : ℕ) {rest : List Lexeme} → Runs t (name_as is_bool) at (Refused rest) → Runs t behind_colon at (Refused rest)
  no_bool at r = unnamed t is_bool _ at r

  -- the tokens before the condition, one after another
  pub past_colon : (from at : ℕ) → kind_at t.list.now from ≡ Some (token.Sign sign.Colon) → at ≡ from + 1 → {v : Reading Condition}
      → Runs t behind_colon at v → Runs t holding_form from v
  past_colon from at colon next r = colon_there from colon (rw next at r)

  pub past_bool : (from at : ℕ) (name : Local) → Takes (name_as is_bool) t from name at → at ≡ from + 1 → {v : Reading Condition}
      → Runs t behind_bool at v → Runs t behind_colon from v
  past_bool from at name bool next r = bool_there from at name bool (rw next at r)

  pub past_is : (from at : ℕ) → kind_at t.list.now from ≡ Some (token.Word word.Is) → at ≡ from + 1 → {v : Reading Condition}
      → Runs t behind_is at v → Runs t behind_bool from v
  past_is from at there next r = met t (token.Word word.Is) there (word_is word.Is) (rw next at r)

  pub past_return : (from at : ℕ) → kind_at t.list.now from ≡ Some (token.Word word.Return) → at ≡ from + 1 → {v : Reading Condition}
      → Runs t behind_return at v → Runs t behind_is from v
  past_return from at there next r = met t (token.Word word.Return) there (word_is word.Return) (rw next at r)

  pub no_is : (at : ℕ) → kind_at t.list.now at ≢ Some (token.Word word.Is) → Runs t behind_bool at (Refused (lexemes_from t at))
  no_is at other = not_met t (shut_word t word.Is at other) (refused t)

  pub no_return : (at : ℕ) → kind_at t.list.now at ≢ Some (token.Word word.Return) → Runs t behind_is at (Refused (lexemes_from t at))
  no_return at other = not_met t (shut_word t word.Return at other) (refused t)
