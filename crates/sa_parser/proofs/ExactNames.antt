-- A name that is read, and the token that it is; and what a form reads at an index, once.
use Rattle.std.proofs.Common.{◌≡◌, ◌≢◌, ℕ, ◌+◌, Bool, List, [], sym}
use Rattle.sa_ast.specs.declared.stmt.Local.{Local}
use Rattle.sa_parser_expr.specs.declared.tokens.Tokens.{Tokens}
use Rattle.sa_parser_expr.specs.Exactly.{Takes, lexemes_from}
use Rattle.sa_parser_expr.specs.Forms.{Form, give, refuse, shift}
use Rattle.sa_parser_expr.specs.Lexemes.{Lexeme, lexeme_at, name_of}
use Rattle.sa_parser_expr.specs.Readings.{Read, Refused}
use Rattle.sa_parser_expr.proofs.Runs.{Runs, taken}
use Rattle.sa_parser_expr.proofs.Openings.{Stood, one_reading, opened_read, opened_refused}
use Rattle.sa_parser_expr.specs.StatementForms.{name_as}
use Rattle.sa_parser.specs.Names.{IsNames}
use Rattle.sa_parser.specs.Names as names

-- a list of names isn't empty
pub some_name : {ls : List Lexeme} {all : List Local} → IsNames ls all → all ≢ []
some_name (names.all_names first others) e = absurd (cc)

tree_of : {A : Type 0} {a b : A} {ls ms : List Lexeme} → Read a ls ≡ Read b ms → a ≡ b
tree_of e = cc

module _ (t : Tokens) where
  -- one form reads one AST at an index
  pub same_taken : {A : Type 0} {form : Form A} {at next other : ℕ} {a b : A} → Takes form t at a next → Takes form t at b other → a ≡ b
  same_taken h k = tree_of (one_reading t (taken t h) (taken t k))

  -- what is given isn't refused
  pub given_refused : {A B : Type 0} {a : A} {at : ℕ} {rest : List Lexeme} → Runs t (give a) at (Refused rest) → B
  given_refused k = let same = k.is in absurd (cc)

  pub record NameAt (test : Lexeme → Bool) (from : ℕ) (name : Local) : Type 0 where
    pub stood : Stood t test from
    pub is : name ≡ name_of (lexeme_at t from stood.kind)

  name_read : {test : Lexeme → Bool} {from : ℕ} {name : Local} (next : ℕ) (stood : Stood t test from)
      → Runs t (give (name_of (lexeme_at t from stood.kind))) (from + 1) (Read name (lexemes_from t next)) → NameAt test from name
  name_read next stood r = record { stood = stood; is = sym (tree_of r.is) }

  pub name_there : (test : Lexeme → Bool) (from next : ℕ) (name : Local) → Takes (name_as test) t from name next → NameAt test from name
  name_there test from next name h =
      let opened = opened_read t {test = test} {go = λ l. give (name_of l)} (taken t h) in
      name_read next opened.first opened.rest

  -- a form that wants the name first refuses what the name does
  pub unnamed : {A : Type 0} (test : Lexeme → Bool) (go : Lexeme → Form A) (from : ℕ) {rest : List Lexeme}
      → Runs t (name_as test) from (Refused rest)
      → Runs t (shift test go refuse) from (Refused rest)
  unnamed test go from r = opened_refused t {test = test} {go = λ l. give (name_of l)} (λ s k. given_refused k) r
