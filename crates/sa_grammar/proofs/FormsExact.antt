-- A form that is sound and complete at each level is read exactly.
use Rattle.std.proofs.Common.{ℕ, suc, ◌<◌, List, [], ◌++◌, length, arith}
use Rattle.sa_parser_expr.specs.Lexemes.{Lexeme}
use Rattle.sa_parser_expr.specs.Readings.{Spelling, IsUnique, IsRead}
use Rattle.sa_parser_expr.specs.Forms.{Form, run}
use Rattle.sa_parser_expr.specs.Grammar.{nested_to, read_as}
use Rattle.sa_parser_expr.proofs.SameLevels.{forms_same}
use Rattle.sa_grammar.proofs.Sound.{IsSound}
use Rattle.sa_grammar.proofs.Complete.{Reads}
use Rattle.sa_grammar.proofs.Exact.{unique, exact}

module _ {A : Type 0} (R : Spelling A) (form : Form A) (sound : (n : ℕ) → IsSound n (nested_to n) R form)
    (complete : (n : ℕ) (ls : List Lexeme) (a : A) → R ls a → length ls < n → Reads n (nested_to n) form (ls ++ []) a []) where
  pub form_unique : IsUnique R
  form_unique = unique R (λ n. run n (nested_to n) form) (λ n. (sound n).reader) (λ n ls a one small. (complete n ls a one small).is)

  pub form_exact : (ls : List Lexeme) → IsRead R ls (read_as form ls)
  unfolding read_as
  form_exact ls =
      exact R (λ n. run n (nested_to n) form) (λ n. (sound n).reader) (λ n ls a one small. (complete n ls a one small).is) ls
      (run (suc (length ls)) (nested_to (suc (length ls))) form ls)
      (λ n small. forms_same (suc (length ls)) n (suc (length ls)) (omega arith) (omega arith) form ls (omega arith))
