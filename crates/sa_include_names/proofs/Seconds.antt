-- The second of the include clauses that pass a test.
use Rattle.std.proofs.Common.{◌≡◌, ℕ, ◌+◌, ◌<◌, ◌≤◌, Bool, true, false, cond, List, [], ◌∷◌, ◌++◌, length, get_or, take, refl, sym, ap, ◌∙◌, arith}
use Rattle.std.proofs.lemmas.List.{take_more}
use Rattle.std.proofs.lemmas.List.Sums.{sum_by-append}
use Rattle.std.proofs.lemmas.Option.{slice_get_read}
use Rattle.std.specs.Prelude.{count_by}
use Rattle.sa_ast.specs.declared.class.Include.{Include}
use Rattle.sa_include_names.specs.Includes.{IsSecond}

-- one clause more
pub count_more : (test : Include → Bool) (includes : List Include) (i : ℕ) (one : Include) → i < length includes → one ≡ get_or includes i one → count_by test (take (i + 1) includes) ≡ count_by test (take i includes) + cond (test one) 1 0
count_more test includes i one lt is =
    let joined = sum_by-append (λ x. cond (test x) 1 0) (take i includes) (one ∷ []) in
    let more = ap (count_by test) (take_more includes i one lt ∙ ap (λ x. take i includes ++ x ∷ []) (sym is)) in
    omega (arith, joined, more)

pub second-is : (test : Include → Bool) (includes : List Include) (i : ℕ) (clause : Include) (one passes : Bool) → i < length includes → clause ≡ get_or includes i clause → passes ≡ test clause → passes ≡ true → count_by test (take i includes) ≡ cond one 1 0 → one ≡ true → IsSecond test includes i
second-is test includes i clause one passes lt is tested held before known = record {
  clause = clause;
  at = slice_get_read includes (length includes) i clause refl lt is;
  passes = sym tested ∙ held;
  before = before ∙ ap (λ b. cond b 1 0) known;
}

pub ruleset seconds = (count_more, second-is)
