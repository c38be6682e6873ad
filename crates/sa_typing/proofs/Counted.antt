-- Counts of elements up to an index.
use Rattle.std.proofs.Common.{◌≡◌, ℕ, ◌+◌, ◌<◌, Bool, true, false, List, length, get_or, take, sym, ap, ◌∙◌}
use Rattle.std.proofs.lemmas.List.Sums.{count_by_more_no, count_by_more_yes}
use Rattle.std.specs.Prelude.{count_by}

-- one more element, which is counted or isn't
module _ {X : Type 0} (test : X → Bool) where
  pub count-yes : (xs : List X) (i : ℕ) (x : X) → i < length xs → x ≡ get_or xs i x → test x ≡ true → count_by test (take (i + 1) xs) ≡ count_by test (take i xs) + 1
  count-yes xs i x h e is = count_by_more_yes test xs i x h (ap test (sym e) ∙ is)

  pub count-no : (xs : List X) (i : ℕ) (x : X) → i < length xs → x ≡ get_or xs i x → test x ≡ false → count_by test (take (i + 1) xs) ≡ count_by test (take i xs)
  count-no xs i x h e is = count_by_more_no test xs i x h (ap test (sym e) ∙ is)

pub ruleset counts = (count-yes, count-no)
