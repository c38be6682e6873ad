-- Texts of decimal digits.
use Rattle.std.proofs.Common.{◌≡◌, ◌<◌, ◌^◌, ℕ, true, rules, arith, List, length, Result, Ok, Err, None, inl, inr}
use Rattle.std.proofs.lemmas.Bool.{cases_lt}
use Rattle.std.proofs.lemmas.Bool.Decides.{nat_tests}
use Rattle.std.specs.Result.{result_ok}
use Rattle.sa_cli.specs.Numbers.{is_numeral, number_in}
use Rattle.std.specs.List.{list_all}
use Rattle.std.specs.Char.{is_ascii_digit}
use Rattle.std.specs.Str.Parse.{ParsesUnsigned, digits_value}
use Rattle.std.proofs.lemmas.Str.Parse.{IsNumeralModel, numerals_by_value, parse_digits}

-- the digits of std, as a test of each byte
pub numerals : IsNumeralModel (λ ds. list_all is_ascii_digit ds ≡ true) (digits_value 10)
numerals = numerals_by_value _ (record {
  empty = search rules;
  parts = search rules;
  more = search rules;
})

-- digits that aren't a number of 64 bits aren't one of a smaller range
pub number_none : {E : Type 0} (least most : ℕ) (text : List ℕ) (r : Result ℕ E) → ParsesUnsigned 64 10 text r → is_numeral text ≡ true → result_ok r ≡ None → most < 2 ^ 64 → number_in least most text ≡ None
number_none least most text (Ok x) parsed digits none small = cc
number_none least most text (Err e) parsed digits none small =
    let long : 0 < length text = grind (arith, nat_tests, digits) in
    let all : list_all is_ascii_digit text ≡ true = grind (arith, nat_tests, digits) in
    let over = parse_digits numerals 64 text (Err e) parsed all in
    elim (cases_lt (digits_value 10 text) (2 ^ 64)) [
      | inl fits ↦ absurd (over (long, fits))
      | inr past ↦ grind (arith, nat_tests, past, small)
    ]
