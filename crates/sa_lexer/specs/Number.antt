-- Numbers.
use Rattle.std.specs.Prelude.{ℕ, ◌+◌, ◌*◌, ◌^◌, Bool, false, ◌||◌, ◌&&◌, ◌==◌, List, [], ◌∷◌, take}
use Rattle.std.specs.Prelude.{drop, Result, Ok, Err, fold, filter, codes, nat_eq, nat_le, if◌then◌else◌}
use Rattle.std.specs.List.{prefix_len, starts_with}
use Rattle.std.specs.Char.{digit_value, is_digit, is_ascii_alphanumeric}
use Rattle.sa_lexer.specs.declared.token.TokenKind.TheVariants.{Int}
use Rattle.sa_lexer.specs.declared.scan_result.ScannedToken.{ScannedToken}
use Rattle.sa_lexer.specs.declared.scan_result.Fault.{Fault}
use Rattle.sa_ast.specs.declared.rule.Rule.TheVariants as rule

-- the base by the prefix: `0x`, `0o`, `0b`, or none for decimal digits
abbrev pub base_of : List ℕ → ℕ
base_of bs =
    if starts_with nat_eq bs (codes "0x") then 16
    else (if starts_with nat_eq bs (codes "0o") then 8
    else (if starts_with nat_eq bs (codes "0b") then 2
    else 10))

-- how many bytes the prefix has
abbrev pub prefix_size : ℕ → ℕ
prefix_size base = if base == 10 then 0 else 2

-- a digit of the base in either case, or a `_`
abbrev pub is_digit_or_underscore : ℕ → ℕ → Bool
is_digit_or_underscore base b = is_digit b base || b == 0x5F

-- the value of digits, among which a `_` counts nothing
abbrev pub value_of : ℕ → List ℕ → ℕ
value_of base digits = fold (λ value d. value * base + digit_value d) 0 (filter (λ d. is_digit d base) digits)

-- a digit of the base is at the front
abbrev pub begins_with_digit : ℕ → List ℕ → Bool
begins_with_digit base [] = false
begins_with_digit base (b ∷ bs) = is_digit b base

-- what may not follow a number directly: a letter, a digit, or `.` and a digit
abbrev pub goes_on : List ℕ → Bool
goes_on [] = false
goes_on (b ∷ bs) = is_ascii_alphanumeric b || (b == 0x2E && begins_with_digit 10 bs)

-- a number of this value and length, which these bytes follow. A value that is too large is reported first
abbrev pub number_of : ℕ → ℕ → List ℕ → Result ScannedToken Fault
number_of value len rest =
    if nat_le (2 ^ 31) value then Err (record { rule = rule.NumberTooLarge; offset = 0 })
    else (if goes_on rest then Err (record { rule = rule.NumberForm; offset = 0 })
    else Ok (record { kind = Int value; len = len }))

-- the number at the front
unfoldable pub number_token : List ℕ → Result ScannedToken Fault
number_token bs =
    let base = base_of bs in
    let body = drop (prefix_size base) bs in
    let n = prefix_len (is_digit_or_underscore base) body in
    if begins_with_digit base body
    then number_of (value_of base (take n body)) (prefix_size base + n) (drop n body)
    else Err (record { rule = rule.NumberForm; offset = 0 })
