-- Lists of numbers.
use Rattle.std.specs.Prelude.{◌≡◌, ℕ, zero, suc, ◌+◌, ◌<◌, Bool, false, not, ◌||◌, ◌==◌, List, [], ◌∷◌, filter}

-- so many consecutive numbers
unfoldable pub numbers_from : ℕ → ℕ → List ℕ
numbers_from first zero = []
numbers_from first (suc count) = first ∷ numbers_from (first + 1) count

-- the number is in the list
abbrev pub is_in : List ℕ → ℕ → Bool
is_in [] n = false
is_in (x ∷ xs) n = (x == n) || is_in xs n

-- numbers less than a bound, each once
abbrev pub AreApartBelow : ℕ → List ℕ → Type 0
AreApartBelow bound [] = Unit {0}
AreApartBelow bound (x ∷ xs) = (x < bound) × (is_in xs x ≡ false) × AreApartBelow bound xs

-- the numbers less than a bound that aren't in the list
unfoldable pub others_below : ℕ → List ℕ → List ℕ
others_below bound xs = filter (λ n. not (is_in xs n)) (numbers_from 0 bound)
