-- What a source has left, if it specifies it, and what may follow an end.
use Rattle.std.specs.Prelude.{◌≡◌, ℕ, Bool, true, false, ◌==◌, List, [], ◌∷◌, length, Option, None, Some}
use Rattle.host_io.specs.Faults.{one_more}
use Rattle.host_io.specs.declared.source.Take.{Take}
use Rattle.host_io.specs.declared.source.Take.TheVariants.{Byte, End, Failed}

-- the bytes that are left, and how often the source has answered that none is left
pub record Input : Type 0 where
  pub left : List ℕ
  pub ends : ℕ

-- no byte is left
abbrev pub is_at_end : Input → Bool
is_at_end input = length input.left == 0

-- what an answer leaves of the input: a byte is the next one, an end comes only if none is left, and a fault changes nothing
abbrev pub Gives : Take → Option Input → Option Input → Type 0
Gives answer None after = after ≡ None
Gives (Byte b) (Some before) after =
    (rest : List ℕ) × (before.left ≡ b ∷ rest) × (after ≡ Some (record { left = rest; ends = before.ends }))
Gives End (Some before) after = (before.left ≡ []) × (after ≡ Some (record { left = []; ends = one_more before.ends }))
Gives Failed (Some before) after = after ≡ Some before

-- whether a source has reached its end, before an answer and after it: no byte follows an end
abbrev pub Ends : Take → (before after : Bool) → Type 0
Ends (Byte b) before after = before ≡ false
Ends End before after = after ≡ true
Ends Failed before after = after ≡ before
