-- Each row of the tables of names is the first of its opcode.
use Rattle.std.proofs.Common.{◌≡◌, ℕ, List, Some, refl}
use Rattle.std.specs.Prelude.{Contains}
use Rattle.std.specs.List.{AllByRecursion}
use Rattle.std.proofs.lemmas.List.Elements.{All-contains, All-from_recursion}
use Rattle.wa_text.specs.Mnemonics.{access_names, name_in, plain_names}
use Rattle.wa_text.specs.Words.{Word}
use Rattle.wa_text.proofs.Rows.{each_passes, has_bytes, has_bytes-is}

-- a row names its opcode
abbrev IsFirst : List (ℕ × Word) → ℕ × Word → Type 0
IsFirst rows row = name_in rows row.0 ≡ Some row.1

plain_rows : AllByRecursion (IsFirst plain_names) plain_names
plain_rows = each_passes (λ row. has_bytes (name_in plain_names row.0) row.1) (IsFirst plain_names) (λ row h. has_bytes-is (name_in plain_names row.0) row.1 h) plain_names refl

access_rows : AllByRecursion (IsFirst access_names) access_names
access_rows = each_passes (λ row. has_bytes (name_in access_names row.0) row.1) (IsFirst access_names) (λ row h. has_bytes-is (name_in access_names row.0) row.1 h) access_names refl

pub plain_named : (opcode : ℕ) (w : Word) → Contains plain_names (opcode, w) → name_in plain_names opcode ≡ Some w
plain_named opcode w h = All-contains (IsFirst plain_names) plain_names (opcode, w) (All-from_recursion (IsFirst plain_names) plain_names plain_rows) h

pub access_named : (opcode : ℕ) (w : Word) → Contains access_names (opcode, w) → name_in access_names opcode ≡ Some w
access_named opcode w h = All-contains (IsFirst access_names) access_names (opcode, w) (All-from_recursion (IsFirst access_names) access_names access_rows) h
