-- The opcodes of the binary format have names.
use Rattle.std.proofs.Common.{◌≡◌, ℕ, zero, suc, ◌+◌, ◌<◌, ◌≤◌, Bool, true, false, List, Option, Some, None, refl, subst, inl, inr, arith}
use Rattle.std.proofs.lemmas.Bool.{cases_lt}
use Rattle.std.specs.Prelude.{◌&&◌}
use Rattle.wa_syntax.specs.BinaryInstructions.{IsAccess, IsBare, IsOfMemory}
use Rattle.wa_text.specs.Mnemonics.{access_names, name_in, plain_names}
use Rattle.wa_text.specs.Words.{Word, IsWord}
use Rattle.wa_text.proofs.Having.{is_word, tested}
use Rattle.wa_text.proofs.Rows.{both_true}

-- the opcode has a name in a table, which is a word
pub record HasName (names : List (ℕ × Word)) (op : ℕ) : Type 0 where
  pub name : Word
  pub named : name_in names op ≡ Some name
  pub is_word : IsWord name

word_found : Option Word → Bool
word_found None = false
word_found (Some w) = is_word w

abbrev is_named : List (ℕ × Word) → ℕ → Bool
is_named names op = word_found (name_in names op)

found : (names : List (ℕ × Word)) (op : ℕ) (o : Option Word) → name_in names op ≡ o → word_found o ≡ true → HasName names op
unfolding word_found
found names op None is h = let no : ⊥ = cc in absurd no
found names op (Some w) is h = record { name = w; named = is; is_word = tested w h }

-- so many numbers from one on pass
every : (ℕ → Bool) → ℕ → ℕ → Bool
every P low zero = true
every P low (suc n) = P low && every P (suc low) n

passes : (P : ℕ → Bool) (low n op : ℕ) → every P low n ≡ true → low ≤ op → op < low + n → P op ≡ true
unfolding every
passes P low zero op h least below = absurd (omega arith)
passes P low (suc n) op h least below =
    let parts = both_true (P low) (every P (suc low) n) h in
    elim (cases_lt low op) [
      | inl more ↦ passes P (suc low) n op parts.1 (omega arith) (omega arith)
      | inr at_most ↦
          let same : low ≡ op = omega arith in
          subst (λ (k : ℕ). P k ≡ true) same parts.0
    ]

-- each opcode of a range has a name, where this computes
named_from : (names : List (ℕ × Word)) (low n op : ℕ) → every (is_named names) low n ≡ true → low ≤ op → op < low + n → HasName names op
named_from names low n op h least below = found names op (name_in names op) refl (passes (is_named names) low n op h least below)

plain_range : (low n op : ℕ) → every (is_named plain_names) low n ≡ true → low ≤ op → op < low + n → HasName plain_names op
plain_range low n op = named_from plain_names low n op

pub bare_named : (op : ℕ) → IsBare op → HasName plain_names op
unfolding every word_found
bare_named op (inl h) = plain_range 0 2 op refl (omega arith) (omega arith)
bare_named op (inr (inl h)) = plain_range 15 1 op refl (omega arith) (omega arith)
bare_named op (inr (inr (inl h))) = plain_range 26 2 op refl (omega arith) (omega arith)
bare_named op (inr (inr (inr (inl h)))) = plain_range 69 22 op refl (omega arith) (omega arith)
bare_named op (inr (inr (inr (inr (inl h))))) = plain_range 103 36 op refl (omega arith) (omega arith)
bare_named op (inr (inr (inr (inr (inr (inl h)))))) = plain_range 167 1 op refl (omega arith) (omega arith)
bare_named op (inr (inr (inr (inr (inr (inr h)))))) = plain_range 172 2 op refl (omega arith) (omega arith)

pub of_memory_named : (op : ℕ) → IsOfMemory op → HasName plain_names op
unfolding every word_found
of_memory_named op h = plain_range 63 2 op refl (omega arith) (omega arith)

access_range : (low n op : ℕ) → every (is_named access_names) low n ≡ true → low ≤ op → op < low + n → HasName access_names op
access_range low n op = named_from access_names low n op

pub access_named : (op : ℕ) → IsAccess op → HasName access_names op
unfolding every word_found
access_named op (inl h) = access_range 40 2 op refl (omega arith) (omega arith)
access_named op (inr (inl h)) = access_range 44 12 op refl (omega arith) (omega arith)
access_named op (inr (inr h)) = access_range 58 5 op refl (omega arith) (omega arith)
