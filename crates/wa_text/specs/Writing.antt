-- What is written: the one thing that a form allows, if it allows any.
use Rattle.std.specs.Prelude.{◌≡◌, ℕ, List, ◌∷◌, ◌++◌, flat_map, Result, Ok}
use Rattle.std.specs.Global.{Vec}
use denote.Ref.{Bor, MutBor}
use Rattle.failure.specs.declared.no_memory.NoMemory.{NoMemory}
use Rattle.wa_text.specs.Forms.{Form}
use Rattle.wa_text.specs.Words.{Word, line_text}

-- a word after another: a blank, and the word
abbrev pub following : Word → List ℕ
following w = 32 ∷ w

-- the new text is the old one and items after it, as each is shown: if any items are of the form, these alone are
pub record Adds {X : Type 0} (show : X → List ℕ) (F : Form X) (old new : List ℕ) : Type 0 where
  pub items : List X
  pub only : (other : List X) → F other → other ≡ items
  pub is : new ≡ old ++ flat_map show items

-- words after the first of a line
abbrev pub AddsWords : Form Word → List ℕ → List ℕ → Type 0
AddsWords F old new = Adds following F old new

abbrev pub AddsLines : Form (List Word) → List ℕ → List ℕ → Type 0
AddsLines F old new = Adds line_text F old new

-- a call that succeeds, at the text before and at v, leaves the text after
pub record Leaves {V : Type 0} (post : MutBor (Vec ℕ) → Bor V → Result (Unit {0}) NoMemory → MutBor (Vec ℕ) → Type 0)
    (before : List ℕ) (v : V) (after : List ℕ) : Type 0 where
  pub old : MutBor (Vec ℕ)
  pub shown : Bor V
  pub new : MutBor (Vec ℕ)
  pub called : post old shown (Ok tt) new
  pub is_before : old.now.items ≡ before
  pub is_v : shown.now ≡ v
  pub is_after : new.now.items ≡ after
