-- The items inside a literal, taken one by one.
use Rattle.std.proofs.Common.{◌≡◌, ℕ, zero, suc, ◌+◌, ◌-◌, ◌<◌, ◌≤◌, List, [], ◌∷◌, ◌++◌, length, drop, get_or, Option, Some, None, Result, Ok, Err, refl, sym, ap, ◌∙◌, append_assoc, arith}
use Rattle.std.proofs.lemmas.List.{append-nil, drop-drop, at_drop_more}
use Rattle.std.proofs.Math.ListN.{drop_of_length-le}
use Rattle.sa_ast.specs.declared.rule.Rule.TheVariants as rule
use Rattle.sa_lexer.specs.declared.literal.Item.{Item}
use Rattle.sa_lexer.specs.Literal.{item_at, items_from, following, bytes_of, character_of, character_of_byte}

-- no items are in bytes that belong to the one before
items_from-none : (n : ℕ) (bs : List ℕ) → length bs ≤ n → items_from n bs ≡ []
items_from-none n [] h = refl
items_from-none zero (b ∷ bs) h = absurd (omega arith)
items_from-none (suc n) (b ∷ bs) h = items_from-none n bs (omega arith)

-- bytes that belong to the item before are skipped
items_from-drop : (n : ℕ) (bs : List ℕ) → items_from n bs ≡ items_from 0 (drop n bs)
items_from-drop zero bs = refl
items_from-drop (suc n) [] = refl
items_from-drop (suc n) (b ∷ bs) = items_from-drop n bs

-- a character with one item inside
pub character_of-one : (len : ℕ) (item : Item) (inside : List ℕ) → item ≡ item_at (get_or inside 0 0) (drop 1 inside) → 0 < length inside → length inside ≤ item.len → character_of len (items_from 0 inside) ≡ character_of_byte len item.byte
character_of-one len item [] is more le = absurd (omega arith)
character_of-one len item (b ∷ bs) is more le =
    let whole : length bs ≤ (item_at b bs).len - 1 = omega (arith, ap (λ (i : Item). i.len) is) in
    rw (is, items_from-none ((item_at b bs).len - 1) bs whole) refl

character_of-rest : (len n : ℕ) (item : Item) (bs : List ℕ) → n < length bs → character_of len (item ∷ items_from n bs) ≡ Err (record { rule = rule.LiteralNotEnded; offset = 0 })
character_of-rest len n item [] h = absurd (omega arith)
character_of-rest len zero item (b ∷ bs) h = refl
character_of-rest len (suc n) item (b ∷ bs) h = character_of-rest len n item bs (omega arith)

-- a character with more than one item inside
pub character_of-more : (len : ℕ) (item : Item) (inside : List ℕ) → item ≡ item_at (get_or inside 0 0) (drop 1 inside) → 0 < item.len → item.len < length inside → character_of len (items_from 0 inside) ≡ Err (record { rule = rule.LiteralNotEnded; offset = 0 })
character_of-more len item [] is positive lt = absurd (omega arith)
character_of-more len item (b ∷ bs) is positive lt =
    character_of-rest len ((item_at b bs).len - 1) (item_at b bs) bs (omega (arith, ap (λ (i : Item). i.len) is))

-- what is read of a text: the bytes so far, and what comes after the bytes of its inside that are read
abbrev pub with_front : List ℕ → ℕ → Result (List ℕ) ℕ → Result (List ℕ) ℕ
with_front front at (Ok bytes) = Ok (front ++ bytes)
with_front front at (Err n) = Err (at + n)

-- the bytes so far are those of the first bytes of a text's inside
pub record ReadSoFar (inside front : List ℕ) (at : ℕ) : Type 0 where
  pub same : bytes_of (items_from 0 inside) ≡ with_front front at (bytes_of (items_from 0 (drop at inside)))

with_front-none : (r : Result (List ℕ) ℕ) → r ≡ with_front [] 0 r
with_front-none (Ok bytes) = refl
with_front-none (Err n) = ap Err (omega arith)

pub ReadSoFar-none : (inside : List ℕ) → ReadSoFar inside [] 0
ReadSoFar-none inside = record { same = with_front-none (bytes_of (items_from 0 inside)) }

-- the items from a position on, where an item is
items_from-at : (item : Item) (inside : List ℕ) (at : ℕ) → item ≡ item_at (get_or inside at 0) (drop (at + 1) inside) → 0 < item.len → at < length inside → items_from 0 (drop at inside) ≡ item ∷ items_from 0 (drop (at + item.len) inside)
items_from-at item inside at is positive lt =
    let next : at + 1 + (item.len - 1) ≡ at + item.len = omega arith in
    let rest : items_from (item.len - 1) (drop (at + 1) inside) ≡ items_from 0 (drop (at + item.len) inside) =
    items_from-drop (item.len - 1) (drop (at + 1) inside) ∙ ap (λ (l : List ℕ). items_from 0 l) (drop-drop (item.len - 1) (at + 1) inside ∙ ap (λ (n : ℕ). drop n inside) next) in
    at_drop_more (items_from 0) inside at 0 lt ∙ ap (λ (i : Item). i ∷ items_from (i.len - 1) (drop (at + 1) inside)) (sym is) ∙ ap (λ (items : List Item). item ∷ items) rest

with_front-byte : (front : List ℕ) (at b : ℕ) (item : Item) (r : Result (List ℕ) ℕ) → with_front front at (following item (Some b) r) ≡ with_front (front ++ b ∷ []) (at + item.len) r
with_front-byte front at b item (Ok bytes) = ap Ok (sym (append_assoc front (b ∷ []) bytes))
with_front-byte front at b item (Err n) = ap Err (omega arith)

module _ (inside front : List ℕ) (at : ℕ) (item : Item) (before : ReadSoFar inside front at) (is : item ≡ item_at (get_or inside at 0) (drop (at + 1) inside)) (positive : 0 < item.len) (lt : at < length inside) where
  bytes_of-at : bytes_of (items_from 0 inside) ≡ with_front front at (following item item.byte (bytes_of (items_from 0 (drop (at + item.len) inside))))
  bytes_of-at = before.same ∙ ap (λ (items : List Item). with_front front at (bytes_of items)) (items_from-at item inside at is positive lt)

  -- an item that denotes a byte
  pub ReadSoFar-more : (b : ℕ) → item.byte ≡ Some b → ReadSoFar inside (front ++ b ∷ []) (at + item.len)
  ReadSoFar-more b byte = record {
    same = bytes_of-at ∙ ap (λ (o : Option ℕ). with_front front at (following item o (bytes_of (items_from 0 (drop (at + item.len) inside))))) byte ∙ with_front-byte front at b item (bytes_of (items_from 0 (drop (at + item.len) inside)));
  }

  -- an escape that denotes none
  pub bytes_of-stop : item.byte ≡ None → bytes_of (items_from 0 inside) ≡ Err (at + 0)
  bytes_of-stop byte = bytes_of-at ∙ ap (λ (o : Option ℕ). with_front front at (following item o (bytes_of (items_from 0 (drop (at + item.len) inside))))) byte

-- no bytes are left
pub bytes_of-all : (inside front : List ℕ) (at : ℕ) → ReadSoFar inside front at → length inside ≤ at → bytes_of (items_from 0 inside) ≡ Ok front
bytes_of-all inside front at before le =
    before.same ∙ ap (λ (l : List ℕ). with_front front at (bytes_of (items_from 0 l))) (drop_of_length-le inside le) ∙ ap Ok (append-nil front)
