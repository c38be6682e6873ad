use Rattle.std.proofs.Common.{◌≡◌, List, ℕ, ◌∷◌, true, drop, length, sym, ap, ◌∙◌, arith}
use Rattle.std.proofs.lemmas.Bool.Decides.{Decides-eqb}
use Rattle.std.proofs.lemmas.List.{length-map, take_rest}
use Rattle.std.proofs.lemmas.Slice.Eq.{slice_eq-Decides}
use denote.Ref.{Bor}
use Rattle.wa_text.specs.Reading.{texts}
use Rattle.wa_text.proofs.NoWords.{head_is}
use Rattle.wa_text.proofs.Pieces.{first_word}
use Rattle.wa_text.proofs.reader.words.following.Goals as goal

pub returns-then-eq : goal.returns-then-eq
returns-then-eq c =
    let words = c.args.words.now in
    let wanted = c.args.wanted.now in
    let same = (slice_eq-Decides Decides-eqb _ wanted c.eq.result c.eq.ensures).0 c.if-eq.true in
    first_word words _ (omega arith)
    ∙ ap (λ (first : List ℕ). first ∷ texts (drop 1 words)) same
    ∙ ap (λ (rest : List (Bor (List ℕ))). wanted ∷ texts rest) (sym (take_rest words 1))

pub returns-else-eq : goal.returns-else-eq
returns-else-eq c = λ rest h.
    let words = c.args.words.now in
    let wanted = c.args.wanted.now in
    let equal : c.eq.result ≡ true = (slice_eq-Decides Decides-eqb _ wanted c.eq.result c.eq.ensures).1 (head_is (sym (first_word words _ (omega arith)) ∙ h)) in
    let test = c.if-eq.false in
    let no : ⊥ = cc in
    no

pub returns-in_default : goal.returns-in_default
returns-in_default c = λ rest h. omega (arith, ap length h, length-map c.args.words.now (λ (b : Bor (List ℕ)). b.now))
